use Rattle.std.specs.Prelude.{◌≡◌, ℕ, ◌+◌, ◌-◌, ◌*◌, ◌/◌, ◌<◌, ◌≤◌, false, length, get_or}
use Rattle.std.proofs.lemmas.Bool.{false≢true}
use Rattle.std.proofs.Common.{refl, sym, subst, arith, length-set}
use Rattle.theory.specs.Graph.{Table}
use Rattle.answering.specs.Table.{most_links, is_table}
use Rattle.answering.specs.TableSteps.{triple_number, RiseUpTo, RiseNever, table-too-long, table-uneven}
use Rattle.answering.specs.TableSteps.{rise-end, label-out, last_out, unordered, first-in, rise-more, table-rises, table-fails}
use Rattle.answering.specs.LinkBegins.{begun-none, begun_more, begun_all}
use Rattle.answering.proofs.table.index_table.Goals as goal

-- A triple that refuses the table.
refused : (N k : ℕ) (t : Table) → length t ≤ 3 * most_links → ((i : ℕ) → get_or t i 0 < 65536) → (m : ℕ)
    → 3 * m + 2 < length t → RiseNever N k t (3 * m) → false ≡ is_table N k t
refused N k t short narrow m h f = sym (table-fails N k t short narrow m h f)

pub returns-then-table : goal.returns-then-table
returns-then-table c =
    let a = c.args in
    record { value = sym (table-too-long a.recordings a.symbols a.table.now c.if-table.true); listed = λ e. absurd (false≢true e) }

pub returns-then-table-ne0 : goal.returns-then-table-ne0
returns-then-table-ne0 c =
    let a = c.args in
    record { value = sym (table-uneven a.recordings a.symbols a.table.now c.if-table-ne0.true); listed = λ e. absurd (false≢true e) }

pub loop-at-init : goal.loop-at-init
loop-at-init c =
    let a = c.args in
    let t = a.table.now in
    let e = c.number_of-after.ensures in
    record {
      within = omega arith;
      below = omega arith;
      rest =
          subst (RiseUpTo a.recordings a.symbols t (3 * (length t / 3))) (sym e)
          (rise-end a.recordings a.symbols t (3 * (length t / 3)) (omega arith));
      long = refl;
      begun = begun-none c.requires.1;
    }

pub returns-then-recordings-y : goal.returns-then-recordings-y
returns-then-recordings-y c =
    let a = c.args in
    let m = c.loop-at.at - 1 in
    let narrow : (i : ℕ) → get_or a.table.now i 0 < 65536 = λ i. omega (arith, c.type_inv.table i) in
    record {
      value =
          refused a.recordings a.symbols a.table.now (omega arith) narrow m (omega arith)
          (last_out a.recordings a.symbols a.table.now (3 * m) (omega arith) (omega arith));
      listed = λ e. absurd (false≢true e);
    }

pub returns-then-symbols-a : goal.returns-then-symbols-a
returns-then-symbols-a c =
    let a = c.args in
    let m = c.loop-at.at - 1 in
    let narrow : (i : ℕ) → get_or a.table.now i 0 < 65536 = λ i. omega (arith, c.type_inv.table i) in
    record {
      value =
          refused a.recordings a.symbols a.table.now (omega arith) narrow m (omega arith)
          (label-out a.recordings a.symbols a.table.now (3 * m) (omega arith) (omega arith));
      listed = λ e. absurd (false≢true e);
    }

pub number_of-number-requires : goal.number_of-number-requires
number_of-number-requires c =
    let m = c.loop-at.at - 1 in
    let known = c.type_inv.table in
    (omega (arith, known (3 * m)), omega (arith, known (3 * m + 1)), omega (arith, known (3 * m + 2)))

pub returns-then-after-number : goal.returns-then-after-number
returns-then-after-number c =
    let a = c.args in
    let l = c.loop-at in
    let t = a.table.now in
    let m = l.at - 1 in
    let e : 3 * l.at ≡ 3 * m + 3 = omega arith in
    let narrow : (i : ℕ) → get_or t i 0 < 65536 = λ i. omega (arith, c.type_inv.table i) in
    record {
      value =
          refused a.recordings a.symbols t (omega arith) narrow m (omega arith)
          (unordered a.recordings a.symbols t (3 * m) (omega arith) (omega arith) (omega arith) narrow l.after l.invariant.below
          (subst (λ i. RiseUpTo a.recordings a.symbols t i l.after) e l.invariant.rest) (omega arith));
      listed = λ e. absurd (false≢true e);
    }

pub loop-at-preserved : goal.loop-at-preserved
loop-at-preserved c =
    let a = c.args in
    let l = c.loop-at in
    let t = a.table.now in
    let m = l.at - 1 in
    let e : 3 * l.at ≡ 3 * m + 3 = omega arith in
    let f : m + 1 ≡ l.at = omega arith in
    let narrow : (i : ℕ) → get_or t i 0 < 65536 = λ i. omega (arith, c.type_inv.table i) in
    let n = c.number_of-number.result in
    let number : triple_number (get_or t (3 * m) 0) (get_or t (3 * m + 1) 0) (get_or t (3 * m + 2) 0) ≡ n = omega
    (arith, c.number_of-number.ensures, c.from-x.ensures, c.from-a.ensures, c.from-y.ensures) in
    let below = l.invariant.below in
    let rest = subst (λ i. RiseUpTo a.recordings a.symbols t i l.after) e l.invariant.rest in
    let leaves : get_or t (3 * m) 0 < a.recordings =
    first-in a.recordings a.symbols t (3 * m) (omega arith) (omega arith) (omega arith) narrow l.after below rest (omega arith) in
    record {
      within = omega arith;
      below = omega arith;
      rest =
          subst (λ n. RiseUpTo a.recordings a.symbols t (3 * m) n) number
          (rise-more a.recordings a.symbols t (3 * m) (omega arith) (omega arith) (omega arith) narrow l.after below rest
          (omega arith));
      long = simp length-set l.invariant.long;
      begun =
          begun_more {begins = l.begins} (omega arith) (omega (arith, c.requires.1.fits, l.invariant.long)) c.from-x.ensures
          (rw f l.invariant.begun);
    }

pub returns : goal.returns
returns c =
    let a = c.args in
    let l = c.loop-at in
    let e : l.at ≡ 0 = omega arith in
    let f : 3 * l.at ≡ 0 = omega arith in
    record {
      value =
          sym (table-rises a.recordings a.symbols a.table.now (omega arith) (λ i. omega (arith, c.type_inv.table i))
          l.after (subst (λ i. RiseUpTo a.recordings a.symbols a.table.now i l.after) f l.invariant.rest));
      listed = λ z. begun_all (omega (arith, c.requires.1.fits, l.invariant.long)) (rw e at l.invariant.begun);
    }
