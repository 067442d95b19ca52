-- The tables that reading a job fills are fit for the verdict (VerdictTold), and the verdict on them is the verdict on the job.
use Rattle.std.specs.Prelude.{◌≡◌, ℕ, zero, suc, ◌+◌, ◌*◌, ◌^◌, ◌<◌, ◌≤◌, List, [], ◌∷◌, map, length, get_or, drop, slice_index, slice_index_or}
use Rattle.std.specs.Prelude.{refl}
use Rattle.std.proofs.Math.Path.{sym}
use Rattle.std.proofs.Common.{ap, ap₂, ◌∙◌, subst, add-one, arith, length-drop, length-take-le}
use Rattle.theory.specs.Expression.{Expression}
use Rattle.theory.specs.Standing.{size}
use Rattle.theory.specs.Job.{Job}
use Rattle.theory.specs.Automaton.{Automaton, glushkov, first, follows}
use Rattle.theory.proofs.AutomatonLaws.{first_below, follows-below}
use Rattle.finding.specs.Find.{Rewriting, found, find}
use Rattle.finding.specs.ListWidth.{glushkov-width}
use Rattle.finding.specs.FoundSizes.{job-sizes}
use Rattle.finding.specs.RowsFit.{RowsFit}
use Rattle.finding.specs.FindLaws.{find-finds}
use Rattle.verdict.specs.Verdict.{verdict}
use Rattle.verdict.specs.VerdictJob.{verdict_found, verdict_job}
use Rattle.finding.specs.RewrittenLaws.{finds-decides}
use Rattle.verdict.specs.Tables.{automaton_at, automata_from, automata_of, rewritten}
use Rattle.verdict.specs.TablesLaws.{follow-at}
use Rattle.verdict.specs.PairsTold.{lent}
use Rattle.verdict.specs.VerdictTold.{Fit, verdict_of}
use Rattle.verdict.specs.VerdictOperation.{JobGiven}

-- The follow sets of an expression's automaton hold its own places alone.
glushkov-follows : (e : Expression) (o : ℕ) → slice_index (glushkov e).follow o < 2 ^ length (glushkov e).follow
unfolding glushkov
glushkov-follows e o = subst (λ n. slice_index (first 1 e ∷ follows 1 e) o < 2 ^ n) (sym (glushkov-width e)) (at o)
  where
    wide : 1 + size e ≡ suc (size e)
    wide = omega arith

    at : (o : ℕ) → slice_index (first 1 e ∷ follows 1 e) o < 2 ^ suc (size e)
    at zero = subst (λ n. first 1 e < 2 ^ n) wide (first_below 1 e)
    at (suc i) = subst (λ n. slice_index (follows 1 e) i < 2 ^ n) wide (follows-below 1 e i)

listed-follows : (l : List Expression) (v o : ℕ) (B : Automaton) → v < length l
    → slice_index (get_or (map glushkov l) v B).follow o < 2 ^ length (get_or (map glushkov l) v B).follow
listed-follows [] v o B h = absurd (omega arith)
listed-follows (e ∷ l) zero o B h = glushkov-follows e o
listed-follows (e ∷ l) (suc v) o B h = listed-follows l v o B (omega arith)

-- The automata of the lists, from the list number v on, are those that the tables hold there.
same-automata : (follow enter sizes accepting : List ℕ) (Bs : List Automaton) (v : ℕ)
    → ((i : ℕ) (B : Automaton) → i < length Bs → automaton_at follow enter sizes accepting (suc (v + i)) ≡ slice_index_or Bs i B)
    → automata_from follow enter sizes accepting v (length Bs) ≡ Bs
unfolding automata_from
same-automata follow enter sizes accepting [] v h = refl
same-automata follow enter sizes accepting (C ∷ Bs) v h =
    let e : v + 1 ≡ suc (v + 0) = omega arith in
    ap₂ ◌∷◌ (ap (automaton_at follow enter sizes accepting) e ∙ h 0 C (omega arith))
    (same-automata follow enter sizes accepting Bs (v + 1) (λ i B k.
    let d : suc ((v + 1) + i) ≡ suc (v + suc i) = omega arith in
    ap (automaton_at follow enter sizes accepting) d ∙ h (suc i) B (omega arith)))

module _ {J : Job} {follow enter sizes accepting : List ℕ} {labels lists : ℕ}
    (g : JobGiven J follow enter sizes accepting labels lists) where
  given-lists : automata_of follow enter sizes accepting lists ≡ map glushkov J.lists
  given-lists =
      subst (λ n. automata_from follow enter sizes accepting 0 n ≡ map glushkov J.lists) g.holding.size
      (same-automata follow enter sizes accepting (map glushkov J.lists) 0 (λ i B h.
      let e : suc (0 + i) ≡ suc i = omega arith in
      ap (automaton_at follow enter sizes accepting) e ∙ (g.holding.listed i B (omega (arith, g.holding.size))).same))

  -- The row of a list.

  small : (v : ℕ) → v < lists → slice_index sizes (v + 1) ≤ 63
  small v h = subst (λ x. slice_index sizes x ≤ 63) (sym (add-one v)) (g.holding.listed v (glushkov J.query) h).fits

  sets : RowsFit lists follow enter → (v o : ℕ) → v < lists → o ≤ slice_index sizes (v + 1)
      → slice_index follow (64 * (v + 1) + o) < 2 ^ suc (slice_index sizes (v + 1))
  sets rows v o h k =
      let A = automaton_at follow enter sizes accepting (v + 1) in
      let B = glushkov J.query in
      let same : A ≡ get_or (map glushkov J.lists) v B =
      ap (automaton_at follow enter sizes accepting) (add-one v) ∙ (g.holding.listed v B h).same in
      let within : get_or A.follow o 0 < 2 ^ length A.follow =
      subst (λ (C : Automaton). slice_index C.follow o < 2 ^ length C.follow) (sym same)
      (listed-follows J.lists v o B (omega (arith, g.lists-told))) in
      let long : length A.follow ≡ suc (slice_index sizes (v + 1)) =
      length-take-le (suc (slice_index sizes (v + 1))) (drop (64 * (v + 1)) follow)
      (omega (arith, rows.lists_follow g.few-lists, small v h, length-drop (64 * (v + 1)) follow)) in
      subst (λ n. slice_index follow (64 * (v + 1) + o) < 2 ^ n) long
      (subst (λ n. n < 2 ^ length A.follow) (follow-at follow enter sizes accepting (v + 1) o k) within)

  -- Of the rewriting that Find gives.
  module _ (R : Rewriting) (e : find J ≡ found R) {states : ℕ} {table flags : List ℕ} (s : R.states ≡ states) (t : table ≡ R.table)
      (f : flags ≡ R.flags) where
    pub given-verdict : (allowance : ℕ)
        → verdict_of (lent states labels lists follow enter sizes accepting table) flags 1024 allowance ≡ verdict_job J allowance
    unfolding verdict_job
    given-verdict allowance =
        (λ i. verdict (g.holding.query.same i) (sym g.labels-told i) (rewritten (sym s i) (t i) (f i)) (given-lists i) 1024 allowance)
        ∙ sym (ap (verdict_found J allowance) e)

    pub given-fit : RowsFit lists follow enter → length sizes ≡ 17 → length accepting ≡ 17
        → Fit (lent states labels lists follow enter sizes accepting table) flags
    given-fit long sizes-long accepting-long =
        let sized = job-sizes J R e in
        let rows = sized.table (omega (arith, g.lists-told, g.few-lists)) in
        let decides = finds-decides J R (find-finds J g.formed (omega (arith, g.lists-told, g.few-lists)) R e) in
        record {
          counted = record { few = g.few-lists; room = omega (arith, g.few-lists); small = small };
          follow-room = omega (arith, long.lists_follow g.few-lists);
          enter-room = omega (arith, long.lists_enter g.few-lists);
          accepting-room = omega (arith, g.few-lists);
          table-room = omega (arith, ap length t, rows);
          flags-room = omega (arith, ap length f, sized.flags);
          few-labels = g.few-labels;
          query = g.holding.query.fits;
          sets = sets long;
          some-state = omega (arith, decides.some-state);
          next = λ q v h k.
              subst (λ l. slice_index l (16 * q + v) < states) (sym t)
              (subst (λ n. slice_index R.table (16 * q + v) < n) s (decides.next q v (omega arith) (omega (arith, g.lists-told))));
        }
