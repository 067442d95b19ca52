use Prim.Native.Nat.{ℕ, ◌-◌}
use mathlib.Core.Path.{◌≡◌, ap, ◌∙◌}
use lib.ListN.{length, take, drop, length-drop}
use lib.Seq.{take_all}
use Rattle.syntax.specs.declared.refusal.Refusal.TheVariants.{BadLine}
use Rattle.syntax.specs.Byte.{Bytes}
use Rattle.reading.specs.Text.{newline}
use Rattle.reading.specs.Lent.{same-whole}
use Rattle.reading.specs.LabelLaws.{labels-held}
use Rattle.reading.specs.Scan.{first}
use Rattle.reading.specs.RowRoom.{fewer-rows, roomy-refused}
use Rattle.reading.specs.Underway.{underway-first, underway-next, line-within, loaded-unclosed, loaded-fault, loaded-early, loaded-job, list-within, roomy-lists}
use native.Mathlib.Omega.{arith}
use Rattle.std.proofs.Common.{Option, Some, None, Ok, Err, sym, rules}
use Rattle.reading.specs.Answering.{refused_at}
use Rattle.reading.proofs.reader.lines.Goals as goal

-- The bytes before the line's end.
rest : (text : Bytes) (at : ℕ) {x : Option ℕ} → first newline (take (length text - at) (drop at text)) ≡ x → first newline (drop at text) ≡ x
rest text at e = ap (first newline) (sym (take_all (length text - at) (drop at text) (omega (arith, length-drop at text)))) ∙ e

pub loop-at-init : goal.loop-at-init
loop-at-init c = record {
  within = omega arith;
  few = omega arith;
  underway = underway-first c.args.text.now _ c.requires.0;
  same = search rules;
}

pub returns-in_err-size : goal.returns-in_err-size
returns-in_err-size c =
    let t = c.args.text.now in
    let l = c.loop-at in
    let none : c.find_byte.result ≡ None = search rules in
    let same : c.from_residual.result ≡ Err (refused_at BadLine l.n) = search rules in
    rw same (record {
      same = search rules;
      loaded = loaded-unclosed t l.at l.n l.p _ l.invariant.underway c.loop-at-test.true _ (rest t l.at (sym c.find_byte.ensures ∙ none));
      roomy = roomy-refused _ l.n _ _;
    })

pub line-requires : goal.line-requires
line-requires c =
    let t = c.args.text.now in
    let l = c.loop-at in
    let found : c.find_byte.result ≡ Some c.in_ok-size.size = search rules in (
      record {
        few-labels = omega (arith, labels-held l.invariant.underway.held, l.invariant.underway.held.few-labels);
        rows = fewer-rows (list-within t l.at l.n l.p _ l.invariant.underway) l.invariant.same.6 l.invariant.same.7 c.requires.1;
        whole = same-whole l.tables l.invariant.same c.requires.2;
      },
      omega (arith, line-within t l.at l.n l.p _ l.invariant.underway _ (rest t l.at (sym c.find_byte.ensures ∙ found))),
    )

pub returns-in_err-p : goal.returns-in_err-p
returns-in_err-p c =
    let t = c.args.text.now in
    let l = c.loop-at in
    let r = c.in_err-p.field-0.0.refusal in
    let found : c.find_byte.result ≡ Some c.in_ok-size.size = search rules in
    let told : c.line.result ≡ Err r = search rules in
    let same : c.from_residual-in_err-p.result ≡ Err (refused_at r l.n) = search rules in
    rw same (record {
      same = search rules;
      loaded =
          loaded-fault t l.at l.n l.p _ l.invariant.underway _ (rest t l.at (sym c.find_byte.ensures ∙ found)) c.line.ensures.gives _ told;
      roomy = roomy-refused _ l.n _ _;
    })

pub loop-at-preserved : goal.loop-at-preserved
loop-at-preserved c =
    let t = c.args.text.now in
    let l = c.loop-at in
    let found : c.find_byte.result ≡ Some c.in_ok-size.size = search rules in
    let told : c.line.result ≡ Ok c.in_ok-p.p = search rules in
    record {
      within = omega (arith, line-within t l.at l.n l.p _ l.invariant.underway _ (rest t l.at (sym c.find_byte.ensures ∙ found)));
      few = omega (arith, l.invariant.few);
      underway =
          underway-next t l.at l.n l.p _ l.invariant.underway _ (rest t l.at (sym c.find_byte.ensures ∙ found)) c.line.ensures.gives _ told;
      same = search rules;
    }

pub returns-then-p : goal.returns-then-p
returns-then-p c =
    let t = c.args.text.now in
    let l = c.loop-at in
    record {
      same = search rules;
      loaded = loaded-job t l.at l.n l.p _ l.invariant.underway c.loop-at-test.false c.if-p.true;
      roomy = roomy-lists t l.at l.n l.p _ l.invariant.underway (fewer-rows (omega arith) l.invariant.same.6 l.invariant.same.7 c.requires.1);
    }

pub returns-else-p : goal.returns-else-p
returns-else-p c =
    let l = c.loop-at in
    record {
      same = search rules;
      loaded = loaded-early c.args.text.now l.at l.n l.p _ l.invariant.underway c.loop-at-test.false c.if-p.false;
      roomy = roomy-refused _ l.n _ _;
    }
