use Rattle.std.specs.Prelude.{◌≡◌, ℕ, ◌+◌, ◌*◌, ◌%◌, ◌^◌, ◌<◌, ◌≤◌, not, eqb, ◌≢◌, List, [], length, get_or, take}
use native.Mathlib.Nat.{one-mul}
use lib.Pow.{shl_exact}
use native.Mathlib.Omega.{arith}
use mathlib.Core.Path.{ap, ap₂, sym, ◌∙◌}
use lib.Dec.{lit<}
use lib.Seq.{get_or-take, length-take-le}
use Rattle.theory.specs.Automaton.{Automaton, accepts}
use Rattle.theory.specs.Places.{collect, union, intersection, none}
use Rattle.finding.specs.States.{accepting_standings}
use Rattle.finding.specs.Plain.{plain}
use Rattle.finding.specs.CollectLaws.{collect-none, collect-yes, collect-no, collect-agree, accepts-yes, accepts-no}
use Rattle.finding.proofs.flags.accepting_standings.Invariants.{meets}
use Rattle.finding.proofs.flags.accepting_standings.Goals as goal
use Rattle.finding.proofs.flags.accepting_standings.Goals.{else-number_at-accepting-ne0, then-number_at-accepting-ne0}

passes : (found : List ℕ) (accepting i s : ℕ) → s ≡ get_or found i 0 → intersection s accepting ≢ 0 → i < 64
    → union (collect (meets found accepting) i) (1 * 2 ^ i % 2 ^ 64) ≡ collect (meets found accepting) (i + 1)
passes found accepting i s e h l =
    collect-yes (meets found accepting) i (1 * 2 ^ i % 2 ^ 64) (ap (accepts (plain [] [] accepting)) (sym e) ∙ accepts-yes accepting s h)
    (shl_exact {a = 1} 1 i 64 (lit< tt) (omega arith) ∙ one-mul (2 ^ i))

fails : (found : List ℕ) (accepting i s : ℕ) → s ≡ get_or found i 0 → intersection s accepting ≡ 0
    → collect (meets found accepting) i ≡ collect (meets found accepting) (i + 1)
fails found accepting i s e h =
    collect-no (meets found accepting) i (ap (accepts (plain [] [] accepting)) (sym e) ∙ accepts-no accepting s h)

told : (A : Automaton) (found : List ℕ) (accepting count : ℕ) → A.accepting ≡ accepting → count ≤ length found
    → collect (meets found accepting) count ≡ accepting_standings A (take count found)
unfolding accepting_standings accepts
told A found accepting count a h =
    collect-agree (meets found accepting) (λ i. accepts A (get_or (take count found) i 0)) count same
    ∙ ap (collect (λ i. accepts A (get_or (take count found) i 0))) (sym (length-take-le count found h))
  where
    same : (i : ℕ) → i < count → meets found accepting i ≡ accepts A (get_or (take count found) i 0)
    same i l = ap₂ (λ s t. not (eqb (intersection s t) none)) (sym (get_or-take count found i 0 l)) (sym a)

pub returns-then-count-gt64 : goal.returns-then-count-gt64
returns-then-count-gt64 c = λ A e h k. absurd (omega arith)

pub loop-i-init : goal.loop-i-init
loop-i-init c = (omega arith, collect-none _)

pub loop-i-preserved : goal.loop-i-preserved
loop-i-preserved c =
    let a = c.args in
    let l = c.loop-i in
    let at = c.number_at in (
      l.invariant.0,
      (elim c.if-number_at-accepting-ne0.branch [
        | then-number_at-accepting-ne0 w ↦ w.numbers-is ∙ (ap (λ n. union n (1 * 2 ^ l.i % 2 ^ 64)) l.invariant.1
            ∙ passes a.found.now a.accepting.0 l.i at.result at.ensures w.if-number_at-accepting-ne0.true (omega arith))
        | else-number_at-accepting-ne0 w ↦ w.numbers-is ∙ (l.invariant.1 ∙ fails a.found.now a.accepting.0 l.i at.result at.ensures w.if-number_at-accepting-ne0.false)
      ]),
    )

pub returns : goal.returns
returns c =
    let found = c.args.found.now in
    let e : c.loop-i.i ≡ c.args.count = omega arith in
    λ A a h k. c.loop-i.invariant.1 ∙ (ap (collect (meets found _)) e ∙ told A found _ _ a k)
