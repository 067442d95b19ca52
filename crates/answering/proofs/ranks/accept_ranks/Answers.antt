use Rattle.std.specs.Prelude.{◌≡◌, ℕ, get_or}
use mathlib.Core.Path.{sym, ap, ◌∙◌}
use Rattle.answering.specs.Ranks.{member-room, accepted-pass, accepted-put}
use native.Mathlib.Omega.{arith}
use Rattle.answering.proofs.ranks.accept_ranks.Goals as goal
use Rattle.answering.proofs.ranks.accept_ranks.Goals.{else-flags-from-eq1, then-flags-from-eq1}

pub bounds-flags-from : goal.bounds-flags-from
bounds-flags-from c =
    omega (arith, c.from.ensures, c.requires.2 c.loop-r.r (omega arith))

pub put-requires : goal.put-requires
put-requires c =
    let p = c.requires in
    member-room c.loop-r.accepts p.0 (omega (arith, p.3)) (omega arith)

pub loop-r-preserved : goal.loop-r-preserved
loop-r-preserved c =
    let l = c.loop-r in
    let p = c.requires in
    let flag : ℕ → ℕ = λ s. get_or c.args.flags.now s 0 in
    let same = ap flag c.from.ensures in
    (elim c.if-flags-from-eq1.branch [
      | then-flags-from-eq1 w ↦ rw (w.accepts-is, w.put.ensures)
          (accepted-put l.invariant p.0 (omega (arith, p.3)) (omega arith) (sym same ∙ w.if-flags-from-eq1.true))
      | else-flags-from-eq1 w ↦ rw w.accepts-is (accepted-pass l.invariant (λ q. w.if-flags-from-eq1.false (same ∙ q)))
    ])

pub returns : goal.returns
returns c =
    let e : c.loop-r.r ≡ c.args.count = omega arith in
    rw e at c.loop-r.invariant
