use Rattle.std.specs.Prelude.{◌≡◌, ℕ, suc, ◌+◌, ◌-◌, ◌*◌, ◌<◌, ◌≤◌, List, get_or}
use mathlib.Core.Bool.{true≢false}
use native.Mathlib.Decide.{ℕ_discrete}
use Rattle.finding.specs.LevelTold.{level_at}
use native.Mathlib.Omega.{arith}
use Rattle.finding.proofs.level.StateTable.sweep.Invariants.{SettledFrom}
use Rattle.finding.proofs.level.StateTable.sweep.Goals as goal

settled-more : (table : List ℕ) (lists states : ℕ) (levels : List ℕ) (s : ℕ) {levels' : List ℕ} → levels' ≡ levels → 0 < s
    → ((v : ℕ) → v < lists → level_at levels (s - 1) ≤ suc (level_at levels (get_or table (16 * (s - 1) + v) 0)))
    → SettledFrom table lists states levels s → SettledFrom table lists states levels' (s - 1)
settled-more table lists states levels s e h new old q v a b k = rw e (side (ℕ_discrete q (s - 1)))
  where
    side : Dec (q ≡ s - 1) → level_at levels q ≤ suc (level_at levels (get_or table (16 * q + v) 0))
    side (yes d) = rw d (new v k)
    side (no d) = old q v (omega arith) b k

pub loop-s-init : goal.loop-s-init
loop-s-init c =
    (c.requires, λ flags K. K, λ f q v a b. absurd (omega arith))

pub lower-requires : goal.lower-requires
lower-requires c =
    let l = c.loop-s in (
      omega arith,
      l.invariant.0,
    )

pub loop-s-preserved-then-lower : goal.loop-s-preserved-then-lower
loop-s-preserved-then-lower c =
    let l = c.loop-s in
    let told = c.lower.ensures in
    let rows = c.args.self.now.lent.rows in (
      told.sized,
      λ flags K. told.known _ flags (omega arith) rows.next (l.invariant.1 flags K),
      λ f. absurd (true≢false f),
    )

pub loop-s-preserved : goal.loop-s-preserved
loop-s-preserved c =
    let l = c.loop-s in
    let a = c.args in
    let told = c.lower.ensures in
    let rows = a.self.now.lent.rows in (
      told.sized,
      λ flags K. told.known _ flags (omega arith) rows.next (l.invariant.1 flags K),
      λ f. settled-more a.self.now.table.now a.self.now.lists a.self.now.states l.levels l.s (told.still c.if-lower.false) (omega arith)
          (told.settled c.if-lower.false) (l.invariant.2 f),
    )

pub returns : goal.returns
returns c =
    let l = c.loop-s in
    record {
      sized = l.invariant.0;
      known = l.invariant.1;
      settled = λ f flags q v h k. l.invariant.2 f q v (omega arith) h k;
    }
