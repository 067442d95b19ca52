-- Where there is room, the sweep tells what the exploration tells; with a limit of 0 the start is already too much.
use native.Mathlib.Omega.{arith}
use Rattle.finding.specs.StandingsTold.{standings-told, standings-none}
use Rattle.finding.specs.Count.{high-limit, many-labels, few-enters, count-told}
use Rattle.finding.proofs.standings.Standings.explore.Goals as goal
use Rattle.finding.proofs.standings.Standings.explore.Goals.{then-limit-gt64-via-then-limit-gt64, then-limit-gt64-via-else-limit-gt64+then-labels-gt32, then-limit-gt64-via-else-limit-gt64+else-labels-gt32+then-labels-enter, then-limit-gt64-via-else-limit-gt64+else-labels-gt32+else-labels-enter+then-limit-eq0}

pub returns-then-limit-gt64 : goal.returns-then-limit-gt64
returns-then-limit-gt64 c =
    let x = c.args in
    elim c.then-limit-gt64.branch [
      | then-limit-gt64-via-then-limit-gt64 w ↦ record {
        standings_told = λ h k l. absurd (omega arith);
        counted = high-limit x.follow.now x.enter.now x.labels x.limit w.if-limit-gt64.true;
        within = tt;
      }
      | then-limit-gt64-via-else-limit-gt64+then-labels-gt32 w ↦ record {
        standings_told = λ h k l. absurd (omega arith);
        counted = many-labels x.follow.now x.enter.now x.labels x.limit w.if-limit-gt64.false w.if-labels-gt32.true;
        within = tt;
      }
      | then-limit-gt64-via-else-limit-gt64+else-labels-gt32+then-labels-enter w ↦ record {
        standings_told = λ h k l. absurd (omega arith);
        counted =
            few-enters x.follow.now x.enter.now x.labels x.limit w.if-limit-gt64.false w.if-labels-gt32.false w.if-labels-enter.true;
        within = tt;
      }
      | then-limit-gt64-via-else-limit-gt64+else-labels-gt32+else-labels-enter+then-limit-eq0 w ↦
          let none = standings-none x.follow.now x.enter.now x.labels x.limit x.self.now.found x.self.now.moves w.if-limit-eq0.true in
          record {
            standings_told = λ h k l. none;
            counted =
                count-told x.follow.now x.enter.now x.labels x.limit w.if-limit-gt64.false w.if-labels-gt32.false
                w.if-labels-enter.false none;
            within = tt;
          }
    ]

pub returns-in_err-n : goal.returns-in_err-n
returns-in_err-n c =
    let x = c.args in
    let s = c.sweep in
    let told = rw c.in_err-n.was at (standings-told x.follow.now x.enter.now x.labels x.limit s.new.self.found s.new.self.moves s.result s.ensures.told) in
    rw c.from_residual.ensures
    (record {
      standings_told = λ h k l. told;
      counted =
          count-told x.follow.now x.enter.now x.labels x.limit c.if-limit-gt64.false c.if-labels-gt32.false c.if-labels-enter.false told;
      within = tt;
    })

pub returns : goal.returns
returns c =
    let x = c.args in
    let s = c.sweep in
    let told = rw c.in_ok-n.was at (standings-told x.follow.now x.enter.now x.labels x.limit s.new.self.found s.new.self.moves s.result s.ensures.told) in
    record {
      standings_told = λ h k l. told;
      counted =
          count-told x.follow.now x.enter.now x.labels x.limit c.if-limit-gt64.false c.if-labels-gt32.false c.if-labels-enter.false told;
      within = rw c.in_ok-n.was at s.ensures.within;
    }
