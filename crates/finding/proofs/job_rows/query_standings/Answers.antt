-- The standings are those of the parts of the tables that hold the automaton number 0.
use Rattle.std.specs.Prelude.{◌+◌, get_or}
use mathlib.Core.Path.{sym, refl}
use native.Mathlib.Numerals.{add-one}
use lib.ListN.{length-take}
use lib.Seq.{length-take-le}
use Rattle.finding.specs.QueryTold.{query-told}
use native.Mathlib.Omega.{arith}
use Rattle.finding.proofs.job_rows.query_standings.Goals as goal

pub slice_bounds-explore-end : goal.slice_bounds-explore-end
slice_bounds-explore-end c =
    let job = c.args.job in
    sym (length-take-le _ job.follow.now (omega (arith, job.held.fit.query_follow, (job.held.kept 0 (omega arith)).fits)))

pub slice_bounds-explore-end-2 : goal.slice_bounds-explore-end-2
slice_bounds-explore-end-2 c =
    let job = c.args.job in
    sym (length-take-le 32 job.enter.now job.held.fit.query_enter)

pub returns : goal.returns
returns c =
    let a = c.args in
    let job = a.job in
    record {
      told =
          query-told job.follow.now job.enter.now job.sizes.now job.labels a.limit c.explore.new.self.found
          c.explore.new.self.moves c.explore.result (get_or job.sizes.now 0 0 + 1) 32 (add-one _) refl
          (λ k m. c.explore.ensures.standings_told k (omega (arith, length-take 32 job.enter.now, job.held.fit.query_enter)) m);
      within = c.explore.ensures.within;
    }
