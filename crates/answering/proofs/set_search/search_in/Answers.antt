-- `search_in` meets its contract: the local words are zero, and there are enough for so many recordings.
use Rattle.std.specs.Prelude.{ℕ}
use Rattle.std.proofs.lemmas.List.{length-replicate}
use Rattle.answering.specs.SetSearchRun.{set-beginning, images-blank}
use native.Mathlib.Omega.{arith}
use Rattle.answering.proofs.set_search.search_in.Goals as goal

pub search_from-requires : goal.search_from-requires
search_from-requires g c =
    let p = c.requires in
    let long = length-replicate {A = ℕ} g.row.STACK 0 in
    (set-beginning g.row.ROOM g.row.STACK p.0 p.2 (omega (arith, p.4)), p.1, images-blank _, p.7, omega (arith, long, p.4), p.6)
