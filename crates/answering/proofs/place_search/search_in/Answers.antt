-- `search_in` meets its contract: the local words are zero, and there are enough for so many recordings.
use Rattle.std.specs.Prelude.{ℕ}
use Rattle.std.proofs.lemmas.List.{length-replicate}
use native.Mathlib.Nat.{one-mul}
use Rattle.answering.specs.SetSearchRun.{set-beginning}
use native.Mathlib.Omega.{arith}
use Rattle.answering.proofs.place_search.search_in.Goals as goal

pub follow_all_words-requires : goal.follow_all_words-requires
follow_all_words-requires g c =
    let p = c.requires in
    let e = one-mul c.args.steps.sizes.recordings in
    let long = length-replicate {A = ℕ} g.row.STACK 0 in (
      set-beginning g.row.ROOM g.row.STACK p.0 (omega (arith, p.2)) (omega (arith, p.4)),
      p.1,
      p.7,
      omega (arith, long, p.4),
      p.6,
    )
