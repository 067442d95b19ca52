-- What Verdict gives (document 01): complete, or the first missed path, with the number of distinct pairs; or refusal 12 or 13.
use Rattle.std.specs.Prelude.{ℕ, true, false, List, length, nat_le}
use Rattle.std.proofs.Math.Option.{some, none}
use Rattle.theory.specs.Path.{Path}
use Rattle.theory.specs.Automaton.{Automaton}
use Rattle.theory.specs.Exploration.{all, over}
use Rattle.syntax.specs.declared.refusal.Refusal.{Refusal}
use Rattle.syntax.specs.declared.refusal.Refusal.TheVariants.{TooManyPlaces, TooManyPairs}
use Rattle.finding.specs.Rewritten.{Rewritten}
use Rattle.verdict.specs.Cover.{places}
use Rattle.verdict.specs.Pairs.{pairs, first_missed}

abbrev pub most_places : ℕ
most_places = 1024

pub data Verdict : Type 0 where
  complete : ℕ → Verdict
  missed : Path → ℕ → Verdict
  refused : Refusal → Verdict

-- On automata: of the query, over k labels, and of the lists; with the most cover places and the most pairs.
unfoldable pub verdict : Automaton → ℕ → Rewritten → List Automaton → ℕ → ℕ → Verdict
verdict A k R lists most allowance =
    elim (nat_le (places R lists) most) [
      | false ↦ refused TooManyPlaces
      | true ↦ elim (pairs A k R lists allowance) [
        | over ↦ refused TooManyPairs
        | all l ↦ elim (first_missed A R lists l) [ none ↦ complete (length l) | some p ↦ missed p (length l) ]
      ]
    ]
