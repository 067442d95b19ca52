-- Whether the search by sets of recordings serves (EndSteps): told by the words of the rows.
use Rattle.std.specs.Prelude.{ℕ, ◌+◌, ◌*◌, ◌^◌, ◌<◌, ◌≤◌, List, length, slice_index}
use Rattle.theory.specs.PlacesLaws.{member_below}
use Rattle.answering.specs.ProductLaws.{node-below}
use Rattle.answering.specs.WordSteps.{has_word}
use Rattle.answering.specs.EndSteps.{Turnable}

pub turnable-told : {rows : List ℕ} {k states : ℕ} → 0 < states → states ≤ 16 → k ≤ 32 → k * states ≤ length rows
    → ((i : ℕ) → i < k * states → slice_index rows i < 2 ^ states) → Turnable rows k states
turnable-told {rows} {k} {states} some few few-k fit below = record {
  some-states = some;
  few-states = few;
  few-symbols = few-k;
  rows_fit = fit;
  within = λ s a t h l m q.
      member_below states (slice_index rows (k * s + a)) t (below _ (node-below k states h l)) ((has_word rows (k * s + a) t m).0 q);
}
