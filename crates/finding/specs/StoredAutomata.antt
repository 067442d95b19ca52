-- The automata that the tables of a job hold (reading's Tables), as plain data: number x has its follow sets from 64 × x on and what its
-- labels enter from 32 × x on. Those of the job's expressions are Glushkov's automata.
use Rattle.std.specs.Prelude.{◌≡◌, ℕ, suc, ◌+◌, ◌*◌, ◌^◌, ◌<◌, ◌≤◌, List, length, take, drop, slice_index, slice_index_or}
use Rattle.std.specs.Prelude.{refl}
use Rattle.std.proofs.Common.{sym, ap, ap₂, ◌∙◌, arith, ne_eqb, length-take, get_or-take, get_or-drop}
use Rattle.std.proofs.Math.Path.{fun_ext}
use Rattle.std.proofs.Math.Decide.{dec_lt}
use Rattle.std.proofs.Math.ListN.{get_or-eq_default}
use Rattle.theory.specs.Path.{Label}
use Rattle.theory.specs.Expression.{Expression, empty, label, alternative, sequence, star, optional}
use Rattle.theory.specs.Standing.{size}
use Rattle.theory.specs.Job.{LabelsBelow}
use Rattle.theory.specs.Places.{none, union, when, one}
use Rattle.theory.specs.Automaton.{Automaton, labelled, glushkov}
use Rattle.reading.specs.Tables.{Tables, Row}
use Rattle.finding.specs.Plain.{plain}
use Rattle.finding.specs.ListWidth.{glushkov-width, glushkov-enters}

abbrev pub stored_at : List ℕ → List ℕ → List ℕ → List ℕ → ℕ → Automaton
stored_at follow enter sizes accepting x =
    plain (take (suc (slice_index sizes x)) (drop (64 * x) follow)) (take 32 (drop (32 * x) enter)) (slice_index accepting x)

-- No occurrence reads a label that the expression does not have.
labelled-beyond : (n k : ℕ) (e : Expression) (a : Label) → LabelsBelow k e → k ≤ a → labelled n e a ≡ none
unfolding labelled
labelled-beyond n k empty a b h = refl
labelled-beyond n k (label c) a b h = ap (λ t. when t (one n)) (ne_eqb a c (λ p. omega arith))
labelled-beyond n k (alternative l r) a b h = ap₂ union (labelled-beyond n k l a b.0 h) (labelled-beyond (n + size l) k r a b.1 h)
labelled-beyond n k (sequence l r) a b h = ap₂ union (labelled-beyond n k l a b.0 h) (labelled-beyond (n + size l) k r a b.1 h)
labelled-beyond n k (star e) a b h = labelled-beyond n k e a b h
labelled-beyond n k (optional e) a b h = labelled-beyond n k e a b h

pub enter-beyond : (k : ℕ) (e : Expression) (a : Label) → LabelsBelow k e → k ≤ a → (glushkov e).enter a ≡ none
unfolding glushkov
enter-beyond k e a b h = labelled-beyond 1 k e a b h

module _ (e : Expression) (x k : ℕ) (T : Tables) (row : Row e x T) (below : LabelsBelow k e) (few : k ≤ 32) where
  entered : (a : Label) → slice_index (take 32 (drop (32 * x) T.enter)) a ≡ (glushkov e).enter a
  entered a = side (dec_lt a 32)
    where
      side : Dec (a < 32) → slice_index (take 32 (drop (32 * x) T.enter)) a ≡ (glushkov e).enter a
      side (yes h) = get_or-take 32 (drop (32 * x) T.enter) a 0 h ∙ (get_or-drop (32 * x) T.enter a 0 ∙ row.enter a h)
      side (no h) =
          get_or-eq_default (take 32 (drop (32 * x) T.enter)) 0 (omega (arith, length-take 32 (drop (32 * x) T.enter)))
          ∙ sym (enter-beyond k e a below (omega arith))

  -- The row of an expression, read as plain data, is the expression's automaton.
  pub row-automaton : plain (take (suc (size e)) (drop (64 * x) T.follow)) (take 32 (drop (32 * x) T.enter)) (slice_index T.accepting x)
      ≡ glushkov e
  row-automaton = λ i. record { follow = row.follow i; enter = fun_ext entered i; accepting = row.accepting i }

  pub stored-automaton : stored_at T.follow T.enter T.sizes T.accepting x ≡ glushkov e
  stored-automaton =
      ap (λ n. plain (take (suc n) (drop (64 * x) T.follow)) (take 32 (drop (32 * x) T.enter)) (slice_index T.accepting x)) row.size
      ∙ row-automaton

-- The tables hold the automaton B at number x, in the room of a row; its labels enter only its own places.
pub record Stored (follow enter sizes accepting : List ℕ) (x : ℕ) (B : Automaton) : Type 0 where
  pub fits : slice_index_or sizes x 0 ≤ 63
  pub same : stored_at follow enter sizes accepting x ≡ B
  pub start : 0 < length B.follow
  pub within : (a : Label) → B.enter a < 2 ^ length B.follow

pub row-stored : (e : Expression) (x k : ℕ) (T : Tables) → Row e x T → LabelsBelow k e → k ≤ 32 → size e ≤ 63
    → Stored T.follow T.enter T.sizes T.accepting x (glushkov e)
row-stored e x k T row below few small =
    record {
      fits = omega (arith, row.size);
      same = stored-automaton e x k T row below few;
      start = omega (arith, glushkov-width e);
      within = glushkov-enters e;
    }
