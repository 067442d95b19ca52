-- Two paths lead to one pair of numbers exactly when they have the same pair (document 01): the same query standing, and the same cover
-- places reached.
use Rattle.std.specs.Prelude.{◌≡◌, ℕ, suc, ◌<◌, ◌≤◌, ◌↔◌, [], length, slice_index_or}
use Rattle.std.proofs.Math.Logic.Iff
use Rattle.std.proofs.Common.{sym, ap, subst, arith}
use Rattle.theory.specs.Path.{Path}
use Rattle.theory.specs.Standing.{size}
use Rattle.theory.specs.Job.{Job}
use Rattle.theory.specs.Places.{Member}
use Rattle.theory.specs.PlacesLaws.{equal-members}
use Rattle.theory.specs.Counting.{pigeonhole}
use Rattle.theory.specs.Automaton.{glushkov, standing}
use Rattle.theory.proofs.Glushkov.{glushkov-same}
use Rattle.theory.specs.Exploration.{System}
use Rattle.finding.specs.Rewritten.{Rewritten, Decides}
use Rattle.verdict.specs.Pairs.{Pair, pair_system}
use Rattle.verdict.specs.Verdicts.{ReachesState, ReachesOccurrence, SamePair, DistinctPairs, CountsPairs}
use Rattle.verdict.specs.CoverPlaces.{list_at}
use Rattle.verdict.specs.CoverMeaning.{Held, alone, within, reading-occurrence, reading-inside}
use Rattle.verdict.specs.CoverReached.{automata, cover_of, cover-exactly, cover-state, cover-occurrence}

-- The pair of numbers that a path leads to.
abbrev pub pair_of : Job → Rewritten → Path → Pair
pair_of J R p = record { standing = standing (glushkov J.query) p; cover = cover_of J R p }

-- The pairs of a job over its labels.
abbrev pub job_pairs : Job → Rewritten → System Pair
job_pairs J R = pair_system (glushkov J.query) J.labels R (automata J)

-- One direction of the second and third part of "the same pair".
held_same : (J : Job) (R : Rewritten) (p r : Path) → SamePair J R p r → (n : ℕ) → Held J R p n → Held J R r n
held_same J R p r same n (alone q e h) = alone q e ((same.states q).0 h)
held_same J R p r same n (within q v x l e h) =
    within q v x l e
    ((reading-occurrence J R r q v x).1 ((same.occurrences q v x l).0 ((reading-occurrence J R p q v x).0 h)))

pub same-pair-sym : {J : Job} {R : Rewritten} {p r : Path} → SamePair J R p r → SamePair J R r p
same-pair-sym same =
    record {
      standing = λ x. Iff.symm (same.standing x);
      states = λ q. Iff.symm (same.states q);
      occurrences = λ q v x l. Iff.symm (same.occurrences q v x l);
    }

pub same-pair-trans : {J : Job} {R : Rewritten} {p r s : Path} → SamePair J R p r → SamePair J R r s → SamePair J R p s
same-pair-trans f g =
    record {
      standing = λ x. Iff.trans (f.standing x) (g.standing x);
      states = λ q. Iff.trans (f.states q) (g.states q);
      occurrences = λ q v x l. Iff.trans (f.occurrences q v x l) (g.occurrences q v x l);
    }

-- There are no more distinct pairs than are counted, so a count of all pairs is the only one.

pub distinct-at-most : {J : Job} {R : Rewritten} {m n : ℕ} → DistinctPairs J R m → CountsPairs J R n → m ≤ n
distinct-at-most {J} {R} {m} {n} d c =
    pigeonhole m n (λ i h. (place i h).0) (λ i h. (place i h).1)
    (λ i j h k e. d.distinct i j h k (same-pair-trans (place i h).2
    (same-pair-sym (subst (λ l. SamePair J R (slice_index_or d.paths j []) (slice_index_or c.some.paths l [])) (sym e) (place j k).2))))
  where
    place : (i : ℕ) → i < m → (l : ℕ) × (l < n) × SamePair J R (slice_index_or d.paths i []) (slice_index_or c.some.paths l [])
    place i h = c.all (slice_index_or d.paths i []) (d.below i h)

pub counts-unique : {J : Job} {R : Rewritten} {m n : ℕ} → CountsPairs J R m → CountsPairs J R n → m ≡ n
counts-unique c d = omega (arith, distinct-at-most c.some d, distinct-at-most d.some c)

-- A count within the allowance and refusal 13 exclude each other.
pub counted-few : {J : Job} {R : Rewritten} {n allowance : ℕ} → CountsPairs J R n → n ≤ allowance → ¬ DistinctPairs J R (suc allowance)
counted-few c h d = omega (arith, distinct-at-most d c)

module _ (J : Job) (R : Rewritten) (decides : Decides J R) where
  cover-same : (p r : Path) → SamePair J R p r → cover_of J R p ≡ cover_of J R r
  cover-same p r same =
      equal-members (cover_of J R p) (cover_of J R r) (λ n. (
        λ m. (cover-exactly J R decides r n).1 (held_same J R p r same n ((cover-exactly J R decides p n).0 m)),
        λ m. (cover-exactly J R decides p n).1 (held_same J R r p (same-pair-sym same) n ((cover-exactly J R decides r n).0 m)),
      ))

  states-same : (p r : Path) → cover_of J R p ≡ cover_of J R r → (q : ℕ) → ReachesState J R p q → ReachesState J R r q
  states-same p r e q h = (cover-state J R decides r q).0 (subst (Member _) e ((cover-state J R decides p q).1 h))

  occurrences-same : (p r : Path) → cover_of J R p ≡ cover_of J R r → (q v x : ℕ) → v < length J.lists
      → ReachesOccurrence J R p q v x → ReachesOccurrence J R r q v x
  occurrences-same p r e q v x l h =
      let inside : x < size (list_at J.lists v) = reading-inside J R ((reading-occurrence J R p q v x).1 h) in
      (cover-occurrence J R decides r q v x l inside).0 (subst (Member _) e ((cover-occurrence J R decides p q v x l inside).1 h))

  pub pair-exactly : (p r : Path) → (pair_of J R p ≡ pair_of J R r) ↔ SamePair J R p r
  pair-exactly p r = (there, back)
    where
      there : pair_of J R p ≡ pair_of J R r → SamePair J R p r
      there e =
          let cover : cover_of J R p ≡ cover_of J R r = ap (λ x. x.cover) e in
          record {
            standing = (glushkov-same J.query p r).1 (ap (λ x. x.standing) e);
            states = λ q. (states-same p r cover q, states-same r p (sym cover) q);
            occurrences = λ q v x l. (occurrences-same p r cover q v x l, occurrences-same r p (sym cover) q v x l);
          }

      back : SamePair J R p r → pair_of J R p ≡ pair_of J R r
      back same = λ i. record { standing = (glushkov-same J.query p r).0 same.standing i; cover = cover-same p r same i }
