-- The exploration of pairs tells how many distinct pairs the paths of a job have (document 01): `over` exactly where there are more than
-- the allowance, and otherwise as many entries as there are pairs.
use Rattle.std.specs.Prelude.{◌≡◌, ℕ, suc, ◌<◌, ◌≤◌, ◌↔◌, List, [], ◌∷◌, map, reverse, length, get_or, ◌==◌, slice_index_or}
use Rattle.std.proofs.Math.Bool.{and-eq-true_iff}
use Rattle.std.proofs.lemmas.List.{reverse-reverse, length-map}
use Rattle.std.proofs.Math.Logic.Iff
use Rattle.std.proofs.Math.Option.{some, some-injective}
use Rattle.std.specs.Prelude.{refl}
use Rattle.std.proofs.Common.{sym, ◌∙◌, subst, arith, eqb-true, eq-eqb}
use Rattle.std.proofs.Math.Path.{ap}
use Rattle.std.proofs.Math.ListN.{get_or-map}
use Rattle.theory.specs.Path.{Path, Below}
use Rattle.theory.specs.Job.{Job}
use Rattle.theory.specs.Images.{after}
use Rattle.theory.specs.Automaton.{Automaton, glushkov, step, standing_from, standing}
use Rattle.theory.specs.Exploration.{Entry, all, over, run}
use Rattle.theory.specs.Explored.{Tests, Reached, entry_at, value_at, word_at, Explored, Exceeds}
use Rattle.theory.proofs.ExplorationLaws.{explored, over-exactly}
use Rattle.finding.specs.Rewritten.{Rewritten, Decides}
use Rattle.verdict.specs.Cover.{cover_start, cover_step}
use Rattle.verdict.specs.Pairs.{Pair, same_pair, pair_system, pairs}
use Rattle.verdict.specs.Verdicts.{DistinctPairs, CountsPairs}
use Rattle.verdict.specs.CoverReached.{automata}
use Rattle.verdict.specs.PairLaws.{pair_of, job_pairs, pair-exactly}

pub pair-tests : (A : Automaton) (k : ℕ) (R : Rewritten) (lists : List Automaton) → Tests (pair_system A k R lists)
unfolding same_pair
pair-tests A k R lists =
    record {
      sound = λ x y e.
          let (s, c) = (and-eq-true_iff (x.standing == y.standing) (x.cover == y.cover)).0 e in
          λ i. record { standing = eqb-true x.standing y.standing s i; cover = eqb-true x.cover y.cover c i };
      complete = λ x. rw (eq-eqb x.standing x.standing refl) (eq-eqb x.cover x.cover refl);
    }

-- The pair that a path leads to from a pair.
run-from : (A : Automaton) (k : ℕ) (R : Rewritten) (lists : List Automaton) (s c : ℕ) (p : Path)
    → run (pair_system A k R lists) (record { standing = s; cover = c }) p
    ≡ some (record { standing = standing_from A s p; cover = after (cover_step R lists) c p })
unfolding run standing_from
run-from A k R lists s c [] = refl
run-from A k R lists s c (a ∷ p) = run-from A k R lists (step A s a) (cover_step R lists c a) p

module _ (J : Job) (R : Rewritten) where
  pub run-pair : (p : Path) → run (job_pairs J R) (job_pairs J R).start p ≡ some (pair_of J R p)
  unfolding standing
  run-pair p = run-from (glushkov J.query) J.labels R (automata J) _ (cover_start R (automata J)) p

  pub pair-reached : (p : Path) → Below J.labels p → Reached (job_pairs J R) (pair_of J R p) p
  pair-reached p b = (b, run-pair p)

  pub reached-pair : (x : Pair) (p : Path) → Reached (job_pairs J R) x p → x ≡ pair_of J R p
  reached-pair x p r = some-injective x (pair_of J R p) (sym r.1 ∙ run-pair p)

  -- The paths of entries, and the entries of paths.

  abbrev pub paths_of : List (Entry Pair) → List Path
  paths_of = map (λ e. reverse e.trail)

  pub path-at : (found : List (Entry Pair)) (i : ℕ) → slice_index_or (paths_of found) i [] ≡ word_at (job_pairs J R) found i
  path-at found i = get_or-map (λ e. reverse e.trail) found i (record { value = (job_pairs J R).start; trail = [] })

  abbrev entries_of : List Path → List (Entry Pair)
  entries_of = map (λ p. record { value = pair_of J R p; trail = reverse p })

  entry-at : (paths : List Path) (i : ℕ)
      → entry_at (job_pairs J R) (entries_of paths) i ≡ record { value = pair_of J R (slice_index_or paths i []); trail = reverse (slice_index_or paths i []) }
  unfolding standing standing_from
  entry-at paths i = get_or-map (λ p. record { value = pair_of J R p; trail = reverse p }) paths i []

  module _ (decides : Decides J R) where
    -- Entries with their words and with distinct values are distinct pairs.
    distinct-entries : (found : List (Entry Pair))
        → ((i : ℕ) → i < length found → Reached (job_pairs J R) (value_at (job_pairs J R) found i) (word_at (job_pairs J R) found i))
        → ((i j : ℕ) → i < length found → j < length found → value_at (job_pairs J R) found i ≡ value_at (job_pairs J R) found j → i ≡ j)
        → DistinctPairs J R (length found)
    distinct-entries found words distinct =
        record {
          paths = paths_of found;
          count = length-map found (λ e. reverse e.trail);
          below = λ i h. rw (path-at found i) (words i h).0;
          distinct = λ i j h k same. distinct i j h k (value i h ∙ (pair-exactly J R decides _ _).1 same ∙ sym (value j k));
        }
      where
        value : (i : ℕ) → i < length found → value_at (job_pairs J R) found i ≡ pair_of J R (slice_index_or (paths_of found) i [])
        value i h =
            reached-pair (value_at (job_pairs J R) found i) (word_at (job_pairs J R) found i) (words i h)
            ∙ ap (pair_of J R) (sym (path-at found i))

    exceeds-distinct : {allowance : ℕ} → Exceeds (job_pairs J R) allowance → DistinctPairs J R (suc allowance)
    exceeds-distinct x = subst (DistinctPairs J R) x.count (distinct-entries x.found x.words x.distinct)

    distinct-exceeds : {allowance : ℕ} → DistinctPairs J R (suc allowance) → Exceeds (job_pairs J R) allowance
    distinct-exceeds {allowance} x =
        record {
          found = entries_of x.paths;
          count = count;
          words = λ i h.
              let p = get_or x.paths i [] in
              subst (λ e. Reached (job_pairs J R) e.value (reverse e.trail)) (sym (entry-at x.paths i))
              (subst (Reached (job_pairs J R) (pair_of J R p)) (sym (reverse-reverse p)) (pair-reached p (x.below i (omega (arith, count)))));
          distinct = λ i j h k e.
              x.distinct i j (omega (arith, count)) (omega (arith, count)) ((pair-exactly J R decides _ _).0
              (sym (ap (λ e. e.value) (entry-at x.paths i)) ∙ e ∙ ap (λ e. e.value) (entry-at x.paths j)));
        }
      where
        count : length (entries_of x.paths) ≡ suc allowance
        count = length-map x.paths _ ∙ x.count

    -- The exploration tells `over` exactly where there are more distinct pairs than the allowance.
    pub pairs-over : (allowance : ℕ)
        → (pairs (glushkov J.query) J.labels R (automata J) allowance ≡ over) ↔ DistinctPairs J R (suc allowance)
    unfolding pairs
    pairs-over allowance =
        Iff.trans (over-exactly (pair-tests (glushkov J.query) J.labels R (automata J))) (exceeds-distinct, distinct-exceeds)

    pub pairs-explored : (allowance : ℕ) (l : List (Entry Pair))
        → pairs (glushkov J.query) J.labels R (automata J) allowance ≡ all l → Explored (job_pairs J R) l × (length l ≤ allowance)
    unfolding pairs
    pairs-explored allowance l e = explored (pair-tests (glushkov J.query) J.labels R (automata J)) l e

    -- Everything reached, without duplicates, is as many entries as there are distinct pairs.
    pub explored-counts : (l : List (Entry Pair)) → Explored (job_pairs J R) l → CountsPairs J R (length l)
    unfolding distinct-entries
    explored-counts l x =
        record {
          some = distinct-entries l x.words x.distinct;
          all = λ p b.
              let (i, h, e) = x.reached (pair_of J R p) p (pair-reached p b) in
              let value = reached-pair (value_at (job_pairs J R) l i) (word_at (job_pairs J R) l i) (x.words i h) in
              (i, h, (pair-exactly J R decides p (slice_index_or (paths_of l) i [])).0 (sym e ∙ value ∙ ap (pair_of J R) (sym (path-at l i))));
        }

    pub pairs-count : (allowance : ℕ) (l : List (Entry Pair))
        → pairs (glushkov J.query) J.labels R (automata J) allowance ≡ all l → CountsPairs J R (length l)
    pairs-count allowance l e = explored-counts l (pairs-explored allowance l e).0
