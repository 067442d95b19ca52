-- The first entry whose pair misses holds the first missed path of a job (document 01): entries stand in the order of their least paths, and
-- every query path is a path over the job's labels, so that it has an entry.
use Rattle.std.specs.Prelude.{◌≡◌, ℕ, zero, suc, ◌<◌, Bool, true, false, ◌⊎◌, List, [], ◌∷◌, reverse, length, slice_index_or}
use Rattle.std.proofs.lemmas.Bool.{false≢true}
use Rattle.std.proofs.Common.{inl, inr, sym, ◌∙◌, subst, arith}
use Rattle.std.proofs.Math.Option.{some, none, some-injective, none-ne-some}
use Rattle.std.proofs.Math.Path.{refl}
use Rattle.theory.specs.Path.{Path, Before}
use Rattle.theory.specs.PathOrder.{compared, before-transitive}
use Rattle.theory.specs.PathsBelow.{query-below}
use Rattle.theory.specs.Job.{Job, WellFormed}
use Rattle.theory.specs.Rewriting.{Missed, FirstMissed, Complete}
use Rattle.theory.specs.Automaton.{Automaton, glushkov}
use Rattle.theory.specs.Exploration.{Entry}
use Rattle.theory.specs.Explored.{value_at, word_at, Explored}
use Rattle.finding.specs.Rewritten.{Rewritten, Decides}
use Rattle.verdict.specs.Pairs.{Pair, misses, first_missed}
use Rattle.verdict.specs.CoverReached.{automata}
use Rattle.verdict.specs.PairLaws.{pair_of, job_pairs}
use Rattle.verdict.specs.PairCounts.{pair-reached, reached-pair}
use Rattle.verdict.specs.MissedPairs.{misses-exactly, kept-yielded}

-- The entry i misses, and none before it; its path is p. The entry d stands for those beyond the list.
pub record FirstMisses (A : Automaton) (R : Rewritten) (lists : List Automaton) (l : List (Entry Pair)) (d : Entry Pair) (p : Path) : Type 0 where
  pub place : ℕ
  pub inside : place < length l
  pub path : p ≡ reverse (slice_index_or l place d).trail
  pub missing : misses A R lists (slice_index_or l place d).value ≡ true
  pub earlier : (j : ℕ) → j < place → misses A R lists (slice_index_or l j d).value ≡ false

module _ (A : Automaton) (R : Rewritten) (lists : List Automaton) where
  first-here : (e : Entry Pair) (l : List (Entry Pair)) → misses A R lists e.value ≡ true
      → first_missed A R lists (e ∷ l) ≡ some (reverse e.trail)
  unfolding first_missed
  first-here e l m = rw (m, first_missed)

  first-later : (e : Entry Pair) (l : List (Entry Pair)) → misses A R lists e.value ≡ false
      → first_missed A R lists (e ∷ l) ≡ first_missed A R lists l
  unfolding first_missed
  first-later e l m = rw (m, first_missed)

  pub first-none : (l : List (Entry Pair)) (d : Entry Pair) → first_missed A R lists l ≡ none
      → (i : ℕ) → i < length l → misses A R lists (slice_index_or l i d).value ≡ false
  first-none [] d n i h = absurd (omega arith)
  first-none (e ∷ l) d n i h = side (misses A R lists e.value) refl (first-none l d) i h
    where
      side : (b : Bool) → misses A R lists e.value ≡ b
          → (first_missed A R lists l ≡ none → (i : ℕ) → i < length l → misses A R lists (slice_index_or l i d).value ≡ false)
          → (i : ℕ) → i < length (e ∷ l) → misses A R lists (slice_index_or (e ∷ l) i d).value ≡ false
      side true m later i h = absurd (none-ne-some _ (sym n ∙ first-here e l m))
      side false m later zero h = m
      side false m later (suc i) h = later (sym (first-later e l m) ∙ n) i (omega arith)

  pub first_some : (l : List (Entry Pair)) (d : Entry Pair) (p : Path) → first_missed A R lists l ≡ some p → FirstMisses A R lists l d p
  unfolding first_missed
  first_some [] d p n = absurd (none-ne-some _ n)
  first_some (e ∷ l) d p n = side (misses A R lists e.value) refl (first_some l d p)
    where
      side : (b : Bool) → misses A R lists e.value ≡ b → (first_missed A R lists l ≡ some p → FirstMisses A R lists l d p)
          → FirstMisses A R lists (e ∷ l) d p
      side true m later =
          record {
            place = 0;
            inside = omega arith;
            path = some-injective _ _ (sym n ∙ first-here e l m);
            missing = m;
            earlier = λ j h. absurd (omega arith);
          }
      side false m later =
          let r = later (sym (first-later e l m) ∙ n) in
          record {
            place = suc r.place;
            inside = omega (arith, r.inside);
            path = r.path;
            missing = r.missing;
            earlier = before r.place r.earlier;
          }
        where
          before : (i : ℕ) → ((j : ℕ) → j < i → misses A R lists (slice_index_or l j d).value ≡ false)
              → (j : ℕ) → j < suc i → misses A R lists (slice_index_or (e ∷ l) j d).value ≡ false
          before i f zero h = m
          before i f (suc j) h = f j (omega arith)

module _ (J : Job) (R : Rewritten) (formed : WellFormed J) (decides : Decides J R) (l : List (Entry Pair)) (x : Explored (job_pairs J R) l) where
  value-at : (i : ℕ) → i < length l → value_at (job_pairs J R) l i ≡ pair_of J R (word_at (job_pairs J R) l i)
  value-at i h = reached-pair J R (value_at (job_pairs J R) l i) (word_at (job_pairs J R) l i) (x.words i h)

  -- Where no entry misses, every query path is yielded.
  pub none-misses : first_missed (glushkov J.query) R (automata J) l ≡ none → Complete J
  none-misses n p q =
      let (i, h, e) = x.reached (pair_of J R p) p (pair-reached J R p (query-below J formed p q)) in
      let kept = first-none (glushkov J.query) R (automata J) l _ n i h in
      kept-yielded J R decides p (subst (λ y. misses (glushkov J.query) R (automata J) y ≡ false) e kept) q

  -- A missed path has an entry that misses, and its word is not later than the path.
  missed-entry : (q : Path) → Missed J q
      → (j : ℕ) × (j < length l) × (misses (glushkov J.query) R (automata J) (value_at (job_pairs J R) l j) ≡ true)
      × ((word_at (job_pairs J R) l j ≡ q) ⊎ Before (word_at (job_pairs J R) l j) q)
  missed-entry q m =
      let reached = pair-reached J R q (query-below J formed q m.0) in
      let (j, h, e) = x.reached (pair_of J R q) q reached in
      (j, h, rw e ((misses-exactly J R decides q).1 m), x.least j q h (rw e reached))

  -- The word of the first entry that misses is the first missed path.
  first-word : (i : ℕ) → i < length l → misses (glushkov J.query) R (automata J) (value_at (job_pairs J R) l i) ≡ true
      → ((j : ℕ) → j < i → misses (glushkov J.query) R (automata J) (value_at (job_pairs J R) l j) ≡ false)
      → FirstMissed J (word_at (job_pairs J R) l i)
  first-word i h m earlier = (
    (misses-exactly J R decides word).0 (subst (λ y. misses (glushkov J.query) R (automata J) y ≡ true) (value-at i h) m),
    λ q n. let (j, k, t, least) = missed-entry q n in order q j k t least (compared j i),
  )
    where
      word : Path
      word = word_at (job_pairs J R) l i

      later : (q : Path) (j : ℕ) → i < j → j < length l
          → (word_at (job_pairs J R) l j ≡ q) ⊎ Before (word_at (job_pairs J R) l j) q → Before word q
      later q j d k (inl e) = subst (Before word) e (x.ordered i j d k)
      later q j d k (inr b) = before-transitive word (word_at (job_pairs J R) l j) q (x.ordered i j d k) b

      order : (q : Path) (j : ℕ) → j < length l → misses (glushkov J.query) R (automata J) (value_at (job_pairs J R) l j) ≡ true
          → (word_at (job_pairs J R) l j ≡ q) ⊎ Before (word_at (job_pairs J R) l j) q → (j ≡ i) ⊎ ((j < i) ⊎ (i < j)) → (word ≡ q) ⊎ Before word q
      order q j k t least (inl e) = subst (λ n. (word_at (job_pairs J R) l n ≡ q) ⊎ Before (word_at (job_pairs J R) l n) q) e least
      order q j k t least (inr (inl d)) = absurd (false≢true (sym (earlier j d) ∙ t))
      order q j k t least (inr (inr d)) = inr (later q j d k least)

  pub some-misses : (p : Path) → first_missed (glushkov J.query) R (automata J) l ≡ some p
      → FirstMissed J p × (i : ℕ) × (i < length l) × (p ≡ word_at (job_pairs J R) l i)
  some-misses p s =
      let r = first_some (glushkov J.query) R (automata J) l (record { value = (job_pairs J R).start; trail = [] }) p s in
      (rw r.path (first-word r.place r.inside r.missing r.earlier), r.place, r.inside, r.path)
