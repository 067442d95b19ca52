-- A pair misses exactly when its paths are missed (document 01): they are query paths, and no accepted list word spells them, since none of
-- the states that they reach alone accepts.
use Rattle.std.specs.Prelude.{◌≡◌, ℕ, zero, suc, ◌*◌, ◌<◌, true, false, ◌⊎◌, ◌↔◌, ◌==◌, slice_index}
use Rattle.std.proofs.Math.Bool.{and-eq-true_iff}
use Rattle.std.proofs.lemmas.Bool.{false≢true}
use Rattle.std.proofs.Common.{inl, inr, sym, ap, ◌∙◌, arith}
use Rattle.std.proofs.Math.Logic.Iff
use Rattle.std.specs.Prelude.{refl}
use Rattle.std.proofs.Math.Decide.{ℕ_discrete}
use borrow.Author.Tests.{eqb-true, eq-eqb}
use Rattle.theory.specs.Path.{Path}
use Rattle.theory.specs.Job.{Job, QueryPath}
use Rattle.theory.specs.Rewriting.{Yielded, Missed}
use Rattle.theory.specs.Places.{Member, one, intersection, when}
use Rattle.theory.specs.PlacesLaws.{member-none, member-one, member_union, member-intersection, member-when, no-members, not_none}
use Rattle.theory.specs.Automaton.{glushkov, standing, accepts}
use Rattle.theory.proofs.Glushkov.{glushkov-accepts}
use Rattle.finding.specs.Finds.{followed}
use Rattle.finding.specs.Rewritten.{Rewritten, Decides}
use Rattle.verdict.specs.Cover.{width, yielding}
use Rattle.verdict.specs.Pairs.{misses}
use Rattle.verdict.specs.CoverReached.{automata, cover_of, cover-state, reached-below}
use Rattle.verdict.specs.PairLaws.{pair_of}

abbrev Yields : Rewritten → ℕ → ℕ → ℕ → Type 0
Yields R w k n = (q : ℕ) × (q < k) × (n ≡ w * q) × (slice_index R.flags q ≡ 1)

-- The places of the accepting states below k.
pub member-yielding : (R : Rewritten) (w k n : ℕ) → Member n (yielding R w k) ↔ Yields R w k n
unfolding yielding
member-yielding R w zero n = (λ m. absurd (member-none n m), λ m. absurd (omega arith))
member-yielding R w (suc k) n = (
  λ m. there (member-yielding R w k n).0 ((member_union n (yielding R w k) (when (slice_index R.flags k == 1) (one (w * k)))).0 m),
  λ (q, h, e, f). (member_union n (yielding R w k) (when (slice_index R.flags k == 1) (one (w * k)))).1
      (back (member-yielding R w k n).1 q h e f (ℕ_discrete q k)),
)
  where
    there : (Member n (yielding R w k) → Yields R w k n)
        → Member n (yielding R w k) ⊎ Member n (when (slice_index R.flags k == 1) (one (w * k))) → Yields R w (suc k) n
    there ih (inl m) = let (q, h, e, f) = ih m in (q, omega arith, e, f)
    there ih (inr m) =
        let (t, i) = (member-when (slice_index R.flags k == 1) n (one (w * k))).0 m in
        (k, omega arith, (member-one n (w * k)).0 i, eqb-true (slice_index R.flags k) 1 t)

    back : (Yields R w k n → Member n (yielding R w k)) → (q : ℕ) → q < suc k → n ≡ w * q → slice_index R.flags q ≡ 1 → Dec (q ≡ k)
        → Member n (yielding R w k) ⊎ Member n (when (slice_index R.flags k == 1) (one (w * k)))
    back ih q h e f (yes d) =
        inr ((member-when (slice_index R.flags k == 1) n (one (w * k))).1
        (eq-eqb (slice_index R.flags k) 1 (rw d at f), (member-one n (w * k)).1 (e ∙ ap (λ z. w * z) d)))
    back ih q h e f (no d) = inl (ih (q, omega arith, e, f))

-- The accepting places that a path reaches.
abbrev pub accepting_places : Job → Rewritten → Path → ℕ
accepting_places J R p = intersection (cover_of J R p) (yielding R (width (automata J)) R.states)

module _ (J : Job) (R : Rewritten) (decides : Decides J R) where
  pub yielded-exactly : (p : Path) → ((n : ℕ) × Member n (accepting_places J R p)) ↔ Yielded J p
  yielded-exactly p = (there, back)
    where
      there : ((n : ℕ) × Member n (accepting_places J R p)) → Yielded J p
      there (n, m) =
          let (c, y) = (member-intersection n (cover_of J R p) (yielding R (width (automata J)) R.states)).0 m in
          let (q, h, e, f) = (member-yielding R (width (automata J)) R.states n).0 y in
          let (w, k, s, g) = (cover-state J R decides p q).0 (rw e at c) in
          (w, (k, (decides.accepted w k).0 (rw g f)), s)

      back : Yielded J p → (n : ℕ) × Member n (accepting_places J R p)
      back (w, (k, a), s) =
          let q = followed R.table 0 w in
          let n = width (automata J) * q in
          let inside = reached-below J R decides p q (w, k, s, refl) in (
            n,
            (member-intersection n (cover_of J R p) (yielding R (width (automata J)) R.states)).1 (
              (cover-state J R decides p q).1 (w, k, s, refl),
              (member-yielding R (width (automata J)) R.states n).1 (q, inside, refl, (decides.accepted w k).1 a),
            ),
          )

  -- A path is not yielded exactly when it reaches no accepting place.
  none-yielded : (p : Path) → (accepting_places J R p ≡ 0) ↔ (¬ Yielded J p)
  none-yielded p = (
    λ e y. let (n, m) = (yielded-exactly p).1 y in member-none n (rw e at m),
    λ none. no-members (accepting_places J R p) (λ n m. none ((yielded-exactly p).0 (n, m))),
  )

  pub misses-exactly : (p : Path) → (misses (glushkov J.query) R (automata J) (pair_of J R p) ≡ true) ↔ Missed J p
  unfolding misses
  misses-exactly p =
      Iff.trans (and-eq-true_iff (accepts (glushkov J.query) (standing (glushkov J.query) p)) (accepting_places J R p == 0))
      (Iff.and (Iff.symm (glushkov-accepts J.query p))
      (Iff.trans (eqb-true (accepting_places J R p) 0, eq-eqb (accepting_places J R p) 0) (none-yielded p)))

  -- The query paths of a pair that does not miss are yielded.
  pub kept-yielded : (p : Path) → misses (glushkov J.query) R (automata J) (pair_of J R p) ≡ false → QueryPath J p → Yielded J p
  kept-yielded p e q = decided (ℕ_discrete (accepting_places J R p) 0)
    where
      decided : Dec (accepting_places J R p ≡ 0) → Yielded J p
      decided (yes z) = absurd (false≢true (sym e ∙ (misses-exactly p).1 (q, (none-yielded p).0 z)))
      decided (no d) = (yielded-exactly p).0 (not_none (accepting_places J R p) d)
