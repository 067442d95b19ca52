-- The set of cover places that a path leads to holds exactly the cover places that the path reaches (document 01). Every member is reached:
-- reached places are kept by the steps over labels and by the ends of lists. Every place reached is a member: the sets are closed under the
-- ends of lists, so a word that spells the path leads through them, list by list and label by label.
use Rattle.std.specs.Prelude.{◌≡◌, ℕ, zero, suc, ◌+◌, ◌*◌, ◌^◌, ◌<◌, ◌≤◌, ◌↔◌, List, [], ◌∷◌, ◌++◌, map, length}
use Rattle.std.proofs.Common.{append-nil, append_assoc, sym, ap, ◌∙◌}
use Rattle.std.specs.Prelude.{refl}
use Rattle.std.proofs.Math.Path.{subst}
use Rattle.std.proofs.Math.Nat.{add-zero}
use native.Mathlib.Omega.{arith}
use Rattle.theory.specs.Path as P
use Rattle.theory.specs.Path.{Label, Path}
use Rattle.theory.specs.Standing.{size, Labelled}
use Rattle.theory.specs.Word as W
use Rattle.theory.specs.Word.{Word}
use Rattle.theory.specs.Job.{Job, SpelledBy}
use Rattle.theory.specs.Places.{Member, one, union_over}
use Rattle.theory.specs.PlacesLaws.{member-one, member_below, members-below, member-union_over, one_below, union_over-below}
use Rattle.theory.specs.ClosureLaws.{closed-under, closure-exactly, closure-keeps, closure-reached, closure-below, reaches_step}
use Rattle.theory.specs.Images.{after, after-append}
use Rattle.theory.specs.Occurrences.{labelled-within}
use Rattle.theory.specs.Chain.{FollowFrom}
use Rattle.theory.specs.StandsAt as S
use Rattle.theory.specs.StandsAt.{StandsAt}
use Rattle.theory.proofs.GlushkovRelations.{path-exactly}
use Rattle.theory.specs.Automaton.{Automaton, glushkov}
use Rattle.finding.specs.Finds.{followed}
use Rattle.finding.specs.Rewritten.{Rewritten, next_state, Decides}
use Rattle.verdict.specs.Cover.{width, places, moves, ends, settled, cover_start, cover_step}
use Rattle.verdict.specs.Verdicts.{ReachesState, ReachesOccurrence}
use Rattle.verdict.specs.CoverPlaces.{list_at, base, offset, offsets, numbered, offsets-exactly, offset-below, split_below, state-below}
use Rattle.verdict.specs.CoverMoves.{Moved, moves-back, moves-exactly}
use Rattle.verdict.specs.CoverEnds.{Ended, ends-back, ends-exactly}
use Rattle.verdict.specs.CoverMeaning.{final-inside, follow-inside, Reading, Held, alone, within, reading-occurrence}
use Rattle.verdict.specs.CoverMeaning.{reading-moves, reading-ends, held-state, held-reading}

-- The automata of the job's lists.
abbrev pub automata : Job → List Automaton
automata J = map glushkov J.lists

-- The set of cover places that a path leads to.
abbrev pub cover_of : Job → Rewritten → Path → ℕ
cover_of J R p = after (cover_step R (automata J)) (cover_start R (automata J)) p

-- Every member of the set s is reached by p.

abbrev Sound : Job → Rewritten → ℕ → Path → Type 0
Sound J R s p = (n : ℕ) → Member n s → Held J R p n

module _ (J : Job) (R : Rewritten) where
  held-ends : {p : Path} (n m : ℕ) → Held J R p n → Member m (ends R (automata J) n) → Held J R p m
  held-ends {p} n m h k =
      let r : Ended J.lists R n m = (ends-exactly J.lists R n m).0 k in
      let inside = final-inside (list_at J.lists r.list) r.place r.final in
      let reading = held-reading J R r.state r.list r.place r.inside inside (subst (Held J R p) r.starts h) in
      alone (next_state R r.state r.list) r.stops (reading-ends J R r.inside reading r.final)

  held-moves : {p : Path} (a : Label) (n m : ℕ) → Held J R p n → Member m (moves (automata J) a n) → Held J R (p ++ (a ∷ [])) m
  held-moves {p} a n m h k =
      let r : Moved J.lists a n m = (moves-exactly J.lists a n m).0 k in
      let inside = follow-inside (list_at J.lists r.list) r.from r.to r.follows in
      let reading = held-reading J R r.state r.list r.from r.inside inside (subst (Held J R p) r.starts h) in
      side r.state r.list r.to r.inside r.stops r.reads (reading-moves J R r.to a reading r.follows r.reads)
    where
      side : (q v z : ℕ) → v < length J.lists → m ≡ numbered J.lists q v z → Labelled 1 (list_at J.lists v) z a
          → Reading J R (p ++ (a ∷ [])) q v z → Held J R (p ++ (a ∷ [])) m
      side q v zero l e d g = absurd (omega (arith, labelled-within 1 (list_at J.lists v) 0 a d))
      side q v (suc z) l e d g = within q v z l e g

  settled-sound : (s : ℕ) (p : Path) → Sound J R s p → Sound J R (settled R (automata J) s) p
  unfolding settled
  settled-sound s p sound n m =
      let (x, k, r) = closure-reached (ends R (automata J)) (places R (automata J)) (places R (automata J)) s n m in
      closed-under (Held J R p) held-ends (sound x k) r

  start-sound : Sound J R (cover_start R (automata J)) []
  unfolding cover_start followed
  start-sound = settled-sound (one 0) [] (λ n m. alone 0 (omega (arith, (member-one n 0).0 m)) ([], P.nothing, W.nothing, refl))

  step-sound : (s : ℕ) (p : Path) (a : Label) → Sound J R s p → Sound J R (cover_step R (automata J) s a) (p ++ (a ∷ []))
  unfolding cover_step
  step-sound s p a sound =
      settled-sound (union_over (moves (automata J) a) (places R (automata J)) s) (p ++ (a ∷ [])) (λ n m.
      let (x, h, k, l) = (member-union_over (moves (automata J) a) (places R (automata J)) s n).0 m in
      held-moves a x n (sound x k) l)

  after-sound : (s : ℕ) (p r : Path) → Sound J R s p → Sound J R (after (cover_step R (automata J)) s r) (p ++ r)
  after-sound s p [] sound n m = rw (append-nil p) (sound n m)
  after-sound s p (a ∷ r) sound n m =
      subst (λ q. Held J R q n) (append_assoc p (a ∷ []) r)
      (after-sound (cover_step R (automata J) s a) (p ++ (a ∷ [])) r (step-sound s p a sound) n m)

  -- Every cover place that a path leads to is reached by it.
  pub cover-held : (p : Path) (n : ℕ) → Member n (cover_of J R p) → Held J R p n
  cover-held p = after-sound (cover_start R (automata J)) [] p start-sound

-- A set of cover places that is closed under the ends of lists.
record Settled (J : Job) (R : Rewritten) (s : ℕ) : Type 0 where
  below : s < 2 ^ places R (automata J)
  closed : (n m : ℕ) → Member n s → Member m (ends R (automata J) n) → Member m s

module _ (J : Job) (R : Rewritten) (decides : Decides J R) where
  -- A place of a state is below the number of places.
  numbered_below : (q v x : ℕ) → q < R.states → v < length J.lists → x ≤ size (list_at J.lists v)
      → numbered J.lists q v x < places R (automata J)
  unfolding places
  numbered_below q v x h l k = split_below (offsets J.lists) R.states q (offset J.lists v x) (offset-below J.lists v x l k) h

  alone-below : (q : ℕ) → q < R.states → offsets J.lists * q < places R (automata J)
  unfolding places
  alone-below q h =
      rw (← add-zero (offsets J.lists * q))
      (split_below (offsets J.lists) R.states q 0 (omega (arith, offsets-exactly J.lists)) h)

  moves-below : (a : Label) (n : ℕ) → n < places R (automata J) → moves (automata J) a n < 2 ^ places R (automata J)
  unfolding places
  moves-below a n h =
      members-below (places R (automata J)) (moves (automata J) a n) (λ m k.
      let r : Moved J.lists a n m = (moves-exactly J.lists a n m).0 k in
      let state = state-below (offsets J.lists) R.states r.state (offset J.lists r.list r.from) (rw r.starts at h) in
      let inside = labelled-within 1 (list_at J.lists r.list) r.to a r.reads in
      rw r.stops (numbered_below r.state r.list r.to state r.inside (omega arith)))

  ends-below : (n : ℕ) → n < places R (automata J) → ends R (automata J) n < 2 ^ places R (automata J)
  unfolding places
  ends-below n h =
      members-below (places R (automata J)) (ends R (automata J) n) (λ m k.
      let r : Ended J.lists R n m = (ends-exactly J.lists R n m).0 k in
      let state = state-below (offsets J.lists) R.states r.state (offset J.lists r.list r.place) (rw r.starts at h) in
      rw r.stops (alone-below (next_state R r.state r.list) (decides.next r.state r.list state r.inside)))

  settled-settled : (s : ℕ) → s < 2 ^ places R (automata J) → Settled J R (settled R (automata J) s)
  unfolding settled
  settled-settled s h =
      record {
        below = closure-below (ends R (automata J)) (places R (automata J)) (places R (automata J)) s h ends-below;
        closed = λ n m k l.
            let (x, i, r) = (closure-exactly (ends R (automata J)) (places R (automata J)) s h ends-below n).0 k in
            (closure-exactly (ends R (automata J)) (places R (automata J)) s h ends-below m).1 (x, i, reaches_step r l);
      }

  start-below : one 0 < 2 ^ places R (automata J)
  start-below = one_below (places R (automata J)) 0 (omega (arith, alone-below 0 decides.some-state))

  start-settled : Settled J R (cover_start R (automata J))
  unfolding cover_start
  start-settled = settled-settled (one 0) start-below

  start-member : Member (offsets J.lists * 0) (cover_start R (automata J))
  unfolding cover_start settled
  start-member =
      let zero : offsets J.lists * 0 ≡ 0 = omega arith in
      closure-keeps (ends R (automata J)) (places R (automata J)) (places R (automata J)) (one 0) (offsets J.lists * 0)
      ((member-one (offsets J.lists * 0) 0).1 zero)

  step-settled : (s : ℕ) (a : Label) → Settled J R (cover_step R (automata J) s a)
  unfolding cover_step
  step-settled s a =
      settled-settled (union_over (moves (automata J) a) (places R (automata J)) s)
      (union_over-below (moves (automata J) a) (places R (automata J)) (places R (automata J)) s (moves-below a))

  after-settled : (s : ℕ) (p : Path) → Settled J R s → Settled J R (after (cover_step R (automata J)) s p)
  after-settled s [] h = h
  after-settled s (a ∷ p) h = after-settled (cover_step R (automata J) s a) p (step-settled s a)

  -- A label leads from a member to a member, a list's reading to its end, and a word to its state.

  step-member : {s : ℕ} (q v x z : ℕ) (a : Label) → Settled J R s → v < length J.lists → Member (numbered J.lists q v x) s
      → FollowFrom (list_at J.lists v) x z → Labelled 1 (list_at J.lists v) z a
      → Member (numbered J.lists q v z) (cover_step R (automata J) s a)
  unfolding cover_step settled
  step-member {s} q v x z a set l m f d =
      closure-keeps (ends R (automata J)) (places R (automata J)) (places R (automata J))
      (union_over (moves (automata J) a) (places R (automata J)) s) (numbered J.lists q v z)
      ((member-union_over (moves (automata J) a) (places R (automata J)) s (numbered J.lists q v z)).1 (
        numbered J.lists q v x,
        member_below (places R (automata J)) s (numbered J.lists q v x) set.below m,
        m,
        moves-back J.lists a q v x z l f d,
      ))

  reading-member : (q v : ℕ) {s x y : ℕ} {r : Path} → Settled J R s → v < length J.lists → Member (numbered J.lists q v x) s
      → StandsAt (list_at J.lists v) x r y → Member (numbered J.lists q v y) (after (cover_step R (automata J)) s r)
  reading-member q v set l m S.done = m
  reading-member q v {s = s} set l m (S.next {x = x} {z = z} {a = a} f d t) =
      reading-member q v {s = cover_step R (automata J) s a} (step-settled s a) l (step-member q v x z a set l m f d) t

  word-member : {s : ℕ} {w : Word} {r : Path} (q : ℕ) → Settled J R s → Member (offsets J.lists * q) s → SpelledBy J w r
      → Member (offsets J.lists * followed R.table q w) (after (cover_step R (automata J)) s r)
  unfolding followed
  word-member q set m W.nothing = m
  word-member {s} q set m (W.name {v = v} {w = w} u r e (l, h) t) =
      let (y, g, f) = (path-exactly (list_at J.lists v) u).0 h in
      let start : Member (numbered J.lists q v 0) s = rw (add-zero (offsets J.lists * q)) m in
      let k = after-settled s u set in
      let end = k.closed _ _ (reading-member q v set l start g) (ends-back J.lists R q v y l f) in
      let on = word-member {s = after (cover_step R (automata J)) s u} (next_state R q v) k end t in
      subst (Member (offsets J.lists * followed R.table (next_state R q v) w))
      (sym (ap (after (cover_step R (automata J)) s) e ∙ after-append (cover_step R (automata J)) s u r)) on

  -- Every cover place that a path reaches is among those that it leads to.

  state-member : {p : Path} {q : ℕ} → ReachesState J R p q → Member (offsets J.lists * q) (cover_of J R p)
  state-member {p} (w, b, t, e) =
      subst (λ n. Member (offsets J.lists * n) (cover_of J R p)) e (word-member 0 start-settled start-member t)

  occurrence-member : {p : Path} {q v x : ℕ} → v < length J.lists → Reading J R p q v x → Member (numbered J.lists q v x) (cover_of J R p)
  occurrence-member {p} {q} {v} {x} l r =
      let start : Member (numbered J.lists q v 0) (cover_of J R r.front) =
      rw (add-zero (offsets J.lists * q)) (state-member r.reached) in
      let on = reading-member q v (after-settled (cover_start R (automata J)) r.front start-settled) l start r.stands in
      subst (Member (numbered J.lists q v x))
      (sym (ap (cover_of J R) r.whole ∙ after-append (cover_step R (automata J)) (cover_start R (automata J)) r.front r.rest)) on

  pub held-cover : (p : Path) (n : ℕ) → Held J R p n → Member n (cover_of J R p)
  held-cover p n (alone q e h) = rw e (state-member h)
  held-cover p n (within q v x l e r) = rw e (occurrence-member l r)

  -- The set of cover places that a path leads to: its states alone, its states with an occurrence of a list, and nothing else.

  pub cover-exactly : (p : Path) (n : ℕ) → Member n (cover_of J R p) ↔ Held J R p n
  cover-exactly p n = (cover-held J R p n, held-cover p n)

  pub cover-state : (p : Path) (q : ℕ) → Member (width (automata J) * q) (cover_of J R p) ↔ ReachesState J R p q
  cover-state p q = (λ m. held-state J R (cover-held J R p (offsets J.lists * q) m), state-member)

  pub cover-occurrence : (p : Path) (q v x : ℕ) → v < length J.lists → x < size (list_at J.lists v)
      → Member (width (automata J) * q + (base J.lists v + suc x)) (cover_of J R p) ↔ ReachesOccurrence J R p q v x
  cover-occurrence p q v x l k = (
    λ m. (reading-occurrence J R p q v x).0 (held-reading J R q v (suc x) l k (cover-held J R p (numbered J.lists q v (suc x)) m)),
    λ r. occurrence-member l ((reading-occurrence J R p q v x).1 r),
  )

  pub cover-below : (p : Path) → cover_of J R p < 2 ^ places R (automata J)
  cover-below p = (after-settled (cover_start R (automata J)) p start-settled).below

  -- A path reaches states of the rewriting alone.
  pub reached-below : (p : Path) (q : ℕ) → ReachesState J R p q → q < R.states
  unfolding places
  reached-below p q h =
      let inside = member_below (places R (automata J)) (cover_of J R p) (offsets J.lists * q) (cover-below p) ((cover-state p q).1 h) in
      state-below (offsets J.lists) R.states q 0 (rw (add-zero (offsets J.lists * q)) inside)
