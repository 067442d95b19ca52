-- The search by sets of recordings (TurnedRun): a word of the sets is taken.
use Rattle.std.specs.Prelude.{◌≡◌, ℕ, ◌+◌, ◌*◌, ◌/◌, ◌%◌, ◌^◌, ◌<◌, true, false, ◌⊎◌, ◌↔◌, List, length, bit_xor, slice_index, slice_index_or, slice_set}
use Rattle.std.proofs.lemmas.Bool.{false≢true}
use Rattle.std.proofs.Common.{inl, inr, sym, ap, ◌∙◌, subst, subst₂, add_assoc, arith, length-set, get_or-set_same, get_or-set_other}
use Rattle.std.specs.Prelude.{refl}
use Rattle.std.proofs.Math.Decide.{ℕ_discrete}
use Rattle.theory.specs.Places.{Member}
use Rattle.theory.specs.PlacesLaws.{dec_member, member-none, member_below, equal-members, not_none}
use Rattle.theory.specs.PlacesWithin.{member-without}
use Rattle.answering.specs.SetSearch.{Steps}
use Rattle.answering.specs.Pairs.{Has, place, room, room-less}
use Rattle.answering.specs.WordsPending.{left-of}
use Rattle.answering.specs.Ends.{EndsFit, EndsBelow}
use Rattle.answering.specs.EndSteps.{Turnable, LedTo, MembersFollowed}
use Rattle.answering.specs.TurnedRun.{EndFound, onward, TurnedRoom, TurnedGoing, WordTaken}

-- A recording of a state in its word, which has the number 4 × s + y / 64.
pub has-at : (l : List ℕ) (s y : ℕ) {i p : ℕ} → place 4 s y ≡ i → y % 64 ≡ p → Has 4 l s y ↔ Member p (slice_index l i)
unfolding Has
has-at l s y e f = (
  λ m. subst₂ (λ p i. Member p (slice_index l i)) f e m,
  λ m. subst₂ (λ p i. Member p (slice_index l i)) (sym f) (sym e) m,
)

-- The word number i is of the state i / 4, and its members count recordings from here on.
abbrev pub from_of : ℕ → ℕ
from_of i = 64 * (i % 4)

pub word-has : (l : List ℕ) (i p : ℕ) → p < 64 → Has 4 l (i / 4) (from_of i + p) ↔ Member p (slice_index l i)
word-has l i p h = has-at l (i / 4) (from_of i + p) (omega arith) (omega arith)

-- What is new in a word: what is reached and not done.
abbrev pub new_at : List ℕ → List ℕ → ℕ → ℕ
new_at sets done i = bit_xor (slice_index sets i) (slice_index done i)

-- The recording x of the state s is new in the word number i.
abbrev NewIn : List ℕ → List ℕ → ℕ → ℕ → ℕ → Type 0
NewIn sets done i s x = (s ≡ i / 4) × (from_of i + x % 64 ≡ x) × Member (x % 64) (new_at sets done i)

-- Some recording of the state s leads to y in the state t.
abbrev Led : List ℕ → ℕ → ℕ → List ℕ → List ℕ → ℕ → ℕ → ℕ → Type 0
Led rows k N ends sets s t y =
    (a x : ℕ) × (a < k) × (x < N) × Has 4 sets s x × Steps rows k 1 s a t × Has 4 ends (N * a + x) y

-- What is done, where all of the word is.
abbrev all_done : List ℕ → List ℕ → ℕ → List ℕ
all_done sets done i = slice_set done i (slice_index sets i)

module _ {states N i : ℕ} {sets done : List ℕ} (r : TurnedRoom states N sets done) (h : i < 4 * states) where
  new-at : (p : ℕ) → Member p (new_at sets done i) ↔ (Member p (slice_index sets i) × ¬ Member p (slice_index done i))
  new-at p =
      let e = left-of (slice_index sets i) (slice_index done i) (λ b. r.within i b h) in
      let w = member-without (slice_index sets i) (slice_index done i) p in
      (λ m. w.0 (subst (Member p) e m), λ m. subst (Member p) (sym e) (w.1 m))

  -- Nothing is new.
  pub word_same : (rows : List ℕ) (k : ℕ) (ends : List ℕ) → new_at sets done i ≡ 0
      → WordTaken rows k states N ends i sets done sets done false
  word_same rows k ends e = record {
    lent = r;
    going = λ start g. g;
    more = λ f. absurd (false≢true f);
    nothing = λ f. (refl, refl, equal-members (slice_index sets i) (slice_index done i) same);
  }
    where
      go : (p : ℕ) → Member p (slice_index sets i) → Dec (Member p (slice_index done i)) → Member p (slice_index done i)
      go p m (yes d) = d
      go p m (no d) = absurd (member-none p (subst (Member p) e ((new-at p).1 (m, d))))

      same : (p : ℕ) → Member p (slice_index sets i) ↔ Member p (slice_index done i)
      same p = (λ m. go p m (dec_member p (slice_index done i)), r.within i p h)

  -- The word is done as it stands in the sets, and the others as they were.

  done-here : slice_index_or (all_done sets done i) i 0 ≡ slice_index sets i
  done-here = get_or-set_same done i (slice_index sets i) 0 (let l = r.done-fit in omega arith)

  done-there : (j : ℕ) → ¬ (j ≡ i) → slice_index (all_done sets done i) j ≡ slice_index done j
  done-there j d = get_or-set_other done i j (slice_index sets i) 0 d

  done-within : (j p : ℕ) → j < 4 * states → Member p (slice_index (all_done sets done i) j) → Member p (slice_index sets j)
  done-within j p l m = go (ℕ_discrete j i)
    where
      go : Dec (j ≡ i) → Member p (slice_index sets j)
      go (yes e) = rw e (subst (Member p) done-here (rw e at m))
      go (no d) = r.within j p l (subst (Member p) (done-there j d) m)

  done-kept : (j p : ℕ) → Member p (slice_index done j) → Member p (slice_index (all_done sets done i) j)
  done-kept j p m = go (ℕ_discrete j i)
    where
      go : Dec (j ≡ i) → Member p (slice_index (all_done sets done i) j)
      go (yes e) = rw e (subst (Member p) (sym done-here) (r.within i p h (rw e at m)))
      go (no d) = subst (Member p) (sym (done-there j d)) m

  -- What is done now was done, or is new.
  done-now : (s x : ℕ) → x < 256 → Has 4 (all_done sets done i) s x
      → Has 4 done s x ⊎ NewIn sets done i s x
  done-now s x c m = go (ℕ_discrete (place 4 s x) i)
    where
      old : (e : place 4 s x ≡ i) → Member (x % 64) (slice_index sets i) → Dec (Member (x % 64) (slice_index done i))
          → Has 4 done s x ⊎ NewIn sets done i s x
      old e n (yes d) = inl ((has-at done s x e refl).1 d)
      old e n (no d) = inr (omega arith, omega arith, (new-at (x % 64)).1 (n, d))

      go : Dec (place 4 s x ≡ i) → Has 4 done s x ⊎ NewIn sets done i s x
      go (yes e) =
          let n = (has-at (all_done sets done i) s x e refl).0 m in
          old e (subst (Member (x % 64)) done-here n) (dec_member (x % 64) (slice_index done i))
      go (no d) =
          let n = (has-at (all_done sets done i) s x refl refl).0 m in
          inl ((has-at done s x refl refl).1 (subst (Member (x % 64)) (done-there (place 4 s x) d) n))

  module _ (low : slice_index_or sets i 0 < 2 ^ 64) where
    -- The new ones are recordings of the word's state.
    new-has : (p : ℕ) → Member p (new_at sets done i) → (p < 64) × Has 4 sets (i / 4) (from_of i + p)
    new-has p m =
        let a = ((new-at p).0 m).0 in
        let l = member_below 64 (slice_index sets i) p low a in
        (l, (word-has sets i p l).1 a)

    pub new-below : (p : ℕ) → Member p (new_at sets done i) → from_of i + p < N
    new-below p m = let (l, a) = new-has p m in r.below (i / 4) (from_of i + p) (omega arith) (omega arith) a

    -- Where there is one, more is done.
    done_more : ¬ (new_at sets done i ≡ 0) → room (all_done sets done i) < room done
    done_more d =
        let (p, m) = not_none (new_at sets done i) d in
        let (a, n) = (new-at p).0 m in
        room-less done (all_done sets done i) (length-set done i (slice_index sets i)) done-kept i p (let l = r.done-fit in omega arith)
        (new-has p m).0 n (subst (Member p) (sym done-here) a)

-- The new recordings of a word are done, and their links have been followed.
module _ {rows : List ℕ} {k states N : ℕ} {ends : List ℕ} {i : ℕ} {sets done : List ℕ} (sets' : List ℕ) (t : Turnable rows k states)
    (fit : EndsFit k N ends) (b : EndsBelow k N ends) (r : TurnedRoom states N sets done) (h : i < 4 * states)
    (low : (j : ℕ) → slice_index sets j < 2 ^ 64)
    (f : MembersFollowed rows k N ends (from_of i) (new_at sets done i) (i / 4) sets sets') where
  few : {s : ℕ} → s < states → s < 64
  few l = let n = t.few-states in omega arith

  -- The sets keep what they have.

  has_kept : (s y : ℕ) → s < states → y < 256 → Has 4 sets s y → Has 4 sets' s y
  has_kept s y l c m = (f s y (few l) c).1 (inl m)

  word_kept : (j p : ℕ) → j < 4 * states → Member p (slice_index sets j) → Member p (slice_index sets' j)
  word_kept j p l m =
      let c = member_below 64 (slice_index sets j) p (low j) m in
      (word-has sets' j p c).0 (has_kept (j / 4) (from_of j + p) (omega arith) (omega arith) ((word-has sets j p c).1 m))

  -- What comes into them is led to from a recording that was there.
  led-from : (s y : ℕ) → s < states → y < 256 → Has 4 sets' s y
      → Has 4 sets s y ⊎ Led rows k N ends sets (i / 4) s y
  led-from s y l c m = go ((f s y (few l) c).0 m)
    where
      go : Has 4 sets s y ⊎ LedTo rows k N ends (from_of i) (new_at sets done i) (i / 4) s y
          → Has 4 sets s y ⊎ Led rows k N ends sets (i / 4) s y
      go (inl o) = inl o
      go (inr (a, d, q, (p, n, e))) = inr (
        a,
        from_of i + p,
        d,
        new-below r h (low i) p n,
        (new-has r h (low i) p n).1,
        q,
        subst (λ z. Has 4 ends z y) (add_assoc (N * a) (from_of i) p) e,
      )

  word-lent : length sets' ≡ length sets → TurnedRoom states N sets' (all_done sets done i)
  word-lent e = record {
    sets-fit = let l = r.sets-fit in omega arith;
    done-fit = simp length-set r.done-fit;
    below = λ s y l c m. go s y l c (led-from s y l c m);
    within = λ j p l m. word_kept j p l (done-within r h j p l m);
  }
    where
      go : (s y : ℕ) → s < states → y < 256
          → Has 4 sets s y ⊎ Led rows k N ends sets (i / 4) s y
          → y < N
      go s y l c (inl m) = r.below s y l c m
      go s y l c (inr (a, x, d, z, n, q, v)) = b a x y d z c v

  word-going : (start : ℕ) → TurnedGoing rows k states N ends start sets done
      → TurnedGoing rows k states N ends start sets' (all_done sets done i)
  word-going start g = record {
    sound = λ s y l c m. sound' s y l c (led-from s y l c m);
    begins = g.begins;
    first = has_kept 0 start t.some-states (small g.begins) g.first;
    closed = λ s x l c m. closed' s x l c (done-now r h s x (small c) m);
  }
    where
      small : {x : ℕ} → x < N → x < 256
      small l = let n = fit.few in omega arith

      sound' : (s y : ℕ) → s < states → y < 256
          → Has 4 sets s y ⊎ Led rows k N ends sets (i / 4) s y
          → EndFound rows k states N ends start y s
      sound' s y l c (inl m) = g.sound s y l c m
      sound' s y l c (inr (a, x, d, z, n, q, v)) =
          onward (g.sound (i / 4) x (omega arith) (small z) n) (omega arith) d c (few l) q v

      closed' : (s x : ℕ) → s < states → x < N
          → Has 4 done s x ⊎ NewIn sets done i s x → (a y u : ℕ) → a < k → y < 256
          → u < 64 → Steps rows k 1 s a u → Has 4 ends (N * a + x) y → Has 4 sets' u y
      closed' s x l c (inl m) a y u d v w q e = has_kept u y (t.within s a u l d w q) v (g.closed s x l c m a y u d v w q e)
      closed' s x l c (inr (o, z, m)) a y u d v w q e =
          (f u y w v).1 (inr (
            a,
            d,
            subst (λ s. Steps rows k 1 s a u) o q,
            (x % 64, m, subst (λ z. Has 4 ends z y) (ap (λ x. N * a + x) (sym z) ∙ sym (add_assoc (N * a) (from_of i) (x % 64))) e),
          ))

  pub word-taken : length sets' ≡ length sets → ¬ (new_at sets done i ≡ 0)
      → WordTaken rows k states N ends i sets done sets' (all_done sets done i) true
  word-taken e d = record {
    lent = word-lent e;
    going = word-going;
    more = λ q. done_more r h (low i) d;
    nothing = λ q. absurd (false≢true (sym q));
  }
