-- The loops that read what the states lead to (Columns, Passing): the words of the state 0, and the entries where paths of lists end
-- (Finishing). What they keep, turn by turn.
use Rattle.std.specs.Prelude.{◌≡◌, ℕ, ◌+◌, ◌*◌, ◌/◌, ◌%◌, ◌^◌, ◌<◌, ◌≤◌, Bool, true, ◌↔◌, List, length, slice_index, slice_index_or, slice_set}
use Rattle.std.specs.Prelude.{refl}
use Rattle.std.proofs.Common.{sym, ap, ◌∙◌, subst, mul_comm, arith, length-set, pow_pos, get_or-set_same, get_or-set_other, below_more}
use Rattle.std.proofs.Math.Decide.{dec_lt}
use Rattle.theory.specs.Places.{Member}
use Rattle.theory.specs.PlacesLaws.{member-none, member_below}
use Rattle.places.specs.Words.{number_of, Words}
use Rattle.places.specs.WordsLaws.{member-number}
use Rattle.verdict.specs.Columns.{LeadsIn, Passing, Finishing}

-- The words of the state 0, as four words, the first k of which are given.
pub first-copied : (k : ℕ) (passes first : List ℕ) → Words passes → ((i : ℕ) → i < k → slice_index first i ≡ slice_index passes i)
    → ((i : ℕ) → k ≤ i → slice_index first i ≡ 0) → (t : ℕ) → Member t (number_of first) ↔ LeadsIn k passes 0 t
first-copied k passes first fits given empty t = (
  λ m. there ((member-number first words t).0 m) (dec_lt (t / 64) k),
  λ (h, m). (member-number first words t).1 (subst (Member (t % 64)) (sym (word h)) m),
)
  where
    words : Words first
    words i = side (dec_lt i k)
      where
        side : Dec (i < k) → slice_index first i < 2 ^ 64
        side (yes h) = subst (λ (z : ℕ). z < 2 ^ 64) (sym (given i h)) (fits i)
        side (no h) = subst (λ (z : ℕ). z < 2 ^ 64) (sym (empty i (omega arith))) (pow_pos 64)

    word : t / 64 < k → slice_index first (t / 64) ≡ slice_index passes (k * 0 + t / 64)
    word h = given (t / 64) h ∙ ap (λ (z : ℕ). slice_index passes z) (omega (arith, mul_comm k 0))

    there : Member (t % 64) (slice_index first (t / 64)) → Dec (t / 64 < k) → LeadsIn k passes 0 t
    there m (yes h) = (h, subst (Member (t % 64)) (word h) m)
    there m (no d) = absurd (member-none (t % 64) (subst (Member (t % 64)) (empty (t / 64) (omega arith)) m))

-- The entries of the states before p, for the list v, are those of the next states; no other entry is changed.
pub record EntriesBefore (states v : ℕ) (table passes ended ended' : List ℕ) (p : ℕ) : Type 0 where
  pub size : length ended' ≡ length ended
  pub below : (q : ℕ) → q < p → slice_index table (16 * q + v) < states
  pub told : (q : ℕ) → q < p → slice_index ended' (64 * v + q) ≡ slice_index passes (slice_index table (16 * q + v))
  pub others : (j : ℕ) → j < 64 * v → slice_index ended' j ≡ slice_index ended j

-- So it is for all states, or a next state is none of the states.
pub record ListEnded (states v : ℕ) (table passes ended ended' : List ℕ) (r : Bool) : Type 0 where
  pub size : length ended' ≡ length ended
  pub entries : r ≡ true → EntriesBefore states v table passes ended ended' states

pub entries-start : (states v : ℕ) (table passes ended : List ℕ) → EntriesBefore states v table passes ended ended 0
entries-start states v table passes ended =
    record { size = refl; below = λ q h. absurd (omega arith); told = λ q h. absurd (omega arith); others = λ j h. refl }

pub entries-turn : (states v : ℕ) (table passes ended ended' : List ℕ) (p : ℕ) → 64 * v + p < length ended' → slice_index table (16 * p + v) < states
    → EntriesBefore states v table passes ended ended' p
    → EntriesBefore states v table passes ended (slice_set ended' (64 * v + p) (slice_index passes (slice_index table (16 * p + v)))) (p + 1)
entries-turn states v table passes ended ended' p room next l =
    record {
      size = length-set ended' (64 * v + p) entry ∙ l.size;
      below = below_more (λ q. slice_index table (16 * q + v) < states) p l.below next;
      told = below_more (λ q. slice_index (slice_set ended' (64 * v + p) entry) (64 * v + q) ≡ slice_index passes (slice_index table (16 * q + v))) p
          (λ q h. get_or-set_other ended' (64 * v + p) (64 * v + q) entry 0 (λ e. omega arith) ∙ l.told q h)
          (get_or-set_same ended' (64 * v + p) entry 0 room);
      others = λ j h. get_or-set_other ended' (64 * v + p) j entry 0 (λ e. omega arith) ∙ l.others j h;
    }
  where
    entry : ℕ
    entry = slice_index passes (slice_index table (16 * p + v))

-- The entries of the lists before v are those of the next states.
pub record EndedBefore (states : ℕ) (table passes ended : List ℕ) (v : ℕ) : Type 0 where
  pub below : (q u : ℕ) → q < states → u < v → slice_index table (16 * q + u) < states
  pub told : (q u : ℕ) → q < states → u < v → slice_index ended (64 * u + q) ≡ slice_index passes (slice_index table (16 * q + u))

pub ended-start : (states : ℕ) (table passes ended : List ℕ) → EndedBefore states table passes ended 0
ended-start states table passes ended = record { below = λ q u h k. absurd (omega arith); told = λ q u h k. absurd (omega arith) }

pub ended-turn : (states : ℕ) (table passes ended ended' : List ℕ) (v : ℕ) → states ≤ 64
    → EntriesBefore states v table passes ended ended' states → EndedBefore states table passes ended v
    → EndedBefore states table passes ended' (v + 1)
ended-turn states table passes ended ended' v few new l =
    record {
      below = λ q u h. below_more (λ z. slice_index table (16 * q + z) < states) v (λ z k. l.below q z h k) (new.below q h) u;
      told = λ q u h. below_more (λ z. slice_index ended' (64 * z + q) ≡ slice_index passes (slice_index table (16 * q + z))) v
          (λ z k. new.others (64 * z + q) (omega arith) ∙ l.told q z h k) (new.told q h) u;
    }

-- Where a state has one word, its places are the states that it leads to.
pub one_word : (passes : List ℕ) (q t : ℕ) → slice_index passes q < 2 ^ 64 → LeadsIn 1 passes q t ↔ Member t (slice_index passes q)
one_word passes q t fits = (λ (h, m). there h m, λ m. back m (member_below 64 (slice_index passes q) t fits m))
  where
    there : t / 64 < 1 → Member (t % 64) (slice_index passes (1 * q + t / 64)) → Member t (slice_index passes q)
    there h m =
        let at : 1 * q + t / 64 ≡ q = omega arith in
        let low : t % 64 ≡ t = omega arith in
        subst (λ (z : ℕ). Member z (slice_index passes q)) low (subst (λ (z : ℕ). Member (t % 64) (slice_index passes z)) at m)

    back : Member t (slice_index passes q) → t < 64 → LeadsIn 1 passes q t
    back m h =
        let at : q ≡ 1 * q + t / 64 = omega arith in
        let low : t ≡ t % 64 = omega arith in
        (omega arith, subst (λ (z : ℕ). Member z (slice_index passes (1 * q + t / 64))) low (subst (λ (z : ℕ). Member t (slice_index passes z)) at m))

pub ended-finishing : (states n : ℕ) (accepting table passes ended : List ℕ) → Words ended → EndedBefore states table passes ended n
    → Passing 1 states n accepting table passes → Finishing states n accepting table ended
ended-finishing states n accepting table passes ended words l p =
    record {
      exact = λ q v t h k. (
        λ m. (p.exact (next q v) t (l.below q v h k)).0 ((leads q v t h k).0 m),
        λ r. (leads q v t h k).1 ((p.exact (next q v) t (l.below q v h k)).1 r),
      );
      within = λ q v t h k m. p.within (next q v) t (l.below q v h k) ((leads q v t h k).0 m);
    }
  where
    next : ℕ → ℕ → ℕ
    next q v = slice_index table (16 * q + v)

    leads : (q v t : ℕ) → q < states → v < n → Member t (slice_index ended (64 * v + q)) ↔ LeadsIn 1 passes (next q v) t
    leads q v t h k =
        let e : slice_index_or ended (64 * v + q) 0 ≡ slice_index_or passes (next q v) 0 = l.told q v h k in
        let word = one_word passes (next q v) t (subst (λ (z : ℕ). z < 2 ^ 64) e (words (64 * v + q))) in
        (λ m. word.1 (subst (Member t) e m), λ m. subst (Member t) (sym e) (word.0 m))
