-- The least place of a set from a place on, of at most 1,024 places: by words (Words), and in a word by its trailing zeros.
use Rattle.std.specs.Prelude.{ℕ, zero, suc, ◌+◌, ◌*◌, ◌-◌, ◌/◌, ◌%◌, ◌^◌, ◌≤◌, ◌<◌, List, ◌↔◌, ◌≢◌, ◌≡◌, refl, length, get_or}
use Rattle.std.proofs.Common.{sym, subst, pow-suc, arith}
use Rattle.std.proofs.Math.Decide.{dec_lt}
use Rattle.std.specs.Int.Count.{count_trailing_zeros, under}
use Rattle.std.proofs.lemmas.Nat.{trailing_le}
use Rattle.theory.specs.Places.{Member}
use Rattle.theory.specs.PlacesLaws.{member-zero, member-suc, member_below}
use Rattle.theory.specs.PlacesShift.{member-down, member-up, member-up-from, member-cut}
use Rattle.places.specs.Words.{number_of, Words}
use Rattle.places.specs.WordsLaws.{member-number}

-- r is the least place of s from `from` on; 1,024 where there is none.
pub record NextPlace (s from r : ℕ) : Type 0 where
  pub bound : r ≤ 1024
  pub onward : from ≤ 1024 → from ≤ r
  pub passed : (i : ℕ) → from ≤ i → i < r → ¬ Member i s
  pub here : r < 1024 → Member r s

-- The trailing zeros of a word count up to its least place.

pub trailing-here : (k n : ℕ) → n ≢ 0 → n < 2 ^ k → Member (count_trailing_zeros k n) n
unfolding count_trailing_zeros
trailing-here zero n d h = absurd (d (omega arith))
trailing-here (suc k) n d h = go (n % 2) refl (λ e. trailing-here k (n / 2) (λ z. d (omega arith)) (let p : n < 2 ^ k * 2 = rw (pow-suc 2 k) at h in omega arith))
  where
    go : (b : ℕ) → n % 2 ≡ b → (n % 2 ≡ 0 → Member (count_trailing_zeros k (n / 2)) (n / 2)) → Member (under b (count_trailing_zeros k (n / 2))) n
    go zero e ih = (member-suc (count_trailing_zeros k (n / 2)) n).1 (ih e)
    go (suc b) e ih = (member-zero n).1 (omega arith)

pub trailing-passed : (k n i : ℕ) → i < count_trailing_zeros k n → ¬ Member i n
unfolding count_trailing_zeros
trailing-passed zero n i h m = omega arith
trailing-passed (suc k) n i h m = go (n % 2) refl i h m (λ j. trailing-passed k (n / 2) j)
  where
    go : (b : ℕ) → n % 2 ≡ b → (i : ℕ) → i < under b (count_trailing_zeros k (n / 2)) → Member i n
        → ((j : ℕ) → j < count_trailing_zeros k (n / 2) → ¬ Member j (n / 2)) → ⊥
    go zero e zero h m ih = omega (arith, (member-zero n).0 m)
    go zero e (suc i) h m ih = ih i (omega arith) ((member-suc i n).0 m)
    go (suc b) e i h m ih = omega arith

-- The words before `index` hold no place from `from` on, and `word` holds those of the word number `index` from `from` on.
pub record Passing (l : List ℕ) (from index word : ℕ) : Type 0 where
  pub inside : index < 16
  pub before : (i : ℕ) → from ≤ i → i < 64 * index → ¬ Member i (number_of l)
  pub low : from ≤ 64 * index + 63
  pub there : (i : ℕ) → i < 64 → Member i word ↔ ((from ≤ 64 * index + i) × Member (64 * index + i) (number_of l))

module _ (l : List ℕ) (words : Words l) (count : length l ≡ 16) (from : ℕ) where
  in-word : (index i : ℕ) → i < 64 → Member (64 * index + i) (number_of l) ↔ Member i (get_or l index 0)
  in-word index i h =
      let p : (64 * index + i) % 64 ≡ i = omega arith in
      let q : (64 * index + i) / 64 ≡ index = omega arith in
      rw (p, q) at (member-number l words (64 * index + i))

  pub passing-start : from < 1024 → Passing l from (from / 64) ((get_or l (from / 64) 0 / 2 ^ (from % 64) * 2 ^ (from % 64)) % 2 ^ 64)
  passing-start h =
      record {
        inside = omega arith;
        before = λ i a b m. omega arith;
        low = omega arith;
        there = λ i k. (
          λ m.
              let u = ((member-cut 64 i (get_or l (from / 64) 0 / 2 ^ (from % 64) * 2 ^ (from % 64))).0 m).1 in
              let b = member-up-from (from % 64) i (get_or l (from / 64) 0 / 2 ^ (from % 64)) u in
              (omega arith, (in-word (from / 64) i k).1 ((kept i b).0 u)),
          λ (a, m).
              let b : from % 64 ≤ i = omega arith in
              (member-cut 64 i (get_or l (from / 64) 0 / 2 ^ (from % 64) * 2 ^ (from % 64))).1 (k, (kept i b).1 ((in-word (from / 64) i k).0 m)),
        );
      }
    where
      kept : (i : ℕ) → from % 64 ≤ i → Member i (get_or l (from / 64) 0 / 2 ^ (from % 64) * 2 ^ (from % 64)) ↔ Member i (get_or l (from / 64) 0)
      kept i b =
          let e : i ≡ from % 64 + (i - from % 64) = omega arith in
          let u = member-up (from % 64) (i - from % 64) (get_or l (from / 64) 0 / 2 ^ (from % 64)) in
          let d = member-down (from % 64) (i - from % 64) (get_or l (from / 64) 0) in (
            λ m. subst (λ z. Member z (get_or l (from / 64) 0)) (sym e) (d.0 (u.0 (subst (λ z. Member z (get_or l (from / 64) 0 / 2 ^ (from % 64) * 2 ^ (from % 64))) e m))),
            λ m. subst (λ z. Member z (get_or l (from / 64) 0 / 2 ^ (from % 64) * 2 ^ (from % 64))) (sym e) (u.1 (d.1 (subst (λ z. Member z (get_or l (from / 64) 0)) e m))),
          )

  none_here : (index word : ℕ) → Passing l from index word → word ≡ 0 → (i : ℕ) → from ≤ i → i < 64 * (index + 1) → ¬ Member i (number_of l)
  none_here index word s z i a b m = go (dec_lt i (64 * index))
    where
      go : Dec (i < 64 * index) → ⊥
      go (yes h) = s.before i a h m
      go (no h) =
          let e : i ≡ 64 * index + (i - 64 * index) = omega arith in
          let k : i - 64 * index < 64 = omega arith in
          let y : Member (i - 64 * index) word = (s.there (i - 64 * index) k).1 (omega arith, subst (λ x. Member x (number_of l)) e m) in
          omega (arith, member_below 0 word (i - 64 * index) (omega arith) y)

  pub passing-next : (index word : ℕ) → Passing l from index word → word ≡ 0 → index + 1 ≢ 16 → Passing l from (index + 1) (get_or l (index + 1) 0)
  passing-next index word s z d =
      record {
        inside = omega (arith, s.inside);
        before = λ i a b. none_here index word s z i a b;
        low = omega (arith, s.low);
        there = λ i k. (λ m. (omega (arith, s.low), (in-word (index + 1) i k).1 m), λ (a, m). (in-word (index + 1) i k).0 m);
      }

  -- No word is left.
  pub passing-none : (index word : ℕ) → Passing l from index word → word ≡ 0 → index + 1 ≡ 16 → NextPlace (number_of l) from 1024
  passing-none index word s z e =
      record {
        bound = omega arith;
        onward = λ h. h;
        passed = λ i a b. none_here index word s z i a (omega arith);
        here = λ h. absurd (omega arith);
      }

  pub passing-found : (index word : ℕ) → word < 2 ^ 64 → Passing l from index word → word ≢ 0 → NextPlace (number_of l) from (64 * index + count_trailing_zeros 64 word)
  passing-found index word small s d =
      let t = count_trailing_zeros 64 word in
      let m = trailing-here 64 word d small in
      let h : t < 64 = member_below 64 word t small m in
      let (a, y) = (s.there t h).0 m in
      record {
        bound = omega (arith, s.inside);
        onward = λ k. a;
        passed = λ i b c u. go i b c u (dec_lt i (64 * index));
        here = λ k. y;
      }
    where
      go : (i : ℕ) → from ≤ i → i < 64 * index + count_trailing_zeros 64 word → Member i (number_of l) → Dec (i < 64 * index) → ⊥
      go i b c u (yes h) = s.before i b h u
      go i b c u (no h) =
          let e : i ≡ 64 * index + (i - 64 * index) = omega arith in
          trailing-passed 64 word (i - 64 * index) (omega arith)
          ((s.there (i - 64 * index) (omega (arith, trailing_le 64 word))).1 (omega arith, subst (λ x. Member x (number_of l)) e u))

-- From 1,024 on there is no place.
pub next-beyond : (s from : ℕ) → 1024 ≤ from → NextPlace s from 1024
next-beyond s from h =
    record {
      bound = omega arith;
      onward = λ k. k;
      passed = λ i a b. absurd (omega arith);
      here = λ k. absurd (omega arith);
    }
