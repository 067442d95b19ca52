-- Where the links of each recording begin (Links), in one pass over the triples from the last to the first: each triple takes the place of
-- those behind it that leave the same recording.
use Rattle.std.specs.Prelude.{◌≡◌, ℕ, ◌+◌, ◌/◌, ◌<◌, ◌≤◌, List, length, replicate, slice_index, slice_set}
use Rattle.std.proofs.Common.{sym, ap, ◌∙◌, arith, get_or-set_same, get_or-set_other}
use Rattle.std.proofs.Math.Decide.{ℕ_discrete}
use Rattle.std.proofs.lemmas.List.{length-replicate}
use Rattle.theory.specs.Graph.{Table}
use Rattle.answering.specs.Links.{leaves, FirstLink}
use Rattle.answering.specs.Pairs.{zero-at}

-- There is a place for each recording below n, with the first triple of all.
pub record Unlisted (n : ℕ) (begins : List ℕ) : Type 0 where
  pub fits : n ≤ length begins
  pub none : (x : ℕ) → x < n → slice_index begins x ≡ 0

pub unlisted-zeros : (n m : ℕ) → n ≤ m → Unlisted n (replicate m 0)
unlisted-zeros n m h = record { fits = let e = length-replicate {A = ℕ} m 0 in omega arith; none = λ x l. zero-at m x }

-- The first triple of each recording below n is listed.
pub record LinkBegins (t : Table) (n : ℕ) (begins : List ℕ) : Type 0 where
  pub fits : n ≤ length begins
  pub first : (x : ℕ) → x < n → FirstLink t x (slice_index begins x)

-- Of the triples from the number i on.
pub record Begun (t : Table) (n i : ℕ) (begins : List ℕ) : Type 0 where
  pub within : (x : ℕ) → x < n → slice_index begins x ≤ length t / 3
  pub before : (x : ℕ) → x < n → (j : ℕ) → i ≤ j → j < slice_index begins x → ¬ (leaves t j ≡ x)
  pub there : (x : ℕ) → x < n → (j : ℕ) → i ≤ j → j < length t / 3 → leaves t j ≡ x → leaves t (slice_index begins x) ≡ x

module _ {t : Table} {n : ℕ} {begins : List ℕ} where
  pub begun-none : Unlisted n begins → Begun t n (length t / 3) begins
  begun-none u = record {
    within = λ x h. omega (arith, u.none x h);
    before = λ x h j l m. absurd (omega (arith, u.none x h));
    there = λ x h j l m. absurd (omega arith);
  }

  -- A triple that leaves a recording is its first so far.
  pub begun_more : {i y : ℕ} → i < length t / 3 → y < length begins → y ≡ leaves t i → Begun t n (i + 1) begins
      → Begun t n i (slice_set begins y i)
  begun_more {i} {y} l k e b = record {
    within = λ x h. within' x h (ℕ_discrete x y);
    before = λ x h. before' x h (ℕ_discrete x y);
    there = λ x h. there' x h (ℕ_discrete x y);
  }
    where
      own : (x : ℕ) → x ≡ y → slice_index (slice_set begins y i) x ≡ i
      own x q = ap (λ x. slice_index (slice_set begins y i) x) q ∙ get_or-set_same begins y i 0 k

      other : (x : ℕ) → ¬ (x ≡ y) → slice_index (slice_set begins y i) x ≡ slice_index begins x
      other x d = get_or-set_other begins y x i 0 d

      within' : (x : ℕ) → x < n → Dec (x ≡ y) → slice_index (slice_set begins y i) x ≤ length t / 3
      within' x h (yes q) = omega (arith, own x q)
      within' x h (no d) = omega (arith, other x d, b.within x h)

      -- The triple leaves no other recording.
      further : (x j : ℕ) → ¬ (x ≡ y) → i ≤ j → leaves t j ≡ x → i + 1 ≤ j
      further x j d m p = go (ℕ_discrete j i)
        where
          go : Dec (j ≡ i) → i + 1 ≤ j
          go (yes q) = absurd (d (sym p ∙ ap (leaves t) q ∙ sym e))
          go (no q) = omega arith

      before' : (x : ℕ) → x < n → Dec (x ≡ y) → (j : ℕ) → i ≤ j → j < slice_index (slice_set begins y i) x → ¬ (leaves t j ≡ x)
      before' x h (yes q) j m o p = omega (arith, own x q)
      before' x h (no d) j m o p = b.before x h j (further x j d m p) (omega (arith, other x d)) p

      there' : (x : ℕ) → x < n → Dec (x ≡ y) → (j : ℕ) → i ≤ j → j < length t / 3 → leaves t j ≡ x
          → leaves t (slice_index (slice_set begins y i) x) ≡ x
      there' x h (yes q) j m o p = ap (leaves t) (own x q) ∙ sym e ∙ sym q
      there' x h (no d) j m o p = ap (leaves t) (other x d) ∙ b.there x h j (further x j d m p) o p

  pub begun_all : n ≤ length begins → Begun t n 0 begins → LinkBegins t n begins
  begun_all h b = record {
    fits = h;
    first = λ x l. record {
      within = b.within x l;
      before = λ i. b.before x l i (omega arith);
      there = λ i. b.there x l i (omega arith);
    };
  }
