-- The first accepted word (States): the word of the first entry that accepts.
use Rattle.std.specs.Prelude.{◌≡◌, ℕ, zero, suc, ◌<◌, Bool, true, false, List, [], ◌∷◌, reverse, length, slice_index_or}
use Rattle.std.proofs.Math.Option.{Option, some, none, some-injective, none-ne-some}
use Rattle.std.specs.Prelude.{refl}
use Rattle.std.proofs.Common.{sym, arith}
use Rattle.theory.specs.Word.{Word}
use Rattle.theory.specs.Exploration.{Entry}
use Rattle.finding.specs.States.{state_accepts, first_accepted}

-- Where a word is told, it is that of an accepting entry, and no entry before that one accepts.
pub first_accepted-some : (accepting : ℕ) (l : List (Entry ℕ)) (d : Entry ℕ) (w : Word) → first_accepted accepting l ≡ some w
    → (s : ℕ) × (s < length l) × (state_accepts accepting (slice_index_or l s d).value ≡ true) × (reverse (slice_index_or l s d).trail ≡ w)
    × ((t : ℕ) → t < s → state_accepts accepting (slice_index_or l t d).value ≡ false)
unfolding first_accepted
first_accepted-some accepting [] d w e = absurd (none-ne-some w e)
first_accepted-some accepting (x ∷ l) d w e = side (state_accepts accepting x.value) refl e (first_accepted-some accepting l d w)
  where
    Accepting : List (Entry ℕ) → Type 0
    Accepting k =
        (s : ℕ) × (s < length k) × (state_accepts accepting (slice_index_or k s d).value ≡ true) × (reverse (slice_index_or k s d).trail ≡ w)
        × ((t : ℕ) → t < s → state_accepts accepting (slice_index_or k t d).value ≡ false)

    side : (b : Bool) → state_accepts accepting x.value ≡ b
        → elim b [ true ↦ some (reverse x.trail) | false ↦ first_accepted accepting l ] ≡ some w
        → (first_accepted accepting l ≡ some w → Accepting l) → Accepting (x ∷ l)
    side true t e later = (0, omega arith, t, some-injective _ w e, λ n h. absurd (omega arith))
    side false t e later =
        let (s, h, a, r, before) = later e in
        (suc s, omega arith, a, r, all before)
      where
        all : {s : ℕ} → ((n : ℕ) → n < s → state_accepts accepting (slice_index_or l n d).value ≡ false)
            → (n : ℕ) → n < suc s → state_accepts accepting (slice_index_or (x ∷ l) n d).value ≡ false
        all before zero h = t
        all before (suc n) h = before n (omega arith)

-- Where none is told, no entry accepts.
pub first_accepted-none : (accepting : ℕ) (l : List (Entry ℕ)) (d : Entry ℕ) → first_accepted accepting l ≡ none
    → (s : ℕ) → s < length l → state_accepts accepting (slice_index_or l s d).value ≡ false
unfolding first_accepted
first_accepted-none accepting [] d e s h = absurd (omega arith)
first_accepted-none accepting (x ∷ l) d e s h = side (state_accepts accepting x.value) refl e s h (first_accepted-none accepting l d)
  where
    side : (b : Bool) → state_accepts accepting x.value ≡ b
        → ◌≡◌ {A = Option Word} (elim b [ true ↦ some (reverse x.trail) | false ↦ first_accepted accepting l ]) none
        → (s : ℕ) → s < suc (length l)
        → (first_accepted accepting l ≡ none → (s : ℕ) → s < length l → state_accepts accepting (slice_index_or l s d).value ≡ false)
        → state_accepts accepting (slice_index_or (x ∷ l) s d).value ≡ false
    side true t e s h later = absurd (none-ne-some _ (sym e))
    side false t e zero h later = t
    side false t e (suc s) h later = later e s (omega arith)
