-- Where the first byte b of a text stands, and whether a text begins with a word: how the cuts of reading look from the bytes.
use Rattle.std.specs.Prelude.{ℕ, suc, ◌<◌, ◌≤◌, Bool, true, false, Option, Some, None, [], ◌∷◌, ◌≢◌, ◌≡◌, ◌==◌, refl, eqb, length, take, drop, position}
use Rattle.std.specs.List.{position_or_len, starts_with}
use Rattle.std.proofs.Common.{true≢false, sym, ap, ◌∙◌, arith, eq-eqb, ne_eqb, lt-ltb, le-ltb}
use Rattle.std.proofs.lemmas.Bool.{false≢true}
use Rattle.std.proofs.Math.Option.{some, none}
use Rattle.std.proofs.Math.Decide.{ℕ_discrete, dec_lt}
use Rattle.syntax.specs.Byte.{Bytes}
use Rattle.reading.specs.Read.{cut, uncut, cut_at, after}
use Rattle.reading.specs.CutLaws.{cut-here, cut_later, onward, after_same, after-other}

-- Where the first byte b is.
abbrev pub first : ℕ → Bytes → Option ℕ
first b s = position (λ x. x == b) s

-- How many bytes there are before it; all where there is none.
abbrev before : ℕ → Bytes → ℕ
before b s = position_or_len (λ x. x == b) s

before_here : (b c : ℕ) (s : Bytes) → c ≡ b → before b (c ∷ s) ≡ 0
before_here b c s e = rw (eq-eqb c b e) refl

before-later : (b c : ℕ) (s : Bytes) → c ≢ b → before b (c ∷ s) ≡ suc (before b s)
before-later b c s n = rw (ne_eqb c b n) (omega arith)

-- What a cut at the first byte b comes to.
abbrev Cuts : ℕ → Bytes → Type 0
Cuts b s =
    (before b s < length s → cut_at b s ≡ cut (take (before b s) s) (drop (suc (before b s)) s))
    × (length s ≤ before b s → cut_at b s ≡ uncut)

cuts : (b : ℕ) (s : Bytes) → Cuts b s
unfolding cut_at
cuts b [] = (λ h. absurd (omega arith), λ h. refl)
cuts b (c ∷ s) = go (ℕ_discrete c b) (cuts b s)
  where
    go : Dec (c ≡ b) → Cuts b s → Cuts b (c ∷ s)
    go (yes e) h = rw (before_here b c s e) (λ l. cut-here b c s e, λ l. absurd (omega arith))
    go (no n) h =
        rw (before-later b c s n) (
          λ l. cut_later b c s n ∙ ap (onward c) (h.0 (omega arith)),
          λ l. cut_later b c s n ∙ ap (onward c) (h.1 (omega arith)),
        )

pub cut-first : (b : ℕ) (s : Bytes) (i : ℕ) → first b s ≡ Some i → (i < length s) × (cut_at b s ≡ cut (take i s) (drop (suc i) s))
cut-first b s i e = go (dec_lt (before b s) (length s))
  where
    go : Dec (before b s < length s) → (i < length s) × (cut_at b s ≡ cut (take i s) (drop (suc i) s))
    go (yes h) =
        let d : before b s ≡ i = (let f = rw (lt-ltb (before b s) (length s) h) at e in cc) in
        rw (sym d) (h, (cuts b s).0 h)
    go (no n) = absurd (let f = rw (le-ltb (before b s) (length s) (omega arith)) at e in cc)

pub uncut-none : (b : ℕ) (s : Bytes) → first b s ≡ None → cut_at b s ≡ uncut
uncut-none b s e = go (dec_lt (before b s) (length s))
  where
    go : Dec (before b s < length s) → cut_at b s ≡ uncut
    go (yes h) = absurd (let f = rw (lt-ltb (before b s) (length s) h) at e in cc)
    go (no n) = (cuts b s).1 (omega arith)

-- Whether a text begins with a word.
abbrev pub begins : Bytes → Bytes → Bool
begins w s = starts_with eqb s w

-- What comes after the word, by whether the text begins with it.
pub after-begins : (w s : Bytes) → begins w s ≡ true → after w s ≡ some (drop (length w) s)
unfolding after
after-begins [] s e = refl
after-begins (a ∷ w) [] e = absurd (false≢true e)
after-begins (a ∷ w) (b ∷ s) e = go (ℕ_discrete a b) (after-begins w s)
  where
    go : Dec (a ≡ b) → (begins w s ≡ true → after w s ≡ some (drop (length w) s)) → after (a ∷ w) (b ∷ s) ≡ some (drop (length w) s)
    go (yes h) more = after_same a b w s h ∙ more (rw (eq-eqb a b h) at e)
    go (no n) more = absurd (false≢true (rw (ne_eqb a b n) at e))

pub after-not : (w s : Bytes) → begins w s ≡ false → after w s ≡ none
unfolding after
after-not [] s e = absurd (true≢false e)
after-not (a ∷ w) [] e = refl
after-not (a ∷ w) (b ∷ s) e = go (ℕ_discrete a b) (after-not w s)
  where
    go : Dec (a ≡ b) → (begins w s ≡ false → after w s ≡ none) → after (a ∷ w) (b ∷ s) ≡ none
    go (yes h) more = after_same a b w s h ∙ more (rw (eq-eqb a b h) at e)
    go (no n) more = after-other a b w s n
