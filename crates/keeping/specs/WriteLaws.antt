-- Why the pieces that the writer puts one after another are the kept bytes.
use Rattle.std.specs.Prelude.{◌≡◌, ℕ, ◌-◌, ◌*◌, ◌≤◌, List, ◌++◌, length, take, replicate}
use Rattle.std.specs.Prelude.{refl}
use Rattle.std.proofs.Math.Path.{sym, ap}
use Rattle.std.proofs.Common.{subst₂, ◌∙◌, arith, length-take}
use Rattle.syntax.specs.declared.table.Span.{Span}
use Rattle.syntax.specs.Byte.{Bytes}
use Rattle.syntax.specs.Resolve.{names_at}
use Rattle.syntax.specs.TableLaws.{length-names_at}
use Rattle.reading.specs.ReadFacts.{ShortNames}
use Rattle.finding.specs.Find.{Rewriting}
use Rattle.keeping.specs.Kept.{kept_length, kept_states, kept}
use Rattle.keeping.specs.KeptLaws.{name_bytes-kept, kept-agree, kept-fits}
use Rattle.output.specs.Put.{Writing, writing, puts, puts_then, padded-at, padded-out}
use Rattle.keeping.specs.Write.{header, name_bytes, lent, Agree, Within, Keeps, Writes}

-- What is written for short names.
pieces : (N : List Bytes) (R : Rewriting) → ShortNames N
    → header (length N) R.states ++ (name_bytes N ++ kept_states R (length N) R.states 0) ≡ kept N R
unfolding kept
pieces N R short =
    ap (λ (b : Bytes). header (length N) R.states ++ (b ++ kept_states R (length N) R.states 0)) (name_bytes-kept N short)

-- Beyond the limits.
pub beyond : (text : Bytes) (spans : List Span) (states : ℕ) (table flags : List ℕ) (before : Bytes)
    → (Within spans states before → ⊥)
    → Writes text spans states table flags before 0 before
beyond text spans states table flags before no-limits =
    record { keeps = λ within short R e agree. absurd (no-limits within); nothing = λ h. (refl, refl) }

-- Within the limits, when the header, the names, the states and zeros have been put one after another.
module _ (text : Bytes) (spans : List Span) (states : ℕ) (table flags : List ℕ) (before : Bytes)
    (within : Within spans states before) where
  written : Bytes
  written = header (length spans) states ++ (name_bytes (names_at text spans) ++ kept_states (lent states table flags) (length spans) states 0)

  written-kept : ShortNames (names_at text spans) → (R : Rewriting) → R.states ≡ states
      → Agree R (lent states table flags) (length spans) states → written ≡ kept (names_at text spans) R
  unfolding written
  written-kept short R e agree =
      let N : List Bytes = names_at text spans in
      let S : Rewriting = lent states table flags in
      let count : length N ≡ length spans = length-names_at text spans in
      ap (λ (k : ℕ). header k states ++ (name_bytes N ++ kept_states S k states 0)) (sym count)
      ∙ pieces N S short
      ∙ sym (kept-agree N R S e (subst₂ (λ (k n : ℕ). Agree R S k n) (sym count) (sym e) agree))

  module _ {headed named ended last : Writing} (h : headed ≡ puts (writing before 0) (header (length spans) states))
      (n : named ≡ puts headed (name_bytes (names_at text spans)))
      (s : ended ≡ puts named (kept_states (lent states table flags) (length spans) states 0))
      (p : last ≡ puts ended (replicate (kept_length - ended.at) 0)) where
    keeps : ShortNames (names_at text spans) → (R : Rewriting) → R.states ≡ states
        → Agree R (lent states table flags) (length spans) states → Keeps (names_at text spans) R before ended.at last.out
    unfolding written
    keeps short R e agree =
        let N : List Bytes = names_at text spans in
        let S : Rewriting = lent states table flags in
        let rest : ended ≡ puts headed (name_bytes N ++ kept_states S (length spans) states 0) = puts_then headed (name_bytes N) _ n s in
        let w : Writing = writing before 0 in
        let all : ended ≡ puts w (kept N R) = puts_then w (header (length spans) states) _ h rest ∙ ap (puts w) (written-kept short R e agree) in
        let count : length N ≡ length spans = length-names_at text spans in
        let small : R.states ≤ 256 = omega (arith, within.small) in
        let fits : length (kept N R) ≤ kept_length = kept-fits N R (omega (arith, within.few)) short small in
        record {
          size = padded-at before (kept N R) kept_length fits within.room all p;
          fits = fits;
          bytes = padded-out before (kept N R) kept_length fits within.room all p;
        }

    pub writes : Writes text spans states table flags before ended.at last.out
    writes = record { keeps = λ w. keeps; nothing = λ none. absurd (none within) }
