-- Laws of the table of names: what one more name at its end adds.
use Rattle.std.specs.Prelude.{ℕ, suc, ◌<◌, Bool, true, false, ◌&&◌, not, cond, Some, None, List, [], ◌∷◌, ◌++◌, ◌≡◌, refl, ltb, length, take, set}
use Rattle.std.specs.Option.{is_some}
use Rattle.std.proofs.Common.{sym, ap, ap₂, ◌∙◌, take-suc-set}
use Rattle.syntax.specs.declared.table.Span.{Span}
use Rattle.syntax.specs.Byte.{Bytes}
use Rattle.syntax.specs.Name.{is_name, find, place_of}
use Rattle.syntax.specs.Resolve.{names_at}
use Rattle.reading.specs.Read.{fresh}
use Rattle.reading.specs.PartLaws.{part}

names-append : (text : Bytes) (l : List Span) (span : Span)
    → names_at text (l ++ (span ∷ [])) ≡ names_at text l ++ (part text span ∷ [])
unfolding names_at
names-append text [] span = refl
names-append text (s ∷ l) span = ap (λ t. part text s ∷ t) (names-append text l span)

-- A name stored behind the first k.
pub names-stored : (text : Bytes) (l : List Span) (k : ℕ) (span : Span) → k < length l
    → names_at text (take (suc k) (set l k span)) ≡ names_at text (take k l) ++ (part text span ∷ [])
names-stored text l k span h = ap (names_at text) (take-suc-set l k span h) ∙ names-append text (take k l) span

-- Whether a name is fresh: it is proper, and the table has no place of it.
pub fresh-told : (n : Bytes) (names : List Bytes) → (is_name n && not (is_some (place_of n names))) ≡ fresh n names
unfolding fresh
fresh-told n names = go (ltb (find n 0 names) (length names))
  where
    go : (b : Bool) → (is_name n && not (is_some (cond b (Some (find n 0 names)) None))) ≡ (is_name n && not b)
    go true = refl
    go false = refl

-- What a search among some names told.
pub told : (text : Bytes) {name n : Bytes} {spans l : List Span} {r t : Bool} → name ≡ n → spans ≡ l → r ≡ fresh name (names_at text spans)
    → r ≡ t → fresh n (names_at text l) ≡ t
told text e f g h = sym (ap₂ (λ m (k : List Span). fresh m (names_at text k)) e f) ∙ sym g ∙ h
