-- Laws of bytes: which comparisons tell a letter and a byte of a name.
use Rattle.std.specs.Prelude.{ℕ, Bool, true, false, ◌||◌, ◌≡◌, refl, eqb, leb}
use Rattle.syntax.specs.Byte.{dot, bar, asterisk, question, opening, closing, kind, letter, digit, hyphen, rest, name_byte, between}

-- The kind, by the outcomes of the tests.
abbrev kind_by : (l d h p q r s t u : Bool) → ℕ
kind_by l d h p q r s t u =
    elim l [
      | true ↦ letter
      | false ↦ elim d [
        | true ↦ digit
        | false ↦ elim h [
          | true ↦ hyphen
          | false ↦ elim p [
            | true ↦ 3
            | false ↦ elim q [
              | true ↦ 4
              | false ↦ elim r [
                | true ↦ 5
                | false ↦ elim s [ true ↦ 6 | false ↦ elim t [ true ↦ 7 | false ↦ elim u [ true ↦ 8 | false ↦ rest ] ] ]
              ]
            ]
          ]
        ]
      ]
    ]

-- The first test tells a letter, the first three a byte of a name.
told : (l d h p q r s t u : Bool)
    → (eqb (kind_by l d h p q r s t u) letter ≡ l) × (leb (kind_by l d h p q r s t u) hyphen ≡ ((l || d) || h))
told true d h p q r s t u = (refl, refl)
told false true h p q r s t u = (refl, refl)
told false false true p q r s t u = (refl, refl)
told false false false true q r s t u = (refl, refl)
told false false false false true r s t u = (refl, refl)
told false false false false false true s t u = (refl, refl)
told false false false false false false true t u = (refl, refl)
told false false false false false false false true u = (refl, refl)
told false false false false false false false false true = (refl, refl)
told false false false false false false false false false = (refl, refl)

module _ (b : ℕ) where
  both : (eqb (kind b) letter ≡ between 97 122 b) × (name_byte b ≡ ((between 97 122 b || between 48 57 b) || eqb b 45))
  unfolding kind
  both =
      told (between 97 122 b) (between 48 57 b) (eqb b 45) (eqb b dot) (eqb b bar) (eqb b asterisk) (eqb b question) (eqb b opening) (eqb b closing)

  pub letter-told : eqb (kind b) letter ≡ between 97 122 b
  letter-told = both.0

  pub name-byte-told : name_byte b ≡ ((between 97 122 b || between 48 57 b) || eqb b 45)
  name-byte-told = both.1
