-- Bytes of a job text and their kinds (document 01: "every byte of an expression is of one of ten kinds").
use Rattle.std.specs.Prelude.{ℕ, ◌≤◌, Bool, true, false, ◌&&◌, List, eqb, leb}

-- A text, as it is lent: a list of bytes.
abbrev pub Bytes : Type 0
Bytes = List ℕ

-- The marks, as bytes.
abbrev pub dot : ℕ
dot = 46

abbrev pub bar : ℕ
bar = 124

abbrev pub asterisk : ℕ
asterisk = 42

abbrev pub question : ℕ
question = 63

abbrev pub opening : ℕ
opening = 40

abbrev pub closing : ℕ
closing = 41

-- The ten kinds: letter, digit, hyphen, the six marks, and the rest. The first three are the bytes of names.
abbrev pub letter : ℕ
letter = 0

abbrev pub digit : ℕ
digit = 1

abbrev pub hyphen : ℕ
hyphen = 2

abbrev pub rest : ℕ
rest = 9

abbrev pub between : ℕ → ℕ → ℕ → Bool
between low high b = leb low b && leb b high

-- The kind of a byte. The marks' kinds are 3 to 8: `.` `|` `*` `?` `(` `)`.
unfoldable pub kind : ℕ → ℕ
kind b =
    elim (between 97 122 b) [
      | true ↦ letter
      | false ↦ elim (between 48 57 b) [
        | true ↦ digit
        | false ↦ elim (eqb b 45) [
          | true ↦ hyphen
          | false ↦ elim (eqb b dot) [
            | true ↦ 3
            | false ↦ elim (eqb b bar) [
              | true ↦ 4
              | false ↦ elim (eqb b asterisk) [
                | true ↦ 5
                | false ↦ elim (eqb b question) [
                  | true ↦ 6
                  | false ↦ elim (eqb b opening) [ true ↦ 7 | false ↦ elim (eqb b closing) [ true ↦ 8 | false ↦ rest ] ]
                ]
              ]
            ]
          ]
        ]
      ]
    ]

-- A byte that a name may have.
abbrev pub NameByte : ℕ → Type 0
NameByte b = kind b ≤ hyphen

abbrev pub name_byte : ℕ → Bool
name_byte b = leb (kind b) hyphen
