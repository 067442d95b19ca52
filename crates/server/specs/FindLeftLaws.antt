-- What Find answers fits into its number, and the code's steps leave what FindLeft says.
use Rattle.std.specs.Prelude.{ℕ, suc, ◌+◌, ◌≤◌, ◌<◌, Bool, ◌||◌, List, ◌++◌, ◌≡◌, eqb, length, get_or, Option, Some, None, Result, Ok, Err, IfSome}
use Rattle.std.proofs.Math.Bool.{true, false}
use Rattle.std.proofs.Math.Path.{sym, ap, ap₂}
use Rattle.std.proofs.Common.{◌∙◌, subst, ne_eqb, lt-ltb, le-ltb}
use native.Mathlib.Omega.{arith}
use Rattle.std.proofs.Math.ListN.{drop}
use Rattle.syntax.specs.Byte.{Bytes}
use Rattle.syntax.specs.Number.{number}
use Rattle.syntax.specs.Reply.{Reply, refusing}
use Rattle.syntax.specs.declared.refusal.Refusal.{Refusal}
use Rattle.syntax.specs.declared.refusal.Refusal.TheVariants.{BufferTooShort}
use Rattle.reading.specs.Text.{most_text}
use Rattle.reading.specs.declared.answer.Refused.{Refused}
use Rattle.finding.specs.declared.answer.Found.{Found}
use Rattle.finding.specs.declared.first.FirstWord.{FirstWord}
use Rattle.finding.specs.Find.{most_standings, most_states}
use Rattle.finding.specs.Outcome.{left as answered, told, find_reply, first_told}
use Rattle.finding.specs.Operation.{outcome}
use Rattle.finding.specs.FindSmall.{Small, find-small}
use Rattle.server.specs.NumberSome.{number-some}
use Rattle.server.specs.Packed.{packed, word_number, find_number}
use Rattle.server.specs.FindLeft.{writes, letters, word_left, Left, left, left_by, find_left}

-- A word that is shorter than there may be states.
abbrev pub ShortWord : Option FirstWord → Type 0
ShortWord w = IfSome w (λ f. f.length < most_states)

-- An answer that is small, as what Find tells is (FindSmall).
pub record SmallAnswer (a : Result Found Refused) : Type 0 where
  pub line : (find_reply a).line ≤ suc most_text
  pub standings : get_or (find_reply a).values 0 0 ≤ most_standings
  pub states : get_or (find_reply a).values 1 0 ≤ most_states
  pub short : ShortWord (first_told a)

pub word-few : (w : Option FirstWord) → ShortWord w → word_number w ≤ most_states
word-few None h = omega arith
word-few (Some w) h = omega (arith, h)

-- The lent word.
module _ (r : Reply) (w : Option FirstWord) (word : List ℕ) where
  chosen : Bool → List ℕ
  chosen b = elim b [ true ↦ letters w ++ drop 256 word | false ↦ word ]

  pub word-written : {b : Bool} → b ≡ writes r.number → b ≡ true → letters w ++ drop 256 word ≡ word_left r w word
  unfolding chosen
  word-written e f = ap chosen (sym f ∙ e)

  pub word_same : {b : Bool} → b ≡ writes r.number → b ≡ false → word ≡ word_left r w word
  unfolding chosen
  word_same e f = ap chosen (sym f ∙ e)

module _ (text : Bytes) (table flags word : List ℕ) where
  by-room : Bool → Left
  by-room b =
      elim b [ true ↦ left (packed (refusing BufferTooShort 0) 0) table flags word | false ↦ left_by (outcome text table flags) word ]

  pub no_room : (n : ℕ) → length word < 256 → n ≡ packed (refusing BufferTooShort 0) 0
      → left n table flags word ≡ find_left text table flags word
  unfolding find_left by-room
  no_room n h e = ap (λ m. left m table flags word) e ∙ sym (ap by-room (lt-ltb (length word) 256 h))

  module _ (a : Result Found Refused) (table' flags' : List ℕ) (finds : told (answered a table' flags') ≡ outcome text table flags) where
    pub small : SmallAnswer a
    small =
        let s : Small (told (answered a table' flags')) = subst Small (sym finds) (find-small text table flags) in
        record { line = s.line; standings = s.standings; states = s.states; short = s.short }

    pub all_told : 256 ≤ length word → (n : ℕ) (word' : List ℕ) → n ≡ find_number (find_reply a) (first_told a)
        → word' ≡ word_left (find_reply a) (first_told a) word → left n table' flags' word' ≡ find_left text table flags word
    unfolding find_left by-room
    all_told room n word' p q =
        ap₂ (λ m w. left m table' flags' w) p q
        ∙ (ap (λ o. left_by o word) finds ∙ sym (ap by-room (le-ltb (length word) 256 room)))
