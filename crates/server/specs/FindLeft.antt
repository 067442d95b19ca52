-- What Find leaves at the boundary: its number, the table, the flags, and the first word in a lent word. The lent word's named part is 256
-- bytes; a shorter one is refused with 8, as a short table and short flags are.
use Rattle.std.specs.Prelude.{ℕ, Bool, true, false, ◌||◌, List, ◌++◌, eqb, ltb, length, drop, replicate, Option, Some, None}
use Rattle.syntax.specs.Byte.{Bytes}
use Rattle.syntax.specs.Reply.{Reply, refusing}
use Rattle.syntax.specs.declared.refusal.Refusal.TheVariants.{BufferTooShort}
use Rattle.finding.specs.declared.first.FirstWord.{FirstWord}
use Rattle.finding.specs.Outcome.{Outcome}
use Rattle.finding.specs.Operation.{outcome}
use Rattle.server.specs.Packed.{packed, find_number}

abbrev pub word_part : ℕ
word_part = 256

-- The named part is written where nothing is refused, and with refusals 9 and 10.
abbrev pub writes : ℕ → Bool
writes number = eqb number 0 || (eqb number 9 || eqb number 10)

-- The first word's list numbers and zeros behind them; zeros alone where there is no first word, which is so with every refusal.
abbrev pub letters : Option FirstWord → List ℕ
letters None = replicate word_part 0
letters (Some w) = w.word

abbrev pub word_left : Reply → Option FirstWord → List ℕ → List ℕ
word_left r w word = elim (writes r.number) [ true ↦ letters w ++ drop word_part word | false ↦ word ]

pub record Left : Type 0 where
  pub number : ℕ
  pub table : List ℕ
  pub flags : List ℕ
  pub word : List ℕ

abbrev pub left : ℕ → (table flags word : List ℕ) → Left
left number table flags word = record { number = number; table = table; flags = flags; word = word }

abbrev pub left_by : Outcome → List ℕ → Left
left_by o word = left (find_number o.reply o.first) o.table o.flags (word_left o.reply o.first word)

unfoldable pub find_left : Bytes → (table flags word : List ℕ) → Left
find_left text table flags word =
    elim (ltb (length word) word_part) [
      | true ↦ left (packed (refusing BufferTooShort 0) 0) table flags word
      | false ↦ left_by (outcome text table flags) word
    ]
