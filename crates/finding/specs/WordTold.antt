-- The first accepted word as it is told (document 01, "Find"): its list numbers with zeros up to 256, or that there is none.
use Rattle.std.specs.Prelude.{◌≡◌, ◌-◌, ◌++◌, length, take, replicate, Option, Some, None}
use Rattle.std.proofs.Math.Option.{Option as Maybe, some, none}
use Rattle.std.specs.Prelude.{refl}
use Rattle.std.proofs.Common.{ap, take_at}
use Rattle.theory.specs.Word.{Word}
use Rattle.finding.specs.declared.first.FirstWord.{FirstWord}

unfoldable pub first_word : Maybe Word → Option FirstWord
first_word none = None
first_word (some w) = Some (record { length = length w; word = w ++ replicate (256 - length w) 0 })

-- The word that a caller reads off.
abbrev pub word_of : Option FirstWord → Maybe Word
word_of None = none
word_of (Some f) = some (take f.length f.word)

pub word-told : (o : Maybe Word) → word_of (first_word o) ≡ o
unfolding first_word
word-told none = refl
word-told (some w) = ap some (take_at w _ (length w) refl)
