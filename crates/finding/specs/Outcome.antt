-- What Find leaves: its answer and the two lent buffers. A named part that is written has zeros behind what is written, and nothing behind
-- the named part changes.
use Rattle.std.specs.Prelude.{ℕ, List, [], ◌∷◌, Option, None, Result, Ok, Err}
use Rattle.syntax.specs.declared.refusal.Refusal.{Refusal}
use Rattle.syntax.specs.Reply.{Reply}
use Rattle.reading.specs.declared.answer.Refused.{Refused}
use Rattle.reading.specs.Answering.{refused_at, reply}
use Rattle.finding.specs.declared.answer.Found.{Found as Told}
use Rattle.finding.specs.declared.first.FirstWord.{FirstWord}
use Rattle.finding.specs.Find.{Rewriting, Found, found, refused}
use Rattle.finding.specs.WordTold.{first_word}
use Rattle.finding.specs.Named.{table_part, flags_part, cleared, written}

-- What the code answers and what the lent buffers then hold.
pub record Leaving : Type 0 where
  pub answer : Result Told Refused
  pub table : List ℕ
  pub flags : List ℕ

abbrev pub left : Result Told Refused → List ℕ → List ℕ → Leaving
left answer table flags = record { answer = answer; table = table; flags = flags }

-- The reply that an answer is: the numbers of standings and of states.
abbrev pub find_reply : Result Told Refused → Reply
find_reply = reply (λ f. f.standings ∷ (f.states ∷ []))

-- The first accepted word that an answer tells; a refusal tells none.
abbrev pub first_told : Result Told Refused → Option FirstWord
first_told (Ok f) = f.first
first_told (Err e) = None

-- What a caller is told, with the first accepted word, and what the lent buffers hold.
pub record Outcome : Type 0 where
  pub reply : Reply
  pub first : Option FirstWord
  pub table : List ℕ
  pub flags : List ℕ

abbrev pub told : Leaving → Outcome
told o = record { reply = find_reply o.answer; first = first_told o.answer; table = o.table; flags = o.flags }

abbrev pub counted : ℕ → ℕ → Option FirstWord → Told
counted standings states first = record { standings = standings; states = states; first = first }

abbrev pub refused_with : Refusal → ℕ → Result Told Refused
refused_with r n = Err (refused_at r n)

abbrev pub found_answer : Rewriting → Result Told Refused
found_answer R = Ok (counted R.standings R.states (first_word R.first))

-- What is left of buffers that are long enough.
unfoldable pub left_by : Found → List ℕ → List ℕ → Leaving
left_by (found R) table flags = left (found_answer R) (written table_part R.table table) (written flags_part R.flags flags)
left_by (refused r) table flags = left (refused_with r 0) (cleared table_part table) (cleared flags_part flags)
