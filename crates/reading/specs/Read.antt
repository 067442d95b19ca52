-- Reading a job text, executable: line by line, to the job or to the first refusal with its line.
use Rattle.std.specs.Prelude.{ℕ, zero, suc, Bool, true, false, ◌&&◌, not, List, [], ◌∷◌, eqb, leb, ltb, length}
use Rattle.std.proofs.Math.Option.{Option, some, none}
use Rattle.syntax.specs.declared.refusal.Refusal.{Refusal}
use Rattle.syntax.specs.declared.refusal.Refusal.TheVariants.{TextTooLong, BadLine, BadName, TooManyNames}
use Rattle.syntax.specs.Byte.{Bytes}
use Rattle.syntax.specs.Name.{is_name, find}
use Rattle.syntax.specs.Check.{fine, faulty, check}
use Rattle.reading.specs.Text.{newline, space, label_word, query_word, list_word, most_text, most_labels, most_lists}
use Rattle.reading.specs.JobText.{NamedJob}
use Rattle.reading.specs.Refusing.{Progress, beginning, with_label, with_query, with_list}

-- A text cut in two at the first byte b, which is in neither part.
pub data Cut : Type 0 where
  cut : Bytes → Bytes → Cut
  uncut : Cut

unfoldable pub cut_at : ℕ → Bytes → Cut
cut_at b [] = uncut
cut_at b (c ∷ s) = elim (eqb c b) [ true ↦ cut [] s | false ↦ elim (cut_at b s) [ cut l r ↦ cut (c ∷ l) r | uncut ↦ uncut ] ]

-- What comes after an opening word.
unfoldable pub after : Bytes → Bytes → Option Bytes
after [] s = some s
after (a ∷ w) [] = none
after (a ∷ w) (b ∷ s) = elim (eqb a b) [ true ↦ after w s | false ↦ none ]

-- A proper name that is not in the table yet.
unfoldable pub fresh : Bytes → List Bytes → Bool
fresh n names = is_name n && not (ltb (find n 0 names) (length names))

-- What a line gives: more than before, or a refusal.
pub data Given : Type 0 where
  good : Progress → Given
  bad : Refusal → Given

unfoldable pub given_label : Progress → Bytes → Given
given_label P n =
    elim (ltb (length P.labels) most_labels) [
      | false ↦ bad TooManyNames
      | true ↦ elim (fresh n P.labels) [ false ↦ bad BadName | true ↦ good (with_label P n) ]
    ]

unfoldable pub given_query : Progress → Bytes → Given
given_query P text =
    elim (leb 1 (length P.labels)) [
      | false ↦ bad BadLine
      | true ↦ elim (check P.labels text) [ faulty r ↦ bad r | fine e ↦ good (with_query P e) ]
    ]

unfoldable pub given_list : Progress → Bytes → Given
given_list P s =
    elim (cut_at space s) [
      | uncut ↦ bad BadLine
      | cut n text ↦ elim (ltb (length P.list_names) most_lists) [
        | false ↦ bad TooManyNames
        | true ↦ elim (fresh n P.list_names) [
          | false ↦ bad BadName
          | true ↦ elim (check P.labels text) [ faulty r ↦ bad r | fine e ↦ good (with_list P n e) ]
        ]
      ]
    ]

-- A line before the query's, and one after it.
unfoldable pub early : Progress → Bytes → Given
early P s =
    elim (after label_word s) [
      | some n ↦ given_label P n
      | none ↦ elim (after query_word s) [ some text ↦ given_query P text | none ↦ bad BadLine ]
    ]

unfoldable pub late : Progress → Bytes → Given
late P s = elim (after list_word s) [ some rest ↦ given_list P rest | none ↦ bad BadLine ]

unfoldable pub given : Progress → Bytes → Given
given P s = elim P.query [ none ↦ early P s | some q ↦ late P s ]

pub data Reading : Type 0 where
  job : NamedJob → Reading
  refused : Refusal → ℕ → Reading

-- The text ends before the line n.
unfoldable pub ended : Progress → ℕ → Reading
ended P n =
    elim P.query [
      | none ↦ refused BadLine n
      | some q ↦ job (record { labels = P.labels; query = q; list_names = P.list_names; lists = P.lists })
    ]

-- The lines from the line n on; at most k of them.
unfoldable pub read_lines : ℕ → Progress → ℕ → Bytes → Reading
read_lines zero P n s = ended P n
read_lines (suc k) P n [] = ended P n
read_lines (suc k) P n (b ∷ s) =
    elim (cut_at newline (b ∷ s)) [
      | uncut ↦ refused BadLine n
      | cut l more ↦ elim (given P l) [ bad r ↦ refused r n | good Q ↦ read_lines k Q (suc n) more ]
    ]

unfoldable pub read : Bytes → Reading
read text =
    elim (leb (length text) most_text) [ false ↦ refused TextTooLong 0 | true ↦ read_lines (suc (length text)) beginning 1 text ]
