-- The rows that the tables need: one for the query, and one for each list.
use Rattle.std.specs.Prelude.{ℕ, suc, ◌+◌, ◌*◌, ◌≤◌, ◌<◌, List, ◌⊎◌, ◌≡◌, length}
use Rattle.std.proofs.Common.{inl, inr, sym, ap, arith}
use Rattle.syntax.specs.declared.refusal.Refusal.{Refusal}
use Rattle.syntax.specs.Byte.{Bytes}
use Rattle.std.specs.declared.result.Result.{Result}
use Rattle.reading.specs.declared.answer.Job.{Job}
use Rattle.reading.specs.declared.answer.Refused.{Refused}
use Rattle.std.specs.declared.result.Result.TheVariants.{Ok, Err}
use Rattle.reading.specs.Answering.{counts, refused_at}
use Rattle.reading.specs.Text.{most_lists}
use Rattle.reading.specs.Tables.{follow_width, enter_width}
use Rattle.reading.specs.ListStarts.{list_starts}

-- For how many lists a text asks rows at most: whatever its next line is, there is a row for the list that it may give.
abbrev pub asked_rows : Bytes → ℕ
asked_rows text = suc (list_starts text)

-- No fewer than a text's lists, or than any job may have.
abbrev pub AtMost : ℕ → Bytes → Type 0
AtMost r text = (list_starts text ≤ r) ⊎ (most_lists ≤ r)

-- The tables have rows for the query and n lists, of which 16 are possible.
pub record HasRows (n : ℕ) (follow enter : List ℕ) : Type 0 where
  pub in-follow : (x : ℕ) → x ≤ n → x ≤ most_lists → follow_width * x + follow_width ≤ length follow
  pub in-enter : (x : ℕ) → x ≤ n → x ≤ most_lists → enter_width * x + enter_width ≤ length enter

-- The rows of a job's lists are in the tables.
pub record Roomy (r : Result Job Refused) (follow enter : List ℕ) : Type 0 where
  pub rows : (labels lists : ℕ) → r ≡ Ok (counts labels lists)
      → (lists ≤ most_lists) × (follow_width * lists + follow_width ≤ length follow) × (enter_width * lists + enter_width ≤ length enter)

-- Tables of more rows have them, and so have tables of 17 rows.
pub enough-rows : (rows r : ℕ) (text : Bytes) {follow enter : List ℕ} → AtMost r text → r + 1 < rows → follow_width * rows ≤ length follow
    → enter_width * rows ≤ length enter → HasRows (asked_rows text) follow enter
enough-rows rows r text (inl b) h f e = record { in-follow = λ x l m. omega arith; in-enter = λ x l m. omega arith }
enough-rows rows r text (inr b) h f e = record { in-follow = λ x l m. omega arith; in-enter = λ x l m. omega arith }

pub all-rows : (n : ℕ) {follow enter : List ℕ} → 1088 ≤ length follow → 544 ≤ length enter → HasRows n follow enter
all-rows n f e = record { in-follow = λ x l m. omega arith; in-enter = λ x l m. omega arith }

-- Fewer rows of tables that are as long.
pub fewer-rows : {m n : ℕ} {follow enter follow' enter' : List ℕ} → n ≤ m → length follow' ≡ length follow → length enter' ≡ length enter
    → HasRows m follow enter → HasRows n follow' enter'
fewer-rows h e f r = record {
  in-follow = λ x l m. omega (arith, r.in-follow x (omega arith) m);
  in-enter = λ x l m. omega (arith, r.in-enter x (omega arith) m);
}

pub roomy-refused : (r : Refusal) (n : ℕ) (follow enter : List ℕ) → Roomy (Err (refused_at r n)) follow enter
roomy-refused r n follow enter = record { rows = λ labels lists e. absurd (let z : ◌≡◌ {A = ℕ} 0 1 = cc in omega arith) }

-- The number of lists that an answer tells.
abbrev lists_told : Result Job Refused → ℕ
lists_told (Ok j) = j.lists
lists_told (Err e) = 0

pub roomy-job : (labels lists n : ℕ) {follow enter : List ℕ} → lists ≤ n → lists ≤ most_lists → HasRows n follow enter
    → Roomy (Ok (counts labels lists)) follow enter
roomy-job labels lists n {follow} {enter} h few r = record { rows = λ a b e. rw (sym (ap lists_told e)) room }
  where
    room : (lists ≤ most_lists) × (follow_width * lists + follow_width ≤ length follow) × (enter_width * lists + enter_width ≤ length enter)
    room = (few, r.in-follow lists h few, r.in-enter lists h few)
