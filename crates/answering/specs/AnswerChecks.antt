-- The checks that both answers make (document 01), each where it is met: 14 and 8 on what is lent, 15 and 16 on the table and the start.
use Rattle.std.specs.Prelude.{◌≡◌, ℕ, ◌<◌, ◌≤◌, Bool, true, false, ◌&&◌, List, length, nat_le, nat_lt}
use Rattle.std.proofs.Math.Path.{sym, ap₂}
use Rattle.std.proofs.Common.{ap, ◌∙◌, arith, lt-ltb, le-ltb, le-leb}
use Rattle.std.proofs.lemmas.Bool.{lt-leb}
use Rattle.theory.specs.Graph.{Table}
use Rattle.syntax.specs.declared.refusal.Refusal.TheVariants.{BadRecordings, BufferTooShort, BadTable, BadStart}
use Rattle.syntax.specs.Reply.{refusing}
use Rattle.answering.specs.Table.{is_table}
use Rattle.answering.specs.AnswerJob.{Marking, refused, checked}
use Rattle.answering.specs.LinksOperation.{Outcome, outcome, lent_checked}

module _ (N k : ℕ) (t : Table) (x : ℕ) (more : Marking) where
  abbrev after : Bool → Bool → Marking
  after proper begins = elim proper [ false ↦ refused BadTable | true ↦ elim begins [ false ↦ refused BadStart | true ↦ more ] ]

  pub bad-table : is_table N k t ≡ false → checked N k t x more ≡ refused BadTable
  bad-table e = ap (λ a. after a (nat_lt x N)) e

  pub bad-start : is_table N k t ≡ true → N ≤ x → checked N k t x more ≡ refused BadStart
  bad-start e l = ap₂ after e (le-ltb x N l)

  pub both-proper : is_table N k t ≡ true → x < N → checked N k t x more ≡ more
  both-proper e l = ap₂ after e (lt-ltb x N l)

module _ (N words : ℕ) (before workspace : List ℕ) (more : Outcome) where
  abbrev lent : Bool → Bool → Bool → Bool → Outcome
  lent a b d e =
      elim (a && b) [
        | false ↦ outcome (refusing BadRecordings 0) before workspace
        | true ↦ elim (d && e) [ false ↦ outcome (refusing BufferTooShort 0) before workspace | true ↦ more ]
      ]

  pub none-refused : N ≡ 0 → outcome (refusing BadRecordings 0) before workspace ≡ lent_checked N words before workspace more
  unfolding lent_checked
  none-refused h =
      sym (ap (λ a. lent a (nat_le N 4096) (nat_le N (length before)) (nat_le words (length workspace))) (lt-leb 1 N (omega arith)))

  pub many-refused : 1 ≤ N → 4096 < N → outcome (refusing BadRecordings 0) before workspace ≡ lent_checked N words before workspace more
  unfolding lent_checked
  many-refused h l =
      sym (ap₂ (λ a b. lent a b (nat_le N (length before)) (nat_le words (length workspace))) (le-leb 1 N h) (lt-leb N 4096 l))

  module _ (some : 1 ≤ N) (few : N ≤ 4096) where
    in-range : lent_checked N words before workspace more ≡ lent true true (nat_le N (length before)) (nat_le words (length workspace))
    unfolding lent_checked
    in-range = ap₂ (λ a b. lent a b (nat_le N (length before)) (nat_le words (length workspace))) (le-leb 1 N some) (le-leb N 4096 few)

    pub marks-short : length before < N
        → outcome (refusing BufferTooShort 0) before workspace ≡ lent_checked N words before workspace more
    marks-short h = sym (in-range ∙ ap (λ d. lent true true d (nat_le words (length workspace))) (lt-leb N (length before) h))

    pub workspace-short : N ≤ length before → length workspace < words
        → outcome (refusing BufferTooShort 0) before workspace ≡ lent_checked N words before workspace more
    workspace-short h l = sym (in-range ∙ ap₂ (lent true true) (le-leb N (length before) h) (lt-leb words (length workspace) l))

    pub all-lent : N ≤ length before → words ≤ length workspace → {o : Outcome} → o ≡ more → o ≡ lent_checked N words before workspace more
    all-lent h l q = q ∙ sym (in-range ∙ ap₂ (lent true true) (le-leb N (length before) h) (le-leb words (length workspace) l))
