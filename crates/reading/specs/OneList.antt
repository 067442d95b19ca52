-- A good line gives no more lists than begin in it.
use Rattle.std.specs.Prelude.{ℕ, ◌+◌, ◌≤◌, Bool, ◌≡◌, leb, ltb, length}
use Rattle.std.proofs.Math.Bool.{true, false}
use Rattle.std.proofs.Math.Option.{Option, some, none}
use Rattle.std.proofs.Math.Path.{refl}
use Rattle.std.proofs.Common.{sym, subst}
use native.Mathlib.Omega.{arith}
use Rattle.std.proofs.Math.ListN.{length-append}
use Rattle.theory.specs.Expression.{Expression}
use Rattle.syntax.specs.declared.refusal.Refusal.{Refusal}
use Rattle.syntax.specs.declared.refusal.Refusal.TheVariants.{BadLine, BadName, TooManyNames}
use Rattle.syntax.specs.Byte.{Bytes}
use Rattle.syntax.specs.Check.{Checked, fine, faulty, check}
use Rattle.reading.specs.Text.{space, label_word, query_word, list_word, most_labels, most_lists}
use Rattle.reading.specs.Refusing.{Progress, with_list}
use Rattle.reading.specs.ListStarts.{list_starts, word-starts}
use Rattle.reading.specs.CutLaws.{after-exactly}
use Rattle.reading.specs.Read.{Cut, cut, uncut, cut_at, after, fresh, Given, good, bad, given_label, given_query, given_list, early, late, given}

-- How many lists there are with what a line gives; none where it is refused.
abbrev lists_of : Given → ℕ
lists_of (good Q) = length Q.list_names
lists_of (bad r) = 0

-- At most k lists more.
record More (P : Progress) (k : ℕ) (g : Given) : Type 0 where
  most : lists_of g ≤ k + length P.list_names

module _ {P : Progress} {k : ℕ} where
  refuses : {r : Refusal} → More P k (bad r)
  refuses = record { most = omega arith }

  either : (b : Bool) {x y : Given} → More P k x → More P k y → More P k (elim b [ false ↦ x | true ↦ y ])
  either false h i = h
  either true h i = i

  checked : (c : Checked) {f : Expression → Given} → ((e : Expression) → More P k (f e))
      → More P k (elim c [ fine e ↦ f e | faulty r ↦ bad r ])
  checked (fine e) h = h e
  checked (faulty r) h = refuses

  opened : (x : Option Bytes) {f : Bytes → Given} {g : Given} → ((s : Bytes) → More P k (f s)) → More P k g
      → More P k (elim x [ some s ↦ f s | none ↦ g ])
  opened (some s) h i = h s
  opened none h i = i

module _ (P : Progress) where
  one_label : (k : ℕ) (n : Bytes) → More P k (given_label P n)
  unfolding given_label
  one_label k n =
      either (ltb (length P.labels) most_labels) refuses (either (fresh n P.labels) refuses (record { most = omega arith }))

  one-query : (k : ℕ) (text : Bytes) → More P k (given_query P text)
  unfolding given_query
  one-query k text =
      either (leb 1 (length P.labels)) refuses (checked (check P.labels text) (λ e. record { most = omega arith }))

  one_list : (k : ℕ) → 1 ≤ k → (s : Bytes) → More P k (given_list P s)
  unfolding given_list
  one_list k h s = go (cut_at space s)
    where
      go : (x : Cut)
          → More P k
          (elim x [
            | uncut ↦ bad BadLine
            | cut n text ↦ elim (ltb (length P.list_names) most_lists) [
              | false ↦ bad TooManyNames
              | true ↦ elim (fresh n P.list_names) [
                | false ↦ bad BadName
                | true ↦ elim (check P.labels text) [ faulty r ↦ bad r | fine e ↦ good (with_list P n e) ]
              ]
            ]
          ])
      go uncut = refuses
      go (cut n text) =
          either (ltb (length P.list_names) most_lists) refuses
          (either (fresh n P.list_names) refuses
          (checked (check P.labels text) (λ e. record { most = simp length-append (omega arith) })))

  one-early : (s : Bytes) → More P (list_starts s) (early P s)
  unfolding early
  one-early s = opened (after label_word s) (one_label _) (opened (after query_word s) (one-query _) refuses)

  one-late : (s : Bytes) → More P (list_starts s) (late P s)
  unfolding late
  one-late s = go (after list_word s) refl
    where
      go : (x : Option Bytes) → after list_word s ≡ x → More P (list_starts s) (elim x [ some rest ↦ given_list P rest | none ↦ bad BadLine ])
      go (some rest) e =
          one_list (list_starts s) (subst (λ s. 1 ≤ list_starts s) (sym ((after-exactly list_word s rest).0 e)) (word-starts rest)) rest
      go none e = refuses

  one_more : (s : Bytes) → More P (list_starts s) (given P s)
  unfolding given
  one_more s = go P.query
    where
      go : (x : Option Expression) → More P (list_starts s) (elim x [ none ↦ early P s | some q ↦ late P s ])
      go none = one-early s
      go (some q) = one-late s

pub given-one : (P Q : Progress) (s : Bytes) → given P s ≡ good Q → length Q.list_names ≤ list_starts s + length P.list_names
given-one P Q s e = (rw e at (one_more P s)).most
