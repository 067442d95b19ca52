-- Why what is put for a text is what is printed for it.
use Rattle.std.specs.Prelude.{ℕ, ◌*◌, ◌≤◌, ◌≡◌, refl, length, take, drop, Result, Ok, Err}
use Rattle.std.proofs.Common.{sym, ◌∙◌, arith, length-append}
use Rattle.std.proofs.Math.Path.{ap, ap₂}
use Rattle.syntax.specs.declared.refusal.Refusal.{Refusal}
use Rattle.syntax.specs.Byte.{Bytes}
use Rattle.syntax.specs.Resolve.{names_at}
use Rattle.reading.specs.declared.answer.Job.{Job}
use Rattle.reading.specs.declared.answer.Refused.{Refused}
use Rattle.reading.specs.Read.{Reading, job, refused, read}
use Rattle.reading.specs.Answering.{counts, refused_at, answer_of}
use Rattle.reading.specs.Tables.{Tables, lists_from}
use Rattle.reading.specs.Loading.{Loaded}
use Rattle.output.specs.Put.{Writing, writing, puts, puts-front}
use Rattle.printing.specs.Lines.{refusal_line}
use Rattle.printing.specs.Printed.{printed_reading, printed_at}
use Rattle.printing.specs.PrintedFits.{printed_room, printed-fits}
use Rattle.printing.specs.Printing.{JobPut, PrintsAt}

clash : {A : Type 0} → ◌≡◌ {A = ℕ} 0 1 → A
clash z = absurd (omega arith)

module _ (text : Bytes) (a : Result Job Refused) (T : Tables) (loaded : Loaded text a T) (allowance : ℕ) (w : Writing) {v : Writing} where
  pub text-refused : (r : Refused) → a ≡ Err r → v ≡ puts w (refusal_line r.refusal r.line) → v ≡ puts w (printed_at allowance text)
  unfolding printed_at printed_reading
  text-refused r e wrote = wrote ∙ ap (puts w) (there (read text) (sym loaded.answer ∙ e))
    where
      there : (x : Reading) → answer_of x ≡ Err r → refusal_line r.refusal r.line ≡ printed_reading allowance x
      there (job J) p = clash (cc)
      there (refused s k) p =
          let i : r ≡ refused_at s k = cc in
          ap (λ (e : Refused). refusal_line e.refusal e.line) i

  pub text-put : (j : Job) → a ≡ Ok j → JobPut text T.names j.labels j.lists allowance w v
      → v ≡ puts w (printed_at allowance text)
  text-put j e wrote = there (read text) refl
    where
      there : (x : Reading) → read text ≡ x → v ≡ puts w (printed_at allowance text)
      there (refused s m) p =
          let q : Err (refused_at s m) ≡ Ok j = sym (loaded.answer ∙ ap answer_of p) ∙ e in
          clash (cc)
      there (job J) p =
          let q : Ok (counts (length J.labels) (length J.list_names)) ≡ Ok j = sym (loaded.answer ∙ ap answer_of p) ∙ e in
          let k : counts (length J.labels) (length J.list_names) ≡ j = cc in
          let m : j.labels ≡ length J.labels = sym (ap (λ (x : Job). x.labels) k) in
          let n : j.lists ≡ length J.list_names = sym (ap (λ (x : Job). x.lists) k) in
          let h = loaded.holds J p in
          wrote.told J p (ap (λ k. names_at text (take k T.names)) m ∙ h.labels)
          (ap (λ k. names_at text (take k (drop lists_from T.names))) n ∙ h.lists)

-- There is room for all of it.
pub prints : (allowance : ℕ) (text before : Bytes) (r : ℕ) (after : Bytes) → printed_room allowance ≤ length before
    → writing after r ≡ puts (writing before 0) (printed_at allowance text) → PrintsAt allowance text before r after
prints allowance text before r after room wrote =
    let all : Bytes = printed_at allowance text in
    let fits : length all ≤ length before = omega (arith, printed-fits allowance text) in
    let put = wrote ∙ puts-front before all fits in
    record { size = ap (λ (u : Writing). u.at) put; bytes = ap (λ (u : Writing). u.out) put }

-- What is told lies within the output.
pub prints-within : {allowance : ℕ} {text before after : Bytes} {r : ℕ} → PrintsAt allowance text before r after → r ≤ length after
prints-within {allowance} {text} {before} p =
    let all : Bytes = printed_at allowance text in
    omega (arith, p.size, ap length p.bytes, length-append all (drop (length all) before))
