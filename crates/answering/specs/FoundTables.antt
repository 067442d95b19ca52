-- What Find tells, and what it leaves in lent memory, on the tables of a job: what marking by its rewriting asks for (FoundGiven).
use Rattle.std.specs.Prelude.{◌≡◌, ℕ, zero, suc, ◌+◌, ◌-◌, ◌*◌, ◌<◌, ◌≤◌, true, Result, List, [], ◌∷◌, ◌++◌, map, length, drop, replicate, slice_index, slice_index_or}
use Rattle.std.specs.Prelude.{refl}
use Rattle.std.proofs.Math.Path.{sym, ap, subst}
use Rattle.std.proofs.Common.{◌∙◌, arith, length-append}
use Rattle.std.proofs.lemmas.List.{length-map}
use Rattle.std.proofs.Math.ListN.{get_or-append}
use Rattle.theory.specs.Expression.{Expression, empty}
use Rattle.theory.specs.Job.{Job, WellFormed}
use Rattle.theory.specs.Graph.{Table}
use Rattle.theory.specs.Automaton.{Automaton, glushkov}
use Rattle.reading.specs.declared.answer.Refused.{Refused}
use Rattle.finding.specs.declared.answer.Found.{Found as Told}
use Rattle.finding.specs.Find.{Rewriting, found, find, find_automata}
use Rattle.finding.specs.FoundSizes.{job-sizes}
use Rattle.finding.specs.FindLaws.{find-finds, find-refusals}
use Rattle.finding.specs.Outcome.{left, left_by, found_answer}
use Rattle.finding.specs.Named.{written}
use Rattle.finding.specs.StoredAutomata.{Stored}
use Rattle.finding.specs.ListRows.{job_tables}
use Rattle.finding.specs.StatesPart.{Holding}
use Rattle.finding.specs.CoreTold.{CoreTold}
use Rattle.finding.specs.Rewritten.{rewritten}
use Rattle.finding.specs.RewrittenLaws.{finds-decides}
use Rattle.answering.specs.Table.{is_table}
use Rattle.answering.specs.Marked.{query, list}
use Rattle.answering.specs.LinksOperation.{JobGiven}
use Rattle.answering.specs.ListsCore.{ListsGiven}
use Rattle.answering.specs.ListsOperation.{FoundGiven}

-- What is written stands at its place.
written_at : (n i : ℕ) (xs lent : List ℕ) → i < length xs → slice_index (written n xs lent) i ≡ slice_index xs i
written_at n i xs lent h =
    get_or-append (xs ++ replicate (n - length xs) 0) (drop n lent) 0 i
    (omega (arith, length-append xs (replicate (n - length xs) 0)))
    ∙ get_or-append xs (replicate (n - length xs) 0) 0 i h

written-size : (n : ℕ) (xs lent : List ℕ) → length xs ≤ length (written n xs lent)
written-size n xs lent =
    omega (
      arith,
      length-append (xs ++ replicate (n - length xs) 0) (drop n lent),
      length-append xs (replicate (n - length xs) 0),
    )

get_or-mapped : (l : List Expression) (v : ℕ) (B : Automaton) → v < length l → slice_index_or (map glushkov l) v B ≡ glushkov (slice_index_or l v empty)
get_or-mapped [] v B h = absurd (omega arith)
get_or-mapped (e ∷ l) zero B h = refl
get_or-mapped (e ∷ l) (suc v) B h = get_or-mapped l v B (omega arith)

-- The job of the tables.
module _ (J : Job) (formed : WellFormed J) {follow enter sizes accepting : List ℕ} {labels lists : ℕ}
    (g : JobGiven J follow enter sizes accepting labels lists) where
  holding : Holding (job_tables [] 0 labels follow enter sizes accepting) (glushkov J.query) (map glushkov J.lists) lists
  holding =
      record {
        query = g.stored query;
        size = length-map J.lists glushkov ∙ g.lists-told;
        listed = λ v B l.
            let k : v < length J.lists = omega (arith, g.lists-told) in
            subst (Stored follow enter sizes accepting (suc v)) (sym (get_or-mapped J.lists v B k))
            (g.stored (list k));
      }

  module _ (few : lists ≤ 16) {next₀ flags₀ : List ℕ} {r : Result Told Refused} {next flags : List ℕ}
      (core : CoreTold follow enter sizes accepting labels lists 64 256 next₀ flags₀ r next flags) where
    leaves : left r next flags ≡ left_by (find J) next₀ flags₀
    unfolding find
    leaves =
        core.told (glushkov J.query) (map glushkov J.lists) holding
        ∙ ap (λ k. left_by (find_automata (glushkov J.query) k (map glushkov J.lists) 64 256) next₀ flags₀) (sym g.labels-told)

    module _ {table : Table} {N : ℕ} (proper : is_table N lists table ≡ true) where
      pub found-given : FoundGiven (find J) lists r next flags table N
      unfolding left_by
      found-given =
          record {
            answered = answers;
            refuses = λ r e. (ap (λ o. o.answer) (leaves ∙ ap (λ F. left_by F next₀ flags₀) e), find-refusals J r e);
          }
        where
          answers : (R : Rewriting) → find J ≡ found R
              → (r ≡ found_answer R) × ListsGiven (rewritten R) lists next flags R.states table N
          answers R e =
              let s = leaves ∙ ap (λ F. left_by F next₀ flags₀) e in
              let t : next ≡ written 4096 R.table next₀ = ap (λ o. o.table) s in
              let f : flags ≡ written 256 R.flags flags₀ = ap (λ o. o.flags) s in
              let k = g.lists-told in
              let z = job-sizes J R e in
              let table-size = z.table (omega arith) in
              let flags-size = z.flags in
              let d = finds-decides J R (find-finds J formed (omega arith) R e) in (
                ap (λ o. o.answer) s,
                record {
                  is-table = proper;
                  few-lists = few;
                  same-states = refl;
                  some = d.some-state;
                  most = z.few-states;
                  rows = subst (λ l. 16 * R.states ≤ length l) (sym t) (omega (arith, written-size 4096 R.table next₀));
                  same_next = λ q v h l.
                      sym (ap (λ l. slice_index l (16 * q + v)) t ∙ written_at 4096 (16 * q + v) R.table next₀ (omega arith));
                  next-below = λ q v h l. d.next q v h (omega arith);
                  same_flags = λ q h. sym (ap (λ l. slice_index l q) f ∙ written_at 256 q R.flags flags₀ (omega arith));
                },
              )
