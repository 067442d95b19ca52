-- The steps of marking by the states of a rewriting (ListsCore): the numbers run the rewriting's machine, and what the ranks, the search and
-- the marks promise together.
use Rattle.std.specs.Prelude.{◌≡◌, ℕ, ◌+◌, ◌-◌, ◌*◌, ◌/◌, ◌^◌, ◌<◌, ◌≤◌, Bool, ◌↔◌, List, ◌++◌, drop, replicate, nat_eq, slice_index}
use Rattle.std.proofs.Common.{sym, ap, ap₂, ◌∙◌, subst, mul-le-mul_right, arith, eqb-true, eq-eqb, take-append-drop, drop-drop}
use Rattle.theory.specs.Graph.{Table}
use Rattle.theory.specs.Places.{Member}
use Rattle.theory.specs.PlacesLaws.{member-collect}
use Rattle.finding.specs.Cleared.{Cleared}
use Rattle.finding.specs.Rewritten.{Rewritten}
use Rattle.answering.specs.Answer.{list_machine}
use Rattle.answering.specs.LentMachine.{Runs}
use Rattle.answering.specs.SetSearch.{SetSearchable}
use Rattle.answering.specs.SetMarks.{marks-accepted}
use Rattle.answering.specs.Ranks.{Ranks, AcceptedRanks}
use Rattle.answering.specs.StateSets.{StateSets}
use Rattle.answering.specs.StateSearch.{StatesSearched, found-marked}
use Rattle.answering.specs.Marks.{MarksSet}
use Rattle.answering.specs.ListsCore.{ListsLent, ListsGiven, ListsMarked}

-- What is equal from one place on is equal from a later one on.
beyond-more : (m n : ℕ) (l k : List ℕ) → m ≤ n → drop m l ≡ drop m k → drop n l ≡ drop n k
beyond-more m n l k h e =
    let d : m + (n - m) ≡ n = omega arith in
    ap (λ i. drop i l) (sym d) ∙ sym (drop-drop (n - m) m l) ∙ ap (drop (n - m)) e ∙ drop-drop (n - m) m k ∙ ap (λ i. drop i k) d

module _ {R : Rewritten} {lists : ℕ} {next flags : List ℕ} {states : ℕ} {table : Table} {N : ℕ}
    (g : ListsGiven R lists next flags states table N) where
  lists-run : Runs (list_machine R) next 16 states lists table N
  lists-run =
      record {
        is-table = g.is-table;
        same-states = g.same-states;
        same_next = g.same_next;
        next-below = λ q v h k. subst (λ n. n < states) (g.same_next q v h k) (g.next-below q v h k);
      }

  lists-flagged : (s : ℕ) → s < states → (slice_index flags s ≡ 1) ↔ Member s (list_machine R).accepting
  lists-flagged s h =
      let t = g.same-states in
      let f = g.same_flags s h in
      let State : ℕ → Bool = λ q. nat_eq (slice_index R.flags q) 1 in (
        λ e. (member-collect State R.states s).1 (omega arith, eq-eqb _ 1 (f ∙ e)),
        λ m. sym f ∙ eqb-true _ 1 ((member-collect State R.states s).0 m).1,
      )

  -- As many words as the ranks need.
  lists-searchable : {start : ℕ} {before workspace ranks kept sets : List ℕ} {count w : ℕ} {Step : ℕ → ℕ → ℕ → Type 0}
      → ListsLent N start before workspace → Ranks next lists states flags ranks kept count → w ≡ (count + 63) / 64
      → StateSets lists w count Step sets → SetSearchable sets lists w count N start workspace
  lists-searchable {w = w} l k e t =
      let m = g.most in
      let c = k.few in
      let few : w ≤ 4 = omega arith in
      let n : w * N ≤ 4 * N = mul-le-mul_right N few in
      let a = l.room in
      let f = g.few-lists in
      record {
        some = k.some;
        width = omega arith;
        few_words = few;
        few-symbols = omega arith;
        few = l.few;
        begins = l.begins;
        room = omega arith;
        rows = t.rows;
      }

  pub lists-marked : {start : ℕ} {before workspace reached after workspace' ranks kept accepts : List ℕ} {count w r : ℕ}
      → ListsLent N start before workspace → Ranks next lists states flags ranks kept count → AcceptedRanks flags kept count accepts
      → w ≡ (count + 63) / 64 → StatesSearched next lists states w ranks kept count table N start workspace reached
      → ((i : ℕ) → slice_index reached i < 2 ^ 64) → MarksSet w reached accepts N before after r → Cleared (4 * N) reached workspace'
      → ListsMarked R N table start before workspace after workspace' r
  lists-marked {start} {before} {workspace} {reached} {after} {workspace'} {ranks} {kept} {accepts} {count} {w} {r} l k a e s bits m d =
      let fit = lists-searchable l k e s.steps in
      let found = s.searched in
      let size = found.same_length in
      let room = l.room in
      let within = fit.room in
      let wide : 0 < w = let a = k.some in let b = fit.width in omega arith in
      let (t, b, n) =
      marks-accepted (list_machine R) N table start w reached accepts bits
      (found-marked lists-run k fit.width s.steps fit found a lists-flagged)
      (record { some = wide; few_words = fit.few_words; room = omega arith; marks-fit = l.marks-fit }) m in
      record {
        told = n;
        marked = sym (take-append-drop N after) ∙ ap₂ (λ a b. a ++ b) t b;
        cleared = d.enough (omega arith) ∙ ap (λ t. replicate (4 * N) 0 ++ t)
            (beyond-more (w * N) (4 * N) reached workspace (mul-le-mul_right N fit.few_words) (found.beyond fit));
      }
