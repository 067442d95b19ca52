-- What the rows that reading left of a job hold: the automata of the query, at number 0, and of the lists behind it, in the room of a row each.
use Rattle.std.specs.Prelude.{◌≡◌, ℕ, zero, suc, ◌+◌, ◌^◌, ◌<◌, ◌≤◌, List, [], ◌∷◌, length, slice_index, slice_index_or}
use Rattle.std.specs.Prelude.{refl}
use Rattle.std.proofs.Math.Path.{sym, ap, subst}
use Rattle.std.proofs.Common.{◌∙◌, arith}
use Rattle.theory.specs.Path.{Label}
use Rattle.theory.specs.Automaton.{Automaton}
use Rattle.finding.specs.StoredAutomata.{stored_at, Stored}
use Rattle.finding.specs.RowsFit.{RowsFit}
use Rattle.finding.specs.StatesPart.{Room}
use Rattle.finding.specs.CoreTold.{Lent, HoldsJob}

-- The automaton at number x is in the room of a row; its labels enter only its own places.
pub record Kept (follow enter sizes accepting : List ℕ) (x : ℕ) : Type 0 where
  pub fits : slice_index sizes x ≤ 63
  pub start : 0 < length (stored_at follow enter sizes accepting x).follow
  pub within : (a : Label) → (stored_at follow enter sizes accepting x).enter a < 2 ^ length (stored_at follow enter sizes accepting x).follow

-- Reading refuses more labels and lists; the tables have a row for the query and for each list, and each row holds an automaton.
pub record RowsHeld (labels lists : ℕ) (follow enter sizes accepting : List ℕ) : Type 0 where
  pub few-labels : labels ≤ 32
  pub few-lists : lists ≤ 16
  pub fit : RowsFit lists follow enter
  pub kept : (x : ℕ) → x ≤ lists → Kept follow enter sizes accepting x

module _ (follow enter sizes accepting : List ℕ) where
  stored : ℕ → Automaton
  stored = stored_at follow enter sizes accepting

  stored-kept : (x : ℕ) (B : Automaton) → Stored follow enter sizes accepting x B → Kept follow enter sizes accepting x
  stored-kept x B s =
      record {
        fits = s.fits;
        start = subst (λ (A : Automaton). 0 < length A.follow) (sym s.same) s.start;
        within = λ a. subst (λ (A : Automaton). A.enter a < 2 ^ length A.follow) (sym s.same) (s.within a);
      }

  kept-stored : (x : ℕ) → Kept follow enter sizes accepting x → Stored follow enter sizes accepting x (stored x)
  unfolding stored
  kept-stored x k = record { fits = k.fits; same = refl; start = k.start; within = k.within }

  -- The automata from number x on.
  stored_from : ℕ → ℕ → List Automaton
  stored_from x zero = []
  stored_from x (suc n) = stored x ∷ stored_from (suc x) n

  length-stored : (x n : ℕ) → length (stored_from x n) ≡ n
  unfolding stored_from
  length-stored x zero = refl
  length-stored x (suc n) = ap suc (length-stored (suc x) n)

  stored-there : (x n v : ℕ) (B : Automaton) → v < n → slice_index_or (stored_from x n) v B ≡ stored (x + v)
  unfolding stored_from
  stored-there x zero v B h = absurd (omega arith)
  stored-there x (suc n) zero B h = let e : x ≡ x + 0 = omega arith in ap stored e
  stored-there x (suc n) (suc v) B h =
      let e : suc x + v ≡ x + suc v = omega arith in
      stored-there (suc x) n v B (omega arith) ∙ ap stored e

  listed-there : (lists v : ℕ) (B : Automaton) → v < lists → stored (suc v) ≡ slice_index_or (stored_from 1 lists) v B
  listed-there lists v B h =
      let e : suc v ≡ 1 + v = omega arith in
      ap stored e ∙ sym (stored-there 1 lists v B h)

module _ {labels lists : ℕ} {follow enter sizes accepting : List ℕ} where
  -- The rows hold the automata of a job.
  pub rows-job : RowsHeld labels lists follow enter sizes accepting → HoldsJob follow enter sizes accepting labels lists
  rows-job r =
      record {
        query = stored follow enter sizes accepting 0;
        listed = stored_from follow enter sizes accepting 1 lists;
        holding = record {
          query = kept-stored follow enter sizes accepting 0 (r.kept 0 (omega arith));
          size = length-stored follow enter sizes accepting 1 lists;
          listed = λ v B h.
              subst (Stored follow enter sizes accepting (suc v)) (listed-there follow enter sizes accepting lists v B h)
              (kept-stored follow enter sizes accepting (suc v) (r.kept (suc v) h));
        };
      }

  -- Where the tables hold the automata of a job, their rows do.
  pub rows-held : labels ≤ 32 → lists ≤ 16 → RowsFit lists follow enter → HoldsJob follow enter sizes accepting labels lists
      → RowsHeld labels lists follow enter sizes accepting
  rows-held few-labels few-lists fit job =
      record { few-labels = few-labels; few-lists = few-lists; fit = fit; kept = each }
    where
      each : (x : ℕ) → x ≤ lists → Kept follow enter sizes accepting x
      each zero h = stored-kept follow enter sizes accepting 0 job.query job.holding.query
      each (suc v) h = stored-kept follow enter sizes accepting (suc v) _ (job.holding.listed v job.query h)

  pub rows-room : {most_standings most_states : ℕ} {table flags : List ℕ} → RowsHeld labels lists follow enter sizes accepting
      → Lent most_standings most_states table flags → Room labels lists most_states table flags
  rows-room r l =
      record { labels = r.few-labels; lists = r.few-lists; states = l.states; table = l.rows; flags = l.marks }
