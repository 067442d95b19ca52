-- What the verdict's function promises: its answer is the definition's (Verdict), and the first missed path stands in the lent buffer.
use Rattle.std.specs.Prelude.{◌≡◌, ℕ, suc, ◌+◌, ◌*◌, ◌^◌, ◌<◌, ◌≤◌, List, length, take, drop, slice_index, slice_index_or, Result, Ok, Err}
use Rattle.std.proofs.Math.Option.{Option, some, none}
use Rattle.theory.specs.Path.{Path}
use Rattle.theory.specs.Automaton.{Automaton}
use Rattle.theory.specs.Exploration.{System, Entry}
use Rattle.verdict.specs.Cover.{width}
use Rattle.verdict.specs.Pairs.{Pair, first_missed}
use Rattle.verdict.specs.Tables.{automaton_at, automata_of, occupied, rewritten, Counted}
use Rattle.verdict.specs.Coded.{Layout, Sided}
use Rattle.verdict.specs.PairTable.{Holds}
use Rattle.verdict.specs.PairsTold.{Lent}
use Rattle.verdict.specs.Verdict.{Verdict, complete, missed, refused, verdict}
use Rattle.syntax.specs.declared.refusal.Refusal.{Refusal}
use Rattle.verdict.specs.declared.verdict.Verdict.{Verdict as Told}
use Rattle.verdict.specs.declared.verdict.Verdict.TheVariants.{Complete, Missed}

-- The answer as numbers: of a path its length.
abbrev pub told_of : Verdict → Result Told Refusal
told_of (complete n) = Ok (Complete n)
told_of (missed p n) = Ok (Missed (length p) n)
told_of (refused r) = Err r

-- The buffer holds the missed path in front, and is otherwise as it was.
abbrev pub PathAfter : List ℕ → List ℕ → Verdict → Type 0
PathAfter path path' (complete n) = path' ≡ path
PathAfter path path' (missed p n) = (take (length p) path' ≡ p) × (drop (length p) path' ≡ drop (length p) path)
PathAfter path path' (refused r) = path' ≡ path

-- What the verdict needs of what is lent, wherever it comes from; nothing here says how many cover places or pairs there are.
pub record Fit (D : Lent) (flags : List ℕ) : Type 0 where
  pub counted : Counted D.lists D.sizes
  pub follow-room : 64 * D.lists + 64 ≤ length D.follow
  pub enter-room : 32 * D.lists + 32 ≤ length D.enter
  pub accepting-room : D.lists < length D.accepting
  pub table-room : 16 * D.states ≤ length D.table
  pub flags-room : D.states ≤ length flags
  pub few-labels : D.labels ≤ 32
  pub query : slice_index_or D.sizes 0 0 ≤ 63
  pub sets : (v o : ℕ) → v < D.lists → o ≤ slice_index D.sizes (v + 1)
      → slice_index D.follow (64 * (v + 1) + o) < 2 ^ suc (slice_index D.sizes (v + 1))
  pub some-state : 0 < D.states
  pub next : (q v : ℕ) → q < D.states → v < D.lists → slice_index D.table (16 * q + v) < D.states

abbrev pub verdict_of : Lent → List ℕ → ℕ → ℕ → Verdict
verdict_of D flags most allowance =
    verdict (automaton_at D.follow D.enter D.sizes D.accepting 0) D.labels (rewritten D.states D.table flags)
    (automata_of D.follow D.enter D.sizes D.accepting D.lists) most allowance

pub record VerdictTold (D : Lent) (flags : List ℕ) (most allowance : ℕ) (space path : List ℕ) (r : Result Told Refusal) (space' path' : List ℕ) : Type 0 where
  pub answer : Fit D flags → most ≤ 1024 → allowance ≤ 4096 → 18 * allowance ≤ length space → allowance ≤ length path
      → r ≡ told_of (verdict_of D flags most allowance)
  pub written : Fit D flags → most ≤ 1024 → allowance ≤ 4096 → 18 * allowance ≤ length space → allowance ≤ length path
      → PathAfter path path' (verdict_of D flags most allowance)
  pub space-beyond : (j : ℕ) → 18 * allowance ≤ j → slice_index space' j ≡ slice_index space j
  pub path-beyond : (j : ℕ) → allowance ≤ j → slice_index path' j ≡ slice_index path j

-- The width where there are no more places than the most; else 0.
pub record Placed (states n : ℕ) (sizes : List ℕ) (most w : ℕ) : Type 0 where
  pub counted : 0 < w → Counted n sizes
  pub wide : 0 < w → w ≡ suc (occupied sizes 0 n)
  pub few : 0 < w → (states * w ≤ most) × (most ≤ 1024)
  pub many : Counted n sizes → most ≤ 1024 → w ≡ 0 → most < states * suc (occupied sizes 0 n)

-- Of n pairs that are held, turned where c is not 0, the first missed one.

abbrev pub JudgedAs : ℕ → List ℕ → Told → List ℕ → Option Path → Type 0
JudgedAs n path r path' none = (r ≡ Complete n) × (path' ≡ path)
JudgedAs n path r path' (some p) = (r ≡ Missed (length p) n) × (take (length p) path' ≡ p) × (drop (length p) path' ≡ drop (length p) path)

pub record Judged (states : ℕ) (flags : List ℕ) (w c ends n : ℕ) (space path : List ℕ) (r : Told) (path' : List ℕ) : Type 0 where
  pub told : n ≤ length path → (A : Automaton) (table : List ℕ) (lists : List Automaton) → A.accepting ≡ ends → width lists ≡ w
      → (L : Layout) → Sided c w L → (S : System Pair) (l : List (Entry Pair)) → Holds L states S space l → length l ≡ n
      → JudgedAs n path r path' (first_missed A (rewritten states table flags) lists l)
  pub beyond : (j : ℕ) → n ≤ j → slice_index path' j ≡ slice_index path j
