-- What the loops over standings and labels hold and tell: the exploration of Standings (Exploring), with nothing kept of the trails.
use Rattle.std.specs.Prelude.{◌≡◌, ℕ, ◌+◌, ◌*◌, ◌<◌, ◌≤◌, ◌≢◌, ◌⊎◌, List, length, take, slice_index, slice_index_or, slice_set, Option, Some, None}
use Rattle.std.proofs.Common.{inl, inr, ◌∙◌, add-one, arith, length-set, length-take-le, get_or-set_other}
use Rattle.std.specs.Prelude.{refl}
use Rattle.theory.specs.Automaton.{step}
use Rattle.theory.specs.Exploration.{Entry}
use Rattle.finding.specs.Standings.{place_of}
use Rattle.finding.specs.Plain.{plain}
use Rattle.finding.specs.PlaceOfLaws.{place-within}
use Rattle.finding.specs.Exploring.{Task, Turns, Outcome, AllFound, explored, explores-known, explores-new, explores-over}

-- The standings of the automaton of the plain data, its labels in rows of 32.
abbrev pub standing_task : List ℕ → List ℕ → ℕ → ℕ → Task
standing_task follow enter labels limit =
    record { next = step (plain follow enter 0); start = 1; symbols = labels; limit = limit; width = 32 }

-- Nothing is kept.
abbrev pub Alone : List (Entry ℕ) → Type 0
Alone l = Unit {0}

-- What the row of a standing asks: room in the lent lists, and a number of labels that a row holds.
pub record Room (labels limit i n : ℕ) (enter found moves : List ℕ) : Type 0 where
  pub row : labels ≤ 32
  pub enters : labels ≤ length enter
  pub inside : i < n
  pub within : n ≤ limit
  pub most : limit ≤ 64
  pub numbers : limit ≤ length found
  pub rows : 32 * limit ≤ length moves

-- The row of the entry number i, from n numbers found.
pub record RowTold (T : Task) (i n : ℕ) (found table : List ℕ) (r : Option ℕ) (found' table' : List ℕ) : Type 0 where
  pub bounds : (m : ℕ) → r ≡ Some m → (n ≤ m) × (m ≤ T.limit)
  pub told : Turns T Alone Alone i 0 T.symbols n found table r found' table'

-- The whole exploration.
abbrev pub SweepTold : Task → Option ℕ → List ℕ → List ℕ → Type 0
SweepTold T r found table = Outcome (explored T) r (λ n. AllFound T Alone n found table)

-- In the row of the entry number i, the symbols before a done.
pub record RowLoop (T : Task) (i n : ℕ) (found table : List ℕ) (a m : ℕ) (found' table' : List ℕ) : Type 0 where
  pub symbol : a ≤ T.symbols
  pub kept : n ≤ m
  pub within : m ≤ T.limit
  pub room : length found' ≡ length found
  pub rows : length table' ≡ length table
  pub from : slice_index_or found' i 0 ≡ slice_index found i
  pub told : Turns T Alone Alone i 0 a n found table (Some m) found' table'

pub row-begins : {T : Task} {i n : ℕ} {found table : List ℕ} → n ≤ T.limit → RowLoop T i n found table 0 n found table
row-begins h =
    record {
      symbol = omega arith;
      kept = omega arith;
      within = h;
      room = refl;
      rows = refl;
      from = refl;
      told = λ whole s. s;
    }

pub row_ends : {T : Task} {i n a m : ℕ} {found table found' table' : List ℕ} → RowLoop T i n found table a m found' table' → T.symbols ≤ a
    → RowTold T i n found table (Some m) found' table'
row_ends {T} {i} {n} {a} {m} s h =
    let e : a ≡ T.symbols = omega (arith, s.symbol) in
    record {
      bounds = λ k z. let y : m ≡ k = cc in (omega (arith, s.kept), omega (arith, s.within));
      told = rw e at s.told;
    }

-- The ways through a turn of the loop: x is the number that the symbol leads to, t its place.
module _ {T : Task} {i n a m : ℕ} {found table found' table' : List ℕ} (s : RowLoop T i n found table a m found' table') (more : a < T.symbols)
    (inside : i < n) (fits : T.limit ≤ length found) (wide : T.symbols ≤ T.width) (room : T.width * i + a < length table) (x t : ℕ)
    (leads : x ≡ T.next (slice_index found i) a) (place : t ≡ place_of x (take m found')) where
  space : m ≤ length found'
  space = omega (arith, s.room, s.within)

  leads-on : x ≡ T.next (slice_index found' i) a
  leads-on = rw s.from leads

  pub loop-turn : (m'' : ℕ) (found'' : List ℕ)
      → ((t ≡ m) × (m < T.limit) × (found'' ≡ slice_set found' m x) × (m'' ≡ m + 1)) ⊎ ((t ≢ m) × (found'' ≡ found') × (m'' ≡ m))
      → RowLoop T i n found table (a + 1) m'' found'' (slice_set table' (T.width * i + a) t)
  loop-turn m'' found'' (inl (h, below, ef, em)) =
      rw (ef, em, add-one a, add-one m)
      (record {
        symbol = more;
        kept = omega (arith, s.kept);
        within = below;
        room = length-set found' m x ∙ s.room;
        rows = length-set table' (T.width * i + a) t ∙ s.rows;
        from = get_or-set_other found' m i x 0 (λ e. omega (arith, s.kept)) ∙ s.from;
        told = λ whole held.
            explores-new i a m x t (s.told whole held) (omega (arith, s.kept)) more space leads-on place wide (omega (arith, s.rows)) h below
            (omega (arith, s.room)) (λ l e b. b);
      })
  loop-turn m'' found'' (inr (h, ef, em)) =
      rw (ef, em, add-one a)
      (record {
        symbol = more;
        kept = s.kept;
        within = s.within;
        room = s.room;
        rows = length-set table' (T.width * i + a) t ∙ s.rows;
        from = s.from;
        told = λ whole held.
            explores-known i a m x t (s.told whole held) (omega (arith, s.kept)) more space leads-on place wide (omega (arith, s.rows))
            (omega (arith, place, place-within x (take m found'), length-take-le m found' space)) (λ l e b. b);
      })

  pub loop-over : {found'' table'' : List ℕ} → t ≡ m → T.limit ≤ m → RowTold T i n found table None found'' table''
  loop-over h l =
      record {
        bounds = λ k z. absurd (let y : ◌≡◌ {A = ℕ} 0 1 = cc in omega arith);
        told = λ whole held. explores-over i a m x t (s.told whole held) (omega (arith, s.kept)) more space leads-on place h l;
      }
