-- The columns that stand in a turned set (Turned), one after the other: a column that is put there changes no other, and a set whose columns
-- from the offset w on are empty has no places from n × w on.
use Rattle.std.specs.Prelude.{◌≡◌, ℕ, ◌+◌, ◌*◌, ◌/◌, ◌%◌, ◌^◌, ◌<◌, ◌≤◌, ◌≢◌, ◌⊎◌, ◌↔◌, List, slice_index}
use Rattle.std.proofs.Common.{inl, inr, sym, subst, mod-lt, mul_comm, arith}
use Rattle.std.proofs.Math.Decide.{dec_lt}
use Rattle.std.proofs.Math.Nat.{div-add-mod}
use Rattle.theory.specs.Places.{Member, union}
use Rattle.theory.specs.PlacesLaws.{member-none, member_below, member_union, members-below, equal-members, no-members}
use Rattle.theory.specs.PlacesShift.{member-moved, member-cut}
use Rattle.places.specs.Words.{number_of}
use Rattle.verdict.specs.Columns.{ColumnsOf, SetOf}
use Rattle.verdict.specs.CoverPlaces.{split-unique, split_below}
use Rattle.verdict.specs.CoverTold.{Gains}
use Rattle.verdict.specs.Rows.{row_of}
use Rattle.verdict.specs.RowsLaws.{member-row}
use Rattle.verdict.specs.Turned.{Turned, Stacked}

-- The column of the offset o, of n states.
unfoldable pub column_in : ℕ → List ℕ → ℕ → ℕ
column_in n set o = row_of (number_of set) (n * o) n

pub member-column : (n : ℕ) (set : List ℕ) (o q : ℕ) → Member q (column_in n set o) ↔ ((q < n) × Member (n * o + q) (number_of set))
unfolding column_in
member-column n set o q = member-row (number_of set) (n * o) n q

-- A set without places has empty columns.
pub no-columns : (n : ℕ) (set : List ℕ) → number_of set ≡ 0 → (o : ℕ) → column_in n set o ≡ 0
no-columns n set e o =
    no-members (column_in n set o) λ q m. member-none (n * o + q) (subst (Member (n * o + q)) e ((member-column n set o q).0 m).1)

-- The column of the offset o gains the states y.
pub record Puts (o y : ℕ) (column column' : ℕ → ℕ) : Type 0 where
  pub here : column' o ≡ union (column o) y
  pub others : (x : ℕ) → x ≢ o → column' x ≡ column x

pub put-column : (n at o y : ℕ) (set set' : List ℕ) → at ≡ n * o → y < 2 ^ n → at + n ≤ 1024 → Gains set (y * 2 ^ at) set'
    → Puts o y (column_in n set) (column_in n set')
put-column n at o y set set' place small room g =
    record {
      here = equal-members (column_in n set' o) (union (column_in n set o) y) λ q. (
        λ m.
            let (h, k) = (member-column n set' o q).0 m in
            (member_union q (column_in n set o) y).1 (there q h ((gained (n * o + q)).0 k)),
        λ m. back q ((member_union q (column_in n set o) y).0 m),
      );
      others = λ x d. equal-members (column_in n set' x) (column_in n set x) λ q. (
        λ m.
            let (h, k) = (member-column n set' x q).0 m in
            (member-column n set x q).1 (h, apart x q d h ((gained (n * x + q)).0 k)),
        λ m.
            let (h, k) = (member-column n set x q).0 m in
            (member-column n set' x q).1 (h, (gained (n * x + q)).1 (inl k)),
      );
    }
  where
    new : ℕ
    new = y * 2 ^ at

    -- The places of the set after it.
    gained : (i : ℕ) → Member i (number_of set') ↔ (Member i (number_of set) ⊎ Member i (new % 2 ^ 1024))
    gained i = (
      λ m. (member_union i (number_of set) (new % 2 ^ 1024)).0 (subst (Member i) g m),
      λ m. subst (Member i) (sym g) ((member_union i (number_of set) (new % 2 ^ 1024)).1 m),
    )

    -- A new place is that of a state in the column.
    placed : (x q : ℕ) → q < n → Member (n * x + q) (new % 2 ^ 1024) → (x ≡ o) × Member q y
    placed x q h m =
        let (r, e, u) = (member-moved at (n * x + q) y).0 ((member-cut 1024 (n * x + q) new).0 m).1 in
        let (a, b) = split-unique n x o q r h (member_below n y r small u) (omega arith) in
        (a, subst (λ (z : ℕ). Member z y) (sym b) u)

    there : (q : ℕ) → q < n → Member (n * o + q) (number_of set) ⊎ Member (n * o + q) (new % 2 ^ 1024)
        → Member q (column_in n set o) ⊎ Member q y
    there q h (inl m) = inl ((member-column n set o q).1 (h, m))
    there q h (inr m) = inr (placed o q h m).1

    back : (q : ℕ) → Member q (column_in n set o) ⊎ Member q y → Member q (column_in n set' o)
    back q (inl m) =
        let (h, k) = (member-column n set o q).0 m in
        (member-column n set' o q).1 (h, (gained (n * o + q)).1 (inl k))
    back q (inr m) =
        let h : q < n = member_below n y q small m in
        (member-column n set' o q).1 (
          h,
          (gained (n * o + q)).1
              (inr ((member-cut 1024 (n * o + q) new).1 (omega arith, (member-moved at (n * o + q) y).1 (q, omega arith, m)))),
        )

    apart : (x q : ℕ) → x ≢ o → q < n → Member (n * x + q) (number_of set) ⊎ Member (n * x + q) (new % 2 ^ 1024)
        → Member (n * x + q) (number_of set)
    apart x q d h (inl m) = m
    apart x q d h (inr m) = absurd (d (placed x q h m).0)

pub columns-below : (w n : ℕ) (set : List ℕ) → 0 < n → ((x : ℕ) → w ≤ x → column_in n set x ≡ 0) → number_of set < 2 ^ (n * w)
columns-below w n set some empty = members-below (n * w) (number_of set) λ i m. side i m (dec_lt (i / n) w)
  where
    side : (i : ℕ) → Member i (number_of set) → Dec (i / n < w) → i < n * w
    side i m (yes h) =
        omega (arith, split_below n w (i / n) (i % n) (mod-lt i some) h, mul_comm n w, div-add-mod i n)
    side i m (no h) =
        absurd (member-none (i % n) (subst (Member (i % n)) (empty (i / n) (omega arith))
        ((member-column n set (i / n) (i % n)).1
        (mod-lt i some, subst (λ (z : ℕ). Member z (number_of set)) (sym (div-add-mod i n)) m))))

-- The columns of a turned set are those of the set: each offset has the column of its class.
pub columns-turned : (w k n : ℕ) (f : ℕ → ℕ) (C D : ℕ) (columns : List ℕ) → ((o : ℕ) → o < w → f o < k) → Turned w k f n C D → Stacked k n columns D
    → ColumnsOf w n C (λ o. slice_index columns (f o))
columns-turned w k n f C D columns inside t s =
    record {
      exact = λ q o h l. (
        λ m. (t.exact q o h l).1 ((s.exact q (f o) h (inside o l)).0 m),
        λ m. (s.exact q (f o) h (inside o l)).1 ((t.exact q o h l).0 m),
      );
      within = λ q o l m. s.within q (f o) (inside o l) m;
    }

-- The set that is turned is the set of the columns that stand in the turned one.
pub set-turned : (w k n : ℕ) (f : ℕ → ℕ) (C : ℕ) (r : List ℕ) → Turned w k f n C (number_of r) → SetOf w n (λ o. column_in n r (f o)) C
set-turned w k n f C r t =
    record {
      exact = λ q o h l. (
        λ m. (t.exact q o h l).1 ((member-column n r (f o) q).0 m).1,
        λ m. (member-column n r (f o) q).1 (h, (t.exact q o h l).0 m),
      );
      within = λ q o l m. ((member-column n r (f o) q).0 m).0;
      below = t.below;
    }
