-- The loops that prepare steps by rows of two words (WideRows, RowsPrepared): what they keep and promise, turn by turn.
use Rattle.std.specs.Prelude.{◌≡◌, ℕ, zero, suc, ◌+◌, ◌-◌, ◌*◌, ◌/◌, ◌%◌, ◌^◌, ◌<◌, ◌≤◌, ◌⊎◌, ◌↔◌, List, ◌≢◌, slice_index}
use Rattle.std.proofs.Common.{inl, inr, sym, ap, ◌∙◌, subst, arith}
use Rattle.std.specs.Prelude.{refl}
use Rattle.std.proofs.Math.Decide.{dec_lt}
use Rattle.theory.specs.Places.{Member}
use Rattle.theory.specs.PlacesShift.{member-moved, member-cut}
use Rattle.places.specs.Words.{number_of, Words}
use Rattle.places.specs.WordsLaws.{member-number}
use Rattle.verdict.specs.Tables.{occupied}
use Rattle.verdict.specs.Columns.{offset_in}
use Rattle.verdict.specs.ColumnOffsets.{offset_from}
use Rattle.verdict.specs.ColumnLists.{inner_of}
use Rattle.verdict.specs.ColumnTurns.{member-inner}
use Rattle.verdict.specs.WideRows.{word_of, Has, InPair, Gained, OccursAt, OccursIn, ComesNext, RowsPrepared}
use Rattle.verdict.specs.WideRowsLaws.{has-none, same-pair, gained-row}

-- The rows of the offsets gain what can come next from the first k places of the list v, which has `size` occurrences after the offset
-- `base`. The start never comes next.
pub record ListSteps (v k size base : ℕ) (follow rows rows' : List ℕ) : Type 0 where
  pub steps : (x y : ℕ) → x < 128 → InPair rows' (2 * x) y
      ↔ (InPair rows (2 * x) y
      ⊎ ((o : ℕ) × (o < k) × (x ≡ offset_from base o) × OccursAt size base (slice_index follow (64 * (v + 1) + o)) y))
  pub others : (i : ℕ) → 256 ≤ i → slice_index rows' i ≡ slice_index rows i
  pub no_start : (o : ℕ) → o < k → ¬ Member 0 (slice_index follow (64 * (v + 1) + o))

-- The rows of the first k labels gain the occurrences of the list that they enter.
pub record ListEnters (v k size base : ℕ) (enter rows rows' : List ℕ) : Type 0 where
  pub enters : (a y : ℕ) → a < 32 → InPair rows' (256 + 2 * a) y
      ↔ (InPair rows (256 + 2 * a) y ⊎ ((a < k) × OccursAt size base (slice_index enter (32 * (v + 1) + a)) y))
  pub others : (i : ℕ) → (i < 256) ⊎ (320 ≤ i) → slice_index rows' i ≡ slice_index rows i

-- The two words of the occurrences of a set, which are moved up after the offset `base`.
pub occurs-words : (l : List ℕ) → Words l → (s size base : ℕ) → base + size < 128
    → number_of l ≡ (inner_of s size * 2 ^ (base + 1)) % 2 ^ 1024
    → (y : ℕ) → Has (slice_index l 0) (slice_index l 1) y ↔ OccursAt size base s y
occurs-words l words s size base room e y = (
  λ h. there h.below (subst (Member y) e
      ((member-number l words y).1 (subst (Member (y % 64)) (word (y / 64) (omega (arith, h.below))) h.bit))),
  back,
)
  where
    moved : ℕ
    moved = (inner_of s size * 2 ^ (base + 1)) % 2 ^ 1024

    word : (k : ℕ) → k < 2 → word_of (slice_index l 0) (slice_index l 1) k ≡ slice_index l k
    word zero h = refl
    word (suc zero) h = refl
    word (suc (suc k)) h = absurd (omega arith)

    there : y < 128 → Member y moved → OccursAt size base s y
    there h m =
        let (i, f, c) = (member-moved (base + 1) y (inner_of s size)).0 ((member-cut 1024 y (inner_of s size * 2 ^ (base + 1))).0 m).1 in
        let (k, u) = (member-inner s size i).0 c in
        (1 + i, omega arith, omega arith, omega arith, u)

    back : OccursAt size base s y → Has (slice_index l 0) (slice_index l 1) y
    back (p, some, small, f, m) =
        let g : p ≡ 1 + (p - 1) = omega arith in
        let c : Member (p - 1) (inner_of s size) = (member-inner s size (p - 1)).1 (omega arith, subst (λ x. Member x s) g m) in
        let u = (member-moved (base + 1) y (inner_of s size)).1 (p - 1, omega arith, c) in
        let k : Member y moved = (member-cut 1024 y (inner_of s size * 2 ^ (base + 1))).1 (omega arith, u) in
        record {
          below = omega arith;
          bit = subst (Member (y % 64)) (sym (word (y / 64) (omega arith)))
              ((member-number l words y).0 (subst (Member y) (sym e) k));
        }

-- What can come next from the places of one list, place by place.

pub steps-start : (v size base : ℕ) (follow rows : List ℕ) → ListSteps v 0 size base follow rows rows
steps-start v size base follow rows =
    record { steps = λ x y h. (inl, old x y); others = λ i h. refl; no_start = λ o h. absurd (omega arith) }
  where
    old : (x y : ℕ) → InPair rows (2 * x) y
        ⊎ ((o : ℕ) × (o < 0) × (x ≡ offset_from base o) × OccursAt size base (slice_index follow (64 * (v + 1) + o)) y) → InPair rows (2 * x) y
    old x y (inl m) = m
    old x y (inr (o, h, e, c)) = absurd (omega arith)

pub steps-turn : (v k size base x₀ s : ℕ) (follow rows₀ rows rows' : List ℕ) → s ≡ slice_index follow (64 * (v + 1) + k) → ¬ Member 0 s
    → x₀ ≡ offset_from base k → x₀ < 128 → Gained (2 * x₀) (OccursAt size base s) rows rows' → ListSteps v k size base follow rows₀ rows
    → ListSteps v (k + 1) size base follow rows₀ rows'
steps-turn v k size base x₀ s follow rows₀ rows rows' e start place small g l =
    record {
      steps = λ x y h. (λ m. there x y h ((row x y).0 m), λ m. (row x y).1 (back x y h m));
      others = λ i h. g.others i (λ d. omega arith) (λ d. omega arith) ∙ l.others i h;
      no_start = λ o h m. first o h m (dec_lt o k);
    }
  where
    set-of : ℕ → ℕ
    set-of o = slice_index follow (64 * (v + 1) + o)

    From : ℕ → ℕ → ℕ → Type 0
    From m x y = (o : ℕ) × (o < m) × (x ≡ offset_from base o) × OccursAt size base (set-of o) y

    row : (x y : ℕ) → InPair rows' (2 * x) y ↔ (InPair rows (2 * x) y ⊎ ((2 * x ≡ 2 * x₀) × OccursAt size base s y))
    row x y = gained-row (2 * x) (2 * x₀) (OccursAt size base s) rows rows' (λ d. omega arith) (λ d. omega arith) g y

    there : (x y : ℕ) → x < 128 → InPair rows (2 * x) y ⊎ ((2 * x ≡ 2 * x₀) × OccursAt size base s y)
        → InPair rows₀ (2 * x) y ⊎ From (k + 1) x y
    there x y h (inr (d, c)) =
        let same : x ≡ x₀ = omega arith in
        inr (k, omega arith, same ∙ place, subst (λ z. OccursAt size base z y) e c)
    there x y h (inl m) = earlier ((l.steps x y h).0 m)
      where
        earlier : InPair rows₀ (2 * x) y ⊎ From k x y → InPair rows₀ (2 * x) y ⊎ From (k + 1) x y
        earlier (inl u) = inl u
        earlier (inr (o, i, f, c)) = inr (o, omega arith, f, c)

    back : (x y : ℕ) → x < 128 → InPair rows₀ (2 * x) y ⊎ From (k + 1) x y
        → InPair rows (2 * x) y ⊎ ((2 * x ≡ 2 * x₀) × OccursAt size base s y)
    back x y h (inl m) = inl ((l.steps x y h).1 (inl m))
    back x y h (inr (o, i, f, c)) = side (dec_lt o k)
      where
        side : Dec (o < k) → InPair rows (2 * x) y ⊎ ((2 * x ≡ 2 * x₀) × OccursAt size base s y)
        side (yes d) = inl ((l.steps x y h).1 (inr (o, d, f, c)))
        side (no d) =
            let same : o ≡ k = omega arith in
            let here : x ≡ x₀ = f ∙ ap (offset_from base) same ∙ sym place in
            inr (ap (λ z. 2 * z) here, subst (λ z. OccursAt size base z y) (ap set-of same ∙ sym e) c)

    first : (o : ℕ) → o < k + 1 → Member 0 (set-of o) → Dec (o < k) → ⊥
    first o h m (yes d) = l.no_start o d m
    first o h m (no d) =
        let same : o ≡ k = omega arith in
        start (subst (Member 0) (ap set-of same ∙ sym e) m)

-- The occurrences of one list that the labels enter, label by label.

pub enters-start : (v size base : ℕ) (enter rows : List ℕ) → ListEnters v 0 size base enter rows rows
enters-start v size base enter rows = record { enters = λ a y h. (inl, old a y); others = λ i h. refl }
  where
    old : (a y : ℕ) → InPair rows (256 + 2 * a) y ⊎ ((a < 0) × OccursAt size base (slice_index enter (32 * (v + 1) + a)) y)
        → InPair rows (256 + 2 * a) y
    old a y (inl m) = m
    old a y (inr (h, c)) = absurd (omega arith)

pub enters-turn : (v k size base : ℕ) (enter rows₀ rows rows' : List ℕ) → k < 32
    → Gained (256 + 2 * k) (OccursAt size base (slice_index enter (32 * (v + 1) + k))) rows rows' → ListEnters v k size base enter rows₀ rows
    → ListEnters v (k + 1) size base enter rows₀ rows'
enters-turn v k size base enter rows₀ rows rows' small g l =
    record {
      enters = λ a y h. (λ m. there a y h ((row a y).0 m), λ m. (row a y).1 (back a y h m));
      others = λ i h. g.others i (λ d. apart i h d) (λ d. apart' i h d) ∙ l.others i h;
    }
  where
    Enters : ℕ → ℕ → Type 0
    Enters a y = OccursAt size base (slice_index enter (32 * (v + 1) + a)) y

    apart : (i : ℕ) → (i < 256) ⊎ (320 ≤ i) → i ≢ 256 + 2 * k
    apart i (inl h) d = omega arith
    apart i (inr h) d = omega arith

    apart' : (i : ℕ) → (i < 256) ⊎ (320 ≤ i) → i ≢ 256 + 2 * k + 1
    apart' i (inl h) d = omega arith
    apart' i (inr h) d = omega arith

    row : (a y : ℕ) → InPair rows' (256 + 2 * a) y ↔ (InPair rows (256 + 2 * a) y ⊎ ((256 + 2 * a ≡ 256 + 2 * k) × Enters k y))
    row a y = gained-row (256 + 2 * a) (256 + 2 * k) (Enters k) rows rows' (λ d. omega arith) (λ d. omega arith) g y

    there : (a y : ℕ) → a < 32 → InPair rows (256 + 2 * a) y ⊎ ((256 + 2 * a ≡ 256 + 2 * k) × Enters k y)
        → InPair rows₀ (256 + 2 * a) y ⊎ ((a < k + 1) × Enters a y)
    there a y h (inr (d, c)) =
        let same : k ≡ a = omega arith in
        inr (omega arith, subst (λ z. Enters z y) same c)
    there a y h (inl m) = earlier ((l.enters a y h).0 m)
      where
        earlier : InPair rows₀ (256 + 2 * a) y ⊎ ((a < k) × Enters a y) → InPair rows₀ (256 + 2 * a) y ⊎ ((a < k + 1) × Enters a y)
        earlier (inl u) = inl u
        earlier (inr (i, c)) = inr (omega arith, c)

    back : (a y : ℕ) → a < 32 → InPair rows₀ (256 + 2 * a) y ⊎ ((a < k + 1) × Enters a y)
        → InPair rows (256 + 2 * a) y ⊎ ((256 + 2 * a ≡ 256 + 2 * k) × Enters k y)
    back a y h (inl m) = inl ((l.enters a y h).1 (inl m))
    back a y h (inr (i, c)) = side (dec_lt a k)
      where
        side : Dec (a < k) → InPair rows (256 + 2 * a) y ⊎ ((256 + 2 * a ≡ 256 + 2 * k) × Enters k y)
        side (yes d) = inl ((l.enters a y h).1 (inr (d, c)))
        side (no d) =
            let same : a ≡ k = omega arith in
            inr (omega arith, subst (λ z. Enters z y) same c)

-- The lists before v are prepared, and the rows of the ends of the others are empty.
pub record Preparing (v : ℕ) (follow enter sizes accepting rows : List ℕ) : Type 0 where
  pub prepared : RowsPrepared v follow enter sizes accepting rows
  pub free : (u y : ℕ) → v ≤ u → u < 16 → ¬ InPair rows (320 + 2 * u) y

pub preparing-start : (follow enter sizes accepting rows : List ℕ) → ((i : ℕ) → i < 352 → slice_index rows i ≡ 0)
    → Preparing 0 follow enter sizes accepting rows
preparing-start follow enter sizes accepting rows zeros =
    record {
      prepared =
          record {
            steps = λ x y h. (λ m. absurd (empty (2 * x) y (omega arith) m), λ (v, o, i, k, e, c). absurd (omega arith));
            enters = λ a y h. (λ m. absurd (empty (256 + 2 * a) y (omega arith) m), λ (v, i, c). absurd (omega arith));
            ends = λ v y h. absurd (omega arith);
            no_start = λ v o h. absurd (omega arith);
          };
      free = λ u y h k m. empty (320 + 2 * u) y (omega arith) m;
    }
  where
    empty : (i y : ℕ) → i + 1 < 352 → ¬ InPair rows i y
    empty i y h m =
        has-none y (subst (λ z. Has 0 z y) (zeros (i + 1) h) (subst (λ z. Has z (slice_index rows (i + 1)) y) (zeros i (omega arith)) m))

module _ (v : ℕ) (follow enter sizes accepting rows rows' rows'' rows''' : List ℕ) where
  abbrev size : ℕ
  size = slice_index sizes (v + 1)

  abbrev base : ℕ
  base = occupied sizes 0 v

  offset-same : (o : ℕ) → offset_from base o ≡ offset_in sizes v o
  offset-same zero = refl
  offset-same (suc o) = refl

  module _ (inside : v < 16) (ls : ListSteps v (size + 1) size base follow rows rows') (le : ListEnters v 32 size base enter rows' rows'')
      (g : Gained (320 + 2 * v) (OccursAt size base (slice_index accepting (v + 1))) rows'' rows''')
      (l : Preparing v follow enter sizes accepting rows) where
    -- What is not a row of the ends stays in the last step.
    kept : (i : ℕ) → i < 320 → slice_index rows''' i ≡ slice_index rows'' i
    kept i h = g.others i (λ d. omega arith) (λ d. omega arith)

    step_row : (x y : ℕ) → x < 128 → InPair rows''' (2 * x) y ↔ InPair rows' (2 * x) y
    step_row x y h =
        same-pair rows' rows''' (2 * x) (kept (2 * x) (omega arith) ∙ le.others (2 * x) (inl (omega arith)))
        (kept (2 * x + 1) (omega arith) ∙ le.others (2 * x + 1) (inl (omega arith))) y

    label-row : (a y : ℕ) → a < 32 → InPair rows''' (256 + 2 * a) y ↔ InPair rows'' (256 + 2 * a) y
    label-row a y h = same-pair rows'' rows''' (256 + 2 * a) (kept (256 + 2 * a) (omega arith)) (kept (256 + 2 * a + 1) (omega arith)) y

    old-label : (a y : ℕ) → InPair rows' (256 + 2 * a) y ↔ InPair rows (256 + 2 * a) y
    old-label a y =
        same-pair rows rows' (256 + 2 * a) (ls.others (256 + 2 * a) (omega arith)) (ls.others (256 + 2 * a + 1) (omega arith)) y

    end_row : (u y : ℕ) → InPair rows''' (320 + 2 * u) y
        ↔ (InPair rows'' (320 + 2 * u) y ⊎ ((320 + 2 * u ≡ 320 + 2 * v) × OccursIn sizes v (slice_index accepting (v + 1)) y))
    end_row u y = gained-row (320 + 2 * u) (320 + 2 * v) _ rows'' rows''' (λ d. omega arith) (λ d. omega arith) g y

    old-end : (u y : ℕ) → InPair rows'' (320 + 2 * u) y ↔ InPair rows (320 + 2 * u) y
    old-end u y =
        same-pair rows rows'' (320 + 2 * u)
        (le.others (320 + 2 * u) (inr (omega arith)) ∙ ls.others (320 + 2 * u) (omega arith))
        (le.others (320 + 2 * u + 1) (inr (omega arith)) ∙ ls.others (320 + 2 * u + 1) (omega arith)) y

    turned-steps : (x y : ℕ) → x < 128 → InPair rows''' (2 * x) y ↔ ComesNext (v + 1) follow sizes x y
    turned-steps x y h = (λ m. there ((ls.steps x y h).0 ((step_row x y h).0 m)), λ m. (step_row x y h).1 ((ls.steps x y h).1 (back m)))
      where
        From : Type 0
        From = (o : ℕ) × (o < size + 1) × (x ≡ offset_from base o) × OccursAt size base (slice_index follow (64 * (v + 1) + o)) y

        there : InPair rows (2 * x) y ⊎ From → ComesNext (v + 1) follow sizes x y
        there (inl m) = let (u, o, i, k, e, c) = (l.prepared.steps x y h).0 m in (u, o, omega arith, k, e, c)
        there (inr (o, k, e, c)) = (v, o, omega arith, omega arith, e ∙ offset-same o, c)

        back : ComesNext (v + 1) follow sizes x y → InPair rows (2 * x) y ⊎ From
        back (u, o, i, k, e, c) = side (dec_lt u v)
          where
            Next : ℕ → Type 0
            Next z = (o ≤ slice_index sizes (z + 1)) × (x ≡ offset_in sizes z o) × OccursIn sizes z (slice_index follow (64 * (z + 1) + o)) y

            side : Dec (u < v) → InPair rows (2 * x) y ⊎ From
            side (yes d) = inl ((l.prepared.steps x y h).1 (u, o, d, k, e, c))
            side (no d) =
                let same : u ≡ v = omega arith in
                let (k', e', c') = subst Next same (k, e, c) in
                inr (o, omega arith, e' ∙ sym (offset-same o), c')

    turned-enters : (a y : ℕ) → a < 32
        → InPair rows''' (256 + 2 * a) y ↔ ((u : ℕ) × (u < v + 1) × OccursIn sizes u (slice_index enter (32 * (u + 1) + a)) y)
    turned-enters a y h = (λ m. there ((le.enters a y h).0 ((label-row a y h).0 m)), λ m. (label-row a y h).1 ((le.enters a y h).1 (back m)))
      where
        Enters : ℕ → Type 0
        Enters u = OccursIn sizes u (slice_index enter (32 * (u + 1) + a)) y

        there : InPair rows' (256 + 2 * a) y ⊎ ((a < 32) × Enters v) → (u : ℕ) × (u < v + 1) × Enters u
        there (inl m) = let (u, i, c) = (l.prepared.enters a y h).0 ((old-label a y).0 m) in (u, omega arith, c)
        there (inr (k, c)) = (v, omega arith, c)

        back : (u : ℕ) × (u < v + 1) × Enters u → InPair rows' (256 + 2 * a) y ⊎ ((a < 32) × Enters v)
        back (u, i, c) = side (dec_lt u v)
          where
            side : Dec (u < v) → InPair rows' (256 + 2 * a) y ⊎ ((a < 32) × Enters v)
            side (yes d) = inl ((old-label a y).1 ((l.prepared.enters a y h).1 (u, d, c)))
            side (no d) =
                let same : u ≡ v = omega arith in
                inr (h, subst Enters same c)

    turned-ends : (u y : ℕ) → u < v + 1 → InPair rows''' (320 + 2 * u) y ↔ OccursIn sizes u (slice_index accepting (u + 1)) y
    turned-ends u y h = side (dec_lt u v)
      where
        Ends : ℕ → Type 0
        Ends z = OccursIn sizes z (slice_index accepting (z + 1)) y

        side : Dec (u < v) → InPair rows''' (320 + 2 * u) y ↔ Ends u
        side (yes d) = (λ m. there ((end_row u y).0 m), λ m. (end_row u y).1 (inl ((old-end u y).1 ((l.prepared.ends u y d).1 m))))
          where
            there : InPair rows'' (320 + 2 * u) y ⊎ ((320 + 2 * u ≡ 320 + 2 * v) × Ends v) → Ends u
            there (inl m) = (l.prepared.ends u y d).0 ((old-end u y).0 m)
            there (inr (e, c)) = absurd (omega arith)
        side (no d) = (λ m. there ((end_row u y).0 m), λ m. (end_row u y).1 (inr (omega arith, subst Ends same m)))
          where
            same : u ≡ v
            same = omega arith

            there : InPair rows'' (320 + 2 * u) y ⊎ ((320 + 2 * u ≡ 320 + 2 * v) × Ends v) → Ends u
            there (inl m) = absurd (l.free u y (omega arith) (omega arith) ((old-end u y).0 m))
            there (inr (e, c)) = subst Ends (sym same) c

    still-free : (u y : ℕ) → v + 1 ≤ u → u < 16 → ¬ InPair rows''' (320 + 2 * u) y
    still-free u y h k m = none ((end_row u y).0 m)
      where
        none : InPair rows'' (320 + 2 * u) y ⊎ ((320 + 2 * u ≡ 320 + 2 * v) × OccursIn sizes v (slice_index accepting (v + 1)) y) → ⊥
        none (inl c) = l.free u y (omega arith) k ((old-end u y).0 c)
        none (inr (e, c)) = omega arith

    never-start : (u o : ℕ) → u < v + 1 → o ≤ slice_index sizes (u + 1) → ¬ Member 0 (slice_index follow (64 * (u + 1) + o))
    never-start u o h k m = side (dec_lt u v)
      where
        side : Dec (u < v) → ⊥
        side (yes d) = l.prepared.no_start u o d k m
        side (no d) =
            let same : u ≡ v = omega arith in
            let (k', m') = subst (λ z. (o ≤ slice_index sizes (z + 1)) × Member 0 (slice_index follow (64 * (z + 1) + o))) same (k, m) in
            ls.no_start o (omega arith) m'

    turned : Preparing (v + 1) follow enter sizes accepting rows'''
    turned =
        record {
          prepared = record { steps = turned-steps; enters = turned-enters; ends = turned-ends; no_start = never-start };
          free = still-free;
        }

pub preparing-turn : (v base : ℕ) (follow enter sizes accepting rows rows' rows'' rows''' : List ℕ) → base ≡ occupied sizes 0 v → v < 16
    → ListSteps v (slice_index sizes (v + 1) + 1) (slice_index sizes (v + 1)) base follow rows rows'
    → ListEnters v 32 (slice_index sizes (v + 1)) base enter rows' rows''
    → Gained (320 + 2 * v) (OccursAt (slice_index sizes (v + 1)) base (slice_index accepting (v + 1))) rows'' rows'''
    → Preparing v follow enter sizes accepting rows → Preparing (v + 1) follow enter sizes accepting rows'''
preparing-turn v _ follow enter sizes accepting rows rows' rows'' rows''' e inside ls le g l =
    turned v follow enter sizes accepting rows rows' rows'' rows''' inside
    (subst (λ z. ListSteps v (slice_index sizes (v + 1) + 1) (slice_index sizes (v + 1)) z follow rows rows') e ls)
    (subst (λ z. ListEnters v 32 (slice_index sizes (v + 1)) z enter rows' rows'') e le)
    (subst (λ z. Gained (320 + 2 * v) (OccursAt (slice_index sizes (v + 1)) z (slice_index accepting (v + 1))) rows'' rows''') e g) l
