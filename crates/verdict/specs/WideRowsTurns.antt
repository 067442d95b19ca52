-- The loops of a step by rows of two words (WideRows): what they keep, turn by turn.
use Rattle.std.specs.Prelude.{◌≡◌, ℕ, ◌+◌, ◌-◌, ◌*◌, ◌%◌, ◌^◌, ◌<◌, ◌≤◌, ◌≢◌, ◌⊎◌, ◌↔◌, List, length, set, bit_and, slice_index, slice_index_or}
use Rattle.std.proofs.Common.{inl, inr, sym, ap, ◌∙◌, subst, arith, length-set, get_or-set_same, get_or-set_other}
use Rattle.std.specs.Prelude.{refl}
use Rattle.std.proofs.Math.Decide.{ℕ_discrete, dec_lt}
use Rattle.std.specs.Int.Count.{count_trailing_zeros}
use Rattle.theory.specs.Places.{Member, union, intersection, union_over}
use Rattle.theory.specs.PlacesLaws.{member-none, member_below, member_union, member-one, members-below}
use Rattle.theory.specs.PlacesShift.{member-moved, member-cut}
use Rattle.places.specs.Words.{number_of}
use Rattle.places.specs.NextPlace.{trailing-here}
use Rattle.places.specs.Followed.{least-left}
use Rattle.verdict.specs.Rows.{row_of}
use Rattle.verdict.specs.RowsLaws.{member-row}
use Rattle.verdict.specs.CoverTold.{Gains}
use Rattle.verdict.specs.CoverPlaces.{split_below}
use Rattle.verdict.specs.Columns.{EndedWithin}
use Rattle.verdict.specs.WideRows.{Has, InPair, Gained, Follows, RowsLaid, LaidWithin, Steps, Ends, RowsStepped, RowPut, AlonePut}
use Rattle.verdict.specs.WideRowsLaws.{has-low, has-high, has-cases, has-none, has_both, has-over, has-meets, has-apart, same-pair}

-- The words that are followed from a word: what comes next from its offsets.
pub follow-words : (rows : List ℕ) (part first low high : ℕ) → part < 2 ^ 64
    → low ≡ union_over (λ o. slice_index rows (first + 2 * o)) 64 part → high ≡ union_over (λ o. slice_index rows (first + 2 * o + 1)) 64 part
    → (y : ℕ) → Has low high y ↔ Follows rows part first y
follow-words rows part first low high small e f y = (
  λ h.
      let (o, l, m, k) = (has-over first-word second_word part y).0
      (subst (λ z. Has z (union_over second_word 64 part) y) e (subst (λ z. Has low z y) f h)) in
      (o, m, k),
  λ (o, m, k). subst (λ z. Has low z y) (sym f) (subst (λ z. Has z (union_over second_word 64 part) y) (sym e)
      ((has-over first-word second_word part y).1 (o, member_below 64 part o small m, m, k))),
)
  where
    first-word : ℕ → ℕ
    first-word o = slice_index rows (first + 2 * o)

    second_word : ℕ → ℕ
    second_word o = slice_index rows (first + 2 * o + 1)

-- The rows of the states, one by one: two words are emptied, and gain what comes next from the two words of the row.
pub lay-turn : (rows laid laid' laid'' : List ℕ) (w q from s low high : ℕ) → 64 < w → w ≤ 128 → from ≡ w * q → 2 * q + 2 ≤ length laid
    → low ≡ row_of s from 64 → high ≡ row_of s (from + 64) (w - 64)
    → Gained (2 * q) (Follows rows low 0) (set (set laid (2 * q) 0) (2 * q + 1) 0) laid'
    → Gained (2 * q) (Follows rows high 128) laid' laid''
    → RowsLaid w q rows s laid → RowsLaid w (q + 1) rows s laid''
lay-turn rows laid laid' laid'' w q from s low high wide few place room e f g k l =
    record { exact = λ x y h. side x y h (dec_lt x q) }
  where
    emptied : List ℕ
    emptied = set (set laid (2 * q) 0) (2 * q + 1) 0

    Next : ℕ → ℕ → Type 0
    Next x y = (o : ℕ) × (o < w) × Member (w * x + o) s × InPair rows (2 * o) y

    no_row : (y : ℕ) → ¬ InPair emptied (2 * q) y
    no_row y h =
        has-none y (subst (λ z. Has 0 z y) second (subst (λ z. Has z (slice_index emptied (2 * q + 1)) y) first h))
      where
        first : slice_index_or emptied (2 * q) 0 ≡ 0
        first =
            get_or-set_other (set laid (2 * q) 0) (2 * q + 1) (2 * q) 0 0 (λ d. omega arith)
            ∙ get_or-set_same laid (2 * q) 0 0 (omega arith)

        second : slice_index_or emptied (2 * q + 1) 0 ≡ 0
        second = get_or-set_same (set laid (2 * q) 0) (2 * q + 1) 0 0 (omega (arith, length-set laid (2 * q) 0))

    before : (j : ℕ) → j < 2 * q → slice_index laid'' j ≡ slice_index laid j
    before j h =
        k.others j (λ d. omega arith) (λ d. omega arith) ∙ g.others j (λ d. omega arith) (λ d. omega arith)
        ∙ get_or-set_other (set laid (2 * q) 0) (2 * q + 1) j 0 0 (λ d. omega arith)
        ∙ get_or-set_other laid (2 * q) j 0 0 (λ d. omega arith)

    low-there : (y : ℕ) → Follows rows low 0 y → Next q y
    low-there y (o, m, c) =
        let (h, u) = (member-row s from 64 o).0 (subst (Member o) e m) in
        let i : 0 + 2 * o ≡ 2 * o = omega arith in
        let j : from + o ≡ w * q + o = omega arith in
        (o, omega arith, subst (λ z. Member z s) j u, subst (λ z. InPair rows z y) i c)

    high-there : (y : ℕ) → Follows rows high 128 y → Next q y
    high-there y (o, m, c) =
        let (h, u) = (member-row s (from + 64) (w - 64) o).0 (subst (Member o) f m) in
        let i : 128 + 2 * o ≡ 2 * (64 + o) = omega arith in
        let j : from + 64 + o ≡ w * q + (64 + o) = omega arith in
        (64 + o, omega arith, subst (λ z. Member z s) j u, subst (λ z. InPair rows z y) i c)

    there : (y : ℕ) → InPair laid' (2 * q) y ⊎ Follows rows high 128 y → Next q y
    there y (inr c) = high-there y c
    there y (inl c) = earlier ((g.here y).0 c)
      where
        earlier : InPair emptied (2 * q) y ⊎ Follows rows low 0 y → Next q y
        earlier (inl d) = absurd (no_row y d)
        earlier (inr d) = low-there y d

    back : (y : ℕ) → Next q y → InPair laid'' (2 * q) y
    back y (o, h, m, c) = part (dec_lt o 64)
      where
        part : Dec (o < 64) → InPair laid'' (2 * q) y
        part (yes d) =
            let i : 2 * o ≡ 0 + 2 * o = omega arith in
            let j : w * q + o ≡ from + o = omega arith in
            (k.here y).1 (inl ((g.here y).1 (inr (
              o,
              subst (Member o) (sym e) ((member-row s from 64 o).1 (d, subst (λ z. Member z s) j m)),
              subst (λ z. InPair rows z y) i c,
            ))))
        part (no d) =
            let i : 2 * o ≡ 128 + 2 * (o - 64) = omega arith in
            let j : w * q + o ≡ from + 64 + (o - 64) = omega arith in
            (k.here y).1 (inr (
              o - 64,
              subst (Member (o - 64)) (sym f) ((member-row s (from + 64) (w - 64) (o - 64)).1 (omega arith, subst (λ z. Member z s) j m)),
              subst (λ z. InPair rows z y) i c,
            ))

    side : (x y : ℕ) → x < q + 1 → Dec (x < q) → InPair laid'' (2 * x) y ↔ Next x y
    side x y h (yes d) =
        let same = same-pair laid laid'' (2 * x) (before (2 * x) (omega arith)) (before (2 * x + 1) (omega arith)) y in
        (λ m. (l.exact x y d).0 (same.0 m), λ m. same.1 ((l.exact x y d).1 m))
    side x y h (no d) =
        let same : x ≡ q = omega arith in
        subst (λ z. InPair laid'' (2 * z) y ↔ Next z y) (sym same) (λ m. there y ((k.here y).0 m), back y)

pub lay-end : (rows laid : List ℕ) (w q states s : ℕ) → states ≤ q → RowsLaid w q rows s laid → RowsLaid w states rows s laid
lay-end rows laid w q states s h l = record { exact = λ x y k. l.exact x y (omega arith) }

-- The lists whose paths end at an offset of a row, one by one.

pub ends-start : (rows ended : List ℕ) (q low high t : ℕ) → Member t 0 ↔ Ends 0 rows ended q (Has low high) t
ends-start rows ended q low high t = (λ m. absurd (member-none t m), λ (v, y, h, c, k, m). absurd (omega arith))

pub ends_some : (rows ended : List ℕ) (q low high alone v : ℕ) → low < 2 ^ 64 → high < 2 ^ 64
    → union (intersection low (slice_index rows (320 + 2 * v))) (intersection high (slice_index rows (320 + 2 * v + 1))) ≢ 0
    → ((t : ℕ) → Member t alone ↔ Ends v rows ended q (Has low high) t)
    → (t : ℕ) → Member t (union alone (slice_index ended (64 * v + q))) ↔ Ends (v + 1) rows ended q (Has low high) t
ends_some rows ended q low high alone v a b d l t = (
  λ m. there ((member_union t alone (slice_index ended (64 * v + q))).0 m),
  λ (u, y, h, c, k, m). (member_union t alone (slice_index ended (64 * v + q))).1 (back u y h c k m (dec_lt u v)),
)
  where
    there : Member t alone ⊎ Member t (slice_index ended (64 * v + q)) → Ends (v + 1) rows ended q (Has low high) t
    there (inl m) = let (u, y, h, c, k, i) = (l t).0 m in (u, y, omega arith, c, k, i)
    there (inr m) = let (y, c, k) = has-meets low high _ _ a b d in (v, y, omega arith, c, k, m)

    back : (u y : ℕ) → u < v + 1 → Has low high y → InPair rows (320 + 2 * u) y → Member t (slice_index ended (64 * u + q)) → Dec (u < v)
        → Member t alone ⊎ Member t (slice_index ended (64 * v + q))
    back u y h c k m (yes e) = inl ((l t).1 (u, y, e, c, k, m))
    back u y h c k m (no e) =
        let same : u ≡ v = omega arith in
        inr (subst (λ z. Member t (slice_index ended (64 * z + q))) same m)

pub ends-none : (rows ended : List ℕ) (q low high alone v : ℕ)
    → union (intersection low (slice_index rows (320 + 2 * v))) (intersection high (slice_index rows (320 + 2 * v + 1))) ≡ 0
    → ((t : ℕ) → Member t alone ↔ Ends v rows ended q (Has low high) t)
    → (t : ℕ) → Member t alone ↔ Ends (v + 1) rows ended q (Has low high) t
ends-none rows ended q low high alone v e l t = (
  λ m. let (u, y, h, c, k, i) = (l t).0 m in (u, y, omega arith, c, k, i),
  λ (u, y, h, c, k, m). (l t).1 (u, y, earlier u y h c k (dec_lt u v), c, k, m),
)
  where
    earlier : (u y : ℕ) → u < v + 1 → Has low high y → InPair rows (320 + 2 * u) y → Dec (u < v) → u < v
    earlier u y h c k (yes d) = d
    earlier u y h c k (no d) =
        let same : u ≡ v = omega arith in
        absurd (has-apart low high _ _ e y c (subst (λ z. InPair rows (320 + 2 * z) y) same k))

-- What a set gains at a place.
pub gained-places : (set set' : List ℕ) (x at : ℕ) → Gains set (x * 2 ^ at) set'
    → (i : ℕ) → Member i (number_of set') ↔ (Member i (number_of set) ⊎ ((i < 1024) × ((z : ℕ) × (i ≡ at + z) × Member z x)))
gained-places set set' x at g i = (
  λ m. there ((member_union i (number_of set) ((x * 2 ^ at) % 2 ^ 1024)).0 (subst (Member i) g m)),
  λ m. subst (Member i) (sym g) ((member_union i (number_of set) ((x * 2 ^ at) % 2 ^ 1024)).1 (back m)),
)
  where
    there : Member i (number_of set) ⊎ Member i ((x * 2 ^ at) % 2 ^ 1024)
        → Member i (number_of set) ⊎ ((i < 1024) × ((z : ℕ) × (i ≡ at + z) × Member z x))
    there (inl m) = inl m
    there (inr m) = let (h, k) = (member-cut 1024 i (x * 2 ^ at)).0 m in inr (h, (member-moved at i x).0 k)

    back : Member i (number_of set) ⊎ ((i < 1024) × ((z : ℕ) × (i ≡ at + z) × Member z x))
        → Member i (number_of set) ⊎ Member i ((x * 2 ^ at) % 2 ^ 1024)
    back (inl m) = inl m
    back (inr (h, k)) = inr ((member-cut 1024 i (x * 2 ^ at)).1 (h, (member-moved at i x).1 k))

-- The two words of a row are put one after the other.
pub row_put : (set set' set'' : List ℕ) (from low high w : ℕ) → low < 2 ^ 64 → 64 < w → w ≤ 128 → from + w ≤ 1024 → high < 2 ^ (w - 64)
    → Gains set (low * 2 ^ from) set' → Gains set' (high * 2 ^ (from + 64)) set'' → RowPut from low high set set''
row_put set set' set'' from low high w small wide few room cut g k =
    record { exact = λ i. (λ m. there i ((gained-places set' set'' high (from + 64) k i).0 m), back i) }
  where
    there : (i : ℕ) → Member i (number_of set') ⊎ ((i < 1024) × ((z : ℕ) × (i ≡ from + 64 + z) × Member z high))
        → Member i (number_of set) ⊎ ((y : ℕ) × Has low high y × (i ≡ from + y))
    there i (inr (h, (z, e, m))) =
        let l = member_below (w - 64) high z cut m in
        inr (64 + z, has-high low high z (omega arith) m, omega arith)
    there i (inl m) = earlier ((gained-places set set' low from g i).0 m)
      where
        earlier : Member i (number_of set) ⊎ ((i < 1024) × ((z : ℕ) × (i ≡ from + z) × Member z low))
            → Member i (number_of set) ⊎ ((y : ℕ) × Has low high y × (i ≡ from + y))
        earlier (inl u) = inl u
        earlier (inr (h, (z, e, u))) = inr (z, has-low low high z (member_below 64 low z small u) u, e)

    back : (i : ℕ) → Member i (number_of set) ⊎ ((y : ℕ) × Has low high y × (i ≡ from + y)) → Member i (number_of set'')
    back i (inl m) = (gained-places set' set'' high (from + 64) k i).1 (inl ((gained-places set set' low from g i).1 (inl m)))
    back i (inr (y, h, e)) = word (has-cases low high y h)
      where
        word : ((y < 64) × Member y low) ⊎ ((z : ℕ) × (z < 64) × (y ≡ 64 + z) × Member z high) → Member i (number_of set'')
        word (inl (l, m)) =
            (gained-places set' set'' high (from + 64) k i).1 (inl ((gained-places set set' low from g i).1 (inr (omega arith, (y, e, m)))))
        word (inr (z, l, f, m)) =
            let c = member_below (w - 64) high z cut m in
            (gained-places set' set'' high (from + 64) k i).1 (inr (omega arith, (z, omega arith, m)))

-- What a set gained, with what it gains for the states left, is what it gains for all.
pub record AloneLeft (w alone : ℕ) (set₀ set : List ℕ) (rest : ℕ) : Type 0 where
  pub sum : (i : ℕ) → (Member i (number_of set) ⊎ ((t : ℕ) × Member t rest × (i ≡ w * t)))
      ↔ (Member i (number_of set₀) ⊎ ((t : ℕ) × Member t alone × (i ≡ w * t)))

pub alone-start : (w alone : ℕ) (set : List ℕ) → AloneLeft w alone set set alone
alone-start w alone set = record { sum = λ i. (λ m. m, λ m. m) }

pub alone-turn : (w alone : ℕ) (set₀ set set' : List ℕ) (rest : ℕ) → rest ≢ 0 → rest < 2 ^ 64 → w * count_trailing_zeros 64 rest < 1024
    → Gains set (1 * 2 ^ (w * count_trailing_zeros 64 rest)) set' → AloneLeft w alone set₀ set rest
    → AloneLeft w alone set₀ set' (bit_and rest (rest - 1))
alone-turn w alone set₀ set set' rest d h room g l =
    record { sum = λ i. (λ m. (l.sum i).0 (there i m), λ m. back i ((l.sum i).1 m)) }
  where
    t : ℕ
    t = count_trailing_zeros 64 rest

    left : ℕ
    left = bit_and rest (rest - 1)

    there : (i : ℕ) → Member i (number_of set') ⊎ ((x : ℕ) × Member x left × (i ≡ w * x))
        → Member i (number_of set) ⊎ ((x : ℕ) × Member x rest × (i ≡ w * x))
    there i (inr (x, m, e)) = inr (x, ((least-left 64 rest d h x).0 m).0, e)
    there i (inl m) = new ((gained-places set set' 1 (w * t) g i).0 m)
      where
        new : Member i (number_of set) ⊎ ((i < 1024) × ((z : ℕ) × (i ≡ w * t + z) × Member z 1))
            → Member i (number_of set) ⊎ ((x : ℕ) × Member x rest × (i ≡ w * x))
        new (inl u) = inl u
        new (inr (k, (z, e, u))) =
            let zero-place : z ≡ 0 = (member-one z 0).0 u in
            inr (t, trailing-here 64 rest d h, omega arith)

    back : (i : ℕ) → Member i (number_of set) ⊎ ((x : ℕ) × Member x rest × (i ≡ w * x))
        → Member i (number_of set') ⊎ ((x : ℕ) × Member x left × (i ≡ w * x))
    back i (inl m) = inl ((gained-places set set' 1 (w * t) g i).1 (inl m))
    back i (inr (x, m, e)) = side (ℕ_discrete x t)
      where
        side : Dec (x ≡ t) → Member i (number_of set') ⊎ ((x : ℕ) × Member x left × (i ≡ w * x))
        side (no f) = inr (x, (least-left 64 rest d h x).1 (m, f), e)
        side (yes f) =
            let same : i ≡ w * t = e ∙ ap (λ z. w * z) f in
            inl ((gained-places set set' 1 (w * t) g i).1 (inr (omega arith, (0, omega arith, (member-one 0 0).1 refl))))

pub alone-end : (w alone : ℕ) (set₀ set : List ℕ) (rest : ℕ) → rest ≡ 0 → AloneLeft w alone set₀ set rest → AlonePut w alone set₀ set
alone-end w alone set₀ set rest e l = record { exact = λ i. (λ m. (l.sum i).0 (inl m), λ m. only i ((l.sum i).1 m)) }
  where
    only : (i : ℕ) → Member i (number_of set) ⊎ ((t : ℕ) × Member t rest × (i ≡ w * t)) → Member i (number_of set)
    only i (inl m) = m
    only i (inr (t, m, f)) = absurd (member-none t (subst (Member t) e m))

-- The rows of the states before q are stepped: their occurrences are in the set, and `alone` are the states reached from them.
pub record RowsWalked (w n a : ℕ) (rows ended laid set : List ℕ) (alone q : ℕ) : Type 0 where
  pub moved : (i : ℕ) → Member i (number_of set) ↔ ((x : ℕ) × (y : ℕ) × (x < q) × Steps a rows laid x y × (i ≡ w * x + y))
  pub ends : (t : ℕ) → Member t alone ↔ ((x : ℕ) × (x < q) × Ends n rows ended x (Steps a rows laid x) t)

module _ (w n a : ℕ) (rows ended laid : List ℕ) where
  pub walked_start : (set : List ℕ) → number_of set ≡ 0 → RowsWalked w n a rows ended laid set 0 0
  walked_start set e =
      record {
        moved = λ i. (λ m. absurd (member-none i (subst (Member i) e m)), λ (x, y, h, c, f). absurd (omega arith));
        ends = λ t. (λ m. absurd (member-none t m), λ (x, h, c). absurd (omega arith));
      }

  -- The words of the row of the state q after the step.
  abbrev pub low_of : ℕ → ℕ
  low_of q = intersection (slice_index laid (2 * q)) (slice_index rows (256 + 2 * a))

  abbrev pub high_of : ℕ → ℕ
  high_of q = intersection (slice_index laid (2 * q + 1)) (slice_index rows (256 + 2 * a + 1))

  row-exactly : (q y : ℕ) → Has (low_of q) (high_of q) y ↔ Steps a rows laid q y
  row-exactly q y = has_both (slice_index laid (2 * q)) (slice_index laid (2 * q + 1)) (slice_index rows (256 + 2 * a)) (slice_index rows (256 + 2 * a + 1)) y

  -- The second word of a row has the offsets from 64 on.
  pub high-below : (states q : ℕ) → LaidWithin w states laid → q < states → 64 < w → high_of q < 2 ^ 64 → high_of q < 2 ^ (w - 64)
  high-below states q within h wide small = members-below (w - 64) (high_of q) λ z m.
      let l = member_below 64 (high_of q) z small m in
      let c = ((row-exactly q (64 + z)).0 (has-high (low_of q) (high_of q) z l m)).0 in
      omega (arith, within q (64 + z) h c)

  pub walked-some : (set set' : List ℕ) (alone q r from : ℕ) → from ≡ w * q → RowPut from (low_of q) (high_of q) set set'
      → ((t : ℕ) → Member t r ↔ Ends n rows ended q (Has (low_of q) (high_of q)) t) → RowsWalked w n a rows ended laid set alone q
      → RowsWalked w n a rows ended laid set' (union alone r) (q + 1)
  walked-some set set' alone q r from place put told l =
      record {
        moved = λ i. (λ m. there i ((put.exact i).0 m), λ (x, y, h, c, e). (put.exact i).1 (back i x y h c e (dec_lt x q)));
        ends = λ t. (
          λ m. ended-there t ((member_union t alone r).0 m),
          λ (x, h, c). (member_union t alone r).1 (ended-back t x h c (dec_lt x q)),
        );
      }
    where
      there : (i : ℕ) → Member i (number_of set) ⊎ ((y : ℕ) × Has (low_of q) (high_of q) y × (i ≡ from + y))
          → (x : ℕ) × (y : ℕ) × (x < q + 1) × Steps a rows laid x y × (i ≡ w * x + y)
      there i (inl m) = let (x, y, h, c, e) = (l.moved i).0 m in (x, y, omega arith, c, e)
      there i (inr (y, c, e)) = (q, y, omega arith, (row-exactly q y).0 c, omega arith)

      back : (i x y : ℕ) → x < q + 1 → Steps a rows laid x y → i ≡ w * x + y → Dec (x < q)
          → Member i (number_of set) ⊎ ((y : ℕ) × Has (low_of q) (high_of q) y × (i ≡ from + y))
      back i x y h c e (yes d) = inl ((l.moved i).1 (x, y, d, c, e))
      back i x y h c e (no d) =
          let same : x ≡ q = omega arith in
          let here : i ≡ w * q + y = e ∙ ap (λ z. w * z + y) same in
          inr (y, (row-exactly q y).1 (subst (λ z. Steps a rows laid z y) same c), omega arith)

      ended-there : (t : ℕ) → Member t alone ⊎ Member t r → (x : ℕ) × (x < q + 1) × Ends n rows ended x (Steps a rows laid x) t
      ended-there t (inl m) = let (x, h, c) = (l.ends t).0 m in (x, omega arith, c)
      ended-there t (inr m) =
          let (v, y, h, c, k, u) = (told t).0 m in
          (q, omega arith, (v, y, h, (row-exactly q y).0 c, k, u))

      ended-back : (t x : ℕ) → x < q + 1 → Ends n rows ended x (Steps a rows laid x) t → Dec (x < q) → Member t alone ⊎ Member t r
      ended-back t x h c (yes d) = inl ((l.ends t).1 (x, d, c))
      ended-back t x h c (no d) =
          let same : x ≡ q = omega arith in
          let (v, y, i, j, k, u) = subst (λ z. Ends n rows ended z (Steps a rows laid z) t) same c in
          inr ((told t).1 (v, y, i, (row-exactly q y).1 j, k, u))

  -- A state whose row is empty after the step.
  pub walked_none : (set : List ℕ) (alone q : ℕ) → union (low_of q) (high_of q) ≡ 0 → RowsWalked w n a rows ended laid set alone q
      → RowsWalked w n a rows ended laid set alone (q + 1)
  walked_none set alone q e l =
      record {
        moved = λ i. (
          λ m. let (x, y, h, c, f) = (l.moved i).0 m in (x, y, omega arith, c, f),
          λ (x, y, h, c, f). (l.moved i).1 (x, y, earlier x y h c (dec_lt x q), c, f),
        );
        ends = λ t. (
          λ m. let (x, h, c) = (l.ends t).0 m in (x, omega arith, c),
          λ (x, h, (v, y, i, c, k, u)). (l.ends t).1 (x, earlier x y h c (dec_lt x q), (v, y, i, c, k, u)),
        );
      }
    where
      earlier : (x y : ℕ) → x < q + 1 → Steps a rows laid x y → Dec (x < q) → x < q
      earlier x y h c (yes d) = d
      earlier x y h c (no d) =
          let same : x ≡ q = omega arith in
          absurd (has-apart (slice_index laid (2 * q)) (slice_index laid (2 * q + 1)) (slice_index rows (256 + 2 * a)) (slice_index rows (256 + 2 * a + 1)) e y
          (subst (λ z. InPair laid (2 * z) y) same c.0) c.1)

  -- The states alone stand below all places.
  pub alone-room : (states q alone : ℕ) (set : List ℕ) → EndedWithin states n ended → q ≤ states → states * w ≤ 1024 → 0 < w
      → RowsWalked w n a rows ended laid set alone q → (t : ℕ) → Member t alone → w * t < 1024
  alone-room states q alone set within h room some l t m =
      let (x, k, (v, y, i, c, j, u)) = (l.ends t).0 m in
      omega (arith, split_below w states t 0 some (within x v t (omega arith) i u))

  pub walked_end : (states q alone : ℕ) (set set' : List ℕ) → q ≡ states → RowsWalked w n a rows ended laid set alone q
      → AlonePut w alone set set' → RowsStepped w states n a rows ended laid (number_of set')
  walked_end states q alone set set' same l put =
      record { exact = λ i. (λ m. there i ((put.exact i).0 m), λ m. (put.exact i).1 (back i m)) }
    where
      there : (i : ℕ) → Member i (number_of set) ⊎ ((t : ℕ) × Member t alone × (i ≡ w * t))
          → ((x : ℕ) × (y : ℕ) × (x < states) × Steps a rows laid x y × (i ≡ w * x + y))
          ⊎ ((x : ℕ) × (t : ℕ) × (x < states) × Ends n rows ended x (Steps a rows laid x) t × (i ≡ w * t))
      there i (inl m) = let (x, y, h, c, e) = (l.moved i).0 m in inl (x, y, omega arith, c, e)
      there i (inr (t, m, e)) = let (x, h, c) = (l.ends t).0 m in inr (x, t, omega arith, c, e)

      back : (i : ℕ) → ((x : ℕ) × (y : ℕ) × (x < states) × Steps a rows laid x y × (i ≡ w * x + y))
          ⊎ ((x : ℕ) × (t : ℕ) × (x < states) × Ends n rows ended x (Steps a rows laid x) t × (i ≡ w * t))
          → Member i (number_of set) ⊎ ((t : ℕ) × Member t alone × (i ≡ w * t))
      back i (inl (x, y, h, c, e)) = inl ((l.moved i).1 (x, y, omega arith, c, e))
      back i (inr (x, t, h, c, e)) = inr (t, (l.ends t).1 (x, omega arith, c), e)

  -- The set after the step has no places from states × w on.
  pub stepped-below : (states r : ℕ) → LaidWithin w states laid → EndedWithin states n ended → 0 < w
      → RowsStepped w states n a rows ended laid r → r < 2 ^ (states * w)
  stepped-below states r laid-within ended-within some l = members-below (states * w) r λ i m. side i ((l.exact i).0 m)
    where
      side : (i : ℕ) → ((x : ℕ) × (y : ℕ) × (x < states) × Steps a rows laid x y × (i ≡ w * x + y))
          ⊎ ((x : ℕ) × (t : ℕ) × (x < states) × Ends n rows ended x (Steps a rows laid x) t × (i ≡ w * t)) → i < states * w
      side i (inl (x, y, h, c, e)) = omega (arith, split_below w states x y (laid-within x y h c.0).1 h)
      side i (inr (x, t, h, (v, y, k, c, j, u), e)) = omega (arith, split_below w states t 0 some (ended-within x v t h k u))
