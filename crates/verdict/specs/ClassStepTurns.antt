-- The loop of a step by classes over the classes that the label enters (Classes): what it keeps, and that it ends in the columns after the step.
use Rattle.std.specs.Prelude.{◌≡◌, ℕ, ◌+◌, ◌-◌, ◌*◌, ◌/◌, ◌^◌, ◌<◌, ◌≤◌, ◌≢◌, ◌⊎◌, ◌↔◌, List, length, bit_and, slice_index}
use Rattle.std.proofs.Common.{inl, inr, sym, ap, ◌∙◌, subst, arith}
use Rattle.std.specs.Prelude.{refl}
use Rattle.std.proofs.Math.Decide.{dec_lt}
use Rattle.std.specs.Int.Bits.{or_zero_l, or_zero_r}
use Rattle.std.specs.Int.Count.{count_trailing_zeros}
use Rattle.theory.specs.Places.{Member, union, union_over}
use Rattle.theory.specs.PlacesLaws.{member-none, member_below, members-below, member_union, member-union_over, dec_member}
use Rattle.places.specs.NextPlace.{trailing-here}
use Rattle.places.specs.Followed.{Passed, passed_none, passed-turn, passed-all, rest-within}
use Rattle.places.specs.Joined.{joined}
use Rattle.verdict.specs.Columns.{StatesWithin}
use Rattle.verdict.specs.Sums.{quarters, SummedBy, SumsJoined}
use Rattle.verdict.specs.SumsLaws.{left-start, left_end, quarters-below}
use Rattle.verdict.specs.Classes.{MergedWithin, SumsWithin, ClassStepped}
use Rattle.verdict.specs.TurnedColumns.{Puts}

-- The states alone that are reached from the states of a class; none where it has no sums.
pub record EndedClass (ended : List ℕ) (sums states r : ℕ) : Type 0 where
  pub none : sums ≡ 0 → r ≡ 0
  pub some : 0 < sums → SumsJoined ended sums states r

-- From no states none is reached.
ended-none : (ended : List ℕ) (sums : ℕ) → EndedClass ended sums 0 0
ended-none ended sums =
    record { none = λ e. refl; some = λ h. left_end ended sums 0 0 0 sums (left-start ended sums 0 (omega arith)) refl }

module _ (n a k : ℕ) (merged ended columns : List ℕ) where
  -- The classes that the label enters, and the states of a class after a step that enters it.

  abbrev pub entered_by : ℕ
  entered_by = slice_index merged (64 + a)

  abbrev pub class_column : ℕ → ℕ
  class_column c = joined columns 0 1 (slice_index merged c)

  -- The sums of each class that has some are of its words.
  abbrev pub SummedAll : (ℕ → ℕ → ℕ) → Type 0
  SummedAll word = (c : ℕ) → 0 < c → c < k → 0 < slice_index ended c → SummedBy (word c) (slice_index ended c) (quarters n) ended

  -- The state t is reached from the class c.
  abbrev pub ReachedAt : (ℕ → ℕ → ℕ) → ℕ → ℕ → Type 0
  ReachedAt word c t = (0 < slice_index ended c) × ((q : ℕ) × Member q (class_column c) × Member t (word c q))

  -- The classes of `rest` are left: those before have their columns, all others none.
  pub record ClassesLeft (next : ℕ → ℕ) (alone rest : ℕ) : Type 0 where
    pub within : (c : ℕ) → Member c rest → Member c entered_by
    pub done : (c : ℕ) → Passed entered_by rest c → next c ≡ class_column c
    pub left : (c : ℕ) → ¬ Passed entered_by rest c → next c ≡ 0
    pub alone-within : (t : ℕ) → Member t alone → t < n
    pub alone-exact : (word : ℕ → ℕ → ℕ) → SummedAll word → (t : ℕ)
        → Member t alone ↔ ((c : ℕ) × Passed entered_by rest c × ReachedAt word c t)

  pub classes-start : (next : ℕ → ℕ) → ((c : ℕ) → next c ≡ 0) → ClassesLeft next 0 entered_by
  classes-start next zeros =
      record {
        within = λ c m. m;
        done = λ c p. absurd (passed_none entered_by c p);
        left = λ c d. zeros c;
        alone-within = λ t m. absurd (member-none t m);
        alone-exact = λ word s t. (λ m. absurd (member-none t m), λ (c, p, r). absurd (passed_none entered_by c p));
      }

  -- The states of an entered class.
  pub member-class : MergedWithin a k merged → k ≤ 64 → (c q : ℕ) → Member c entered_by
      → Member q (class_column c) ↔ ((d : ℕ) × Member d (slice_index merged c) × Member q (slice_index columns d))
  member-class within few c q m = (
    λ x.
        let (d, l, i, j) = (member-union_over (λ p. slice_index columns (1 * p + 0)) 64 (slice_index merged c) q).0 x in
        let e : 1 * d + 0 ≡ d = omega arith in
        (d, i, subst (λ (z : ℕ). Member q (slice_index columns z)) e j),
    λ (d, i, j).
        let e : d ≡ 1 * d + 0 = omega arith in
        (member-union_over (λ p. slice_index columns (1 * p + 0)) 64 (slice_index merged c) q).1
        (d, omega (arith, within.led c d m i), i, subst (λ (z : ℕ). Member q (slice_index columns z)) e j),
  )

  pub class-small : MergedWithin a k merged → StatesWithin k n columns → k ≤ 64 → (c : ℕ) → Member c entered_by → class_column c < 2 ^ n
  class-small within states few c m =
      members-below n (class_column c) λ q x.
      let (d, i, j) = (member-class within few c q m).0 x in
      states q d (within.led c d m i) j

  -- The least class left is an entered one.
  pub least-entered : (next : ℕ → ℕ) (alone rest : ℕ) → ClassesLeft next alone rest → rest ≢ 0 → rest < 2 ^ 64
      → Member (count_trailing_zeros 64 rest) entered_by
  least-entered next alone rest s d h = s.within (count_trailing_zeros 64 rest) (trailing-here 64 rest d h)

  -- The sums of the states of an entered class have room.
  pub sums-inside : MergedWithin a k merged → StatesWithin k n columns → k ≤ 64 → SumsWithin n k ended → (c : ℕ) → Member c entered_by
      → 0 < slice_index ended c → (q : ℕ) → Member q (class_column c) → slice_index ended c + 32 * (q / 8) + 32 ≤ length ended
  sums-inside within states few sums c m some q x =
      let (i, j) = within.entered c m in
      omega (arith, sums.room c i j some, member_below n (class_column c) q (class-small within states few c m) x)

  module _ (within : MergedWithin a k merged) (states : StatesWithin k n columns) (few : k ≤ 64) where
    pub classes-turn : n ≤ 64 → SumsWithin n k ended → (next next' : ℕ → ℕ) (alone rest y z : ℕ) → ClassesLeft next alone rest → rest ≢ 0
        → rest < 2 ^ 64 → y ≡ class_column (count_trailing_zeros 64 rest) → EndedClass ended (slice_index ended (count_trailing_zeros 64 rest)) y z
        → Puts (count_trailing_zeros 64 rest) y next next' → ClassesLeft next' (union alone z) (bit_and rest (rest - 1))
    classes-turn word_wide sums next next' alone rest y z s d h e ends put =
        record {
          within = rest-within entered_by rest s.within d h;
          done = λ c p. done c ((passed c).0 p);
          left = λ c q.
              put.others c (λ f. q ((passed c).1 (inr f))) ∙ s.left c (λ p. q ((passed c).1 (inl p)));
          alone-within = λ t m. within-side t ((member_union t alone z).0 m);
          alone-exact = λ word w t. (
            λ m. there word w t ((member_union t alone z).0 m),
            λ (c, p, r). (member_union t alone z).1 (back word w t c r ((passed c).0 p)),
          );
        }
      where
        b : ℕ
        b = count_trailing_zeros 64 rest

        entered : Member b entered_by
        entered = least-entered next alone rest s d h

        low : 0 < b
        low = (within.entered b entered).0

        high : b < k
        high = (within.entered b entered).1

        small : y < 2 ^ n
        small = subst (λ x. x < 2 ^ n) (sym e) (class-small within states few b entered)

        passed : (c : ℕ) → Passed entered_by (bit_and rest (rest - 1)) c ↔ (Passed entered_by rest c ⊎ (c ≡ b))
        passed = passed-turn entered_by rest s.within d h

        waiting : next b ≡ 0
        waiting = s.left b (λ p. p.1 (trailing-here 64 rest d h))

        done : (c : ℕ) → Passed entered_by rest c ⊎ (c ≡ b) → next' c ≡ class_column c
        done c (inl p) =
            put.others c (λ f. p.1 (subst (λ x. Member x rest) (sym f) (trailing-here 64 rest d h))) ∙ s.done c p
        done c (inr f) =
            subst (λ x. next' x ≡ class_column x) (sym f) (put.here ∙ ap (λ x. union x y) waiting ∙ or_zero_l y ∙ e)

        -- What the class has reached.

        has-sums : (t : ℕ) → Member t z → Dec (0 < slice_index ended b) → 0 < slice_index ended b
        has-sums t m (yes i) = i
        has-sums t m (no i) = absurd (member-none t (subst (Member t) (ends.none (omega arith)) m))

        within-side : (t : ℕ) → Member t alone ⊎ Member t z → t < n
        within-side t (inl m) = s.alone-within t m
        within-side t (inr m) =
            let some = has-sums t m (dec_lt 0 (slice_index ended b)) in
            let (q, j, i, x, l, p, o) = (ends.some some).inside t m in
            sums.within b j i t low high some (omega (arith, member_below n y q small x)) p o

        joined_by : (word : ℕ → ℕ → ℕ) → SummedAll word → 0 < slice_index ended b → z ≡ union_over (word b) 64 y
        joined_by word w some = (ends.some some).exact (word b) (quarters n) (omega arith) (w b low high some) (quarters-below n y small)

        there : (word : ℕ → ℕ → ℕ) → SummedAll word → (t : ℕ) → Member t alone ⊎ Member t z
            → (c : ℕ) × Passed entered_by (bit_and rest (rest - 1)) c × ReachedAt word c t
        there word w t (inl m) = let (c, p, r) = (s.alone-exact word w t).0 m in (c, (passed c).1 (inl p), r)
        there word w t (inr m) =
            let some = has-sums t m (dec_lt 0 (slice_index ended b)) in
            let (q, l, i, j) = (member-union_over (word b) 64 y t).0 (subst (Member t) (joined_by word w some) m) in
            (b, (passed b).1 (inr refl), (some, (q, subst (Member q) e i, j)))

        back : (word : ℕ → ℕ → ℕ) → SummedAll word → (t c : ℕ) → ReachedAt word c t → Passed entered_by rest c ⊎ (c ≡ b)
            → Member t alone ⊎ Member t z
        back word w t c r (inl p) = inl ((s.alone-exact word w t).1 (c, p, r))
        back word w t c r (inr f) = inr (last (subst (λ x. ReachedAt word x t) f r))
          where
            last : ReachedAt word b t → Member t z
            last (some, (q, i, j)) =
                let i' : Member q y = subst (Member q) (sym e) i in
                subst (Member t) (sym (joined_by word w some))
                ((member-union_over (word b) 64 y t).1 (q, omega (arith, member_below n y q small i'), i', j))

    -- A class without states is passed over.
    pub classes-pass : n ≤ 64 → SumsWithin n k ended → (next : ℕ → ℕ) (alone rest : ℕ) → ClassesLeft next alone rest → rest ≢ 0
        → rest < 2 ^ 64 → 0 ≡ class_column (count_trailing_zeros 64 rest) → ClassesLeft next alone (bit_and rest (rest - 1))
    classes-pass word_wide sums next alone rest s d h e =
        subst (λ (z : ℕ). ClassesLeft next z (bit_and rest (rest - 1))) (or_zero_r alone)
        (classes-turn word_wide sums next next alone rest 0 0 s d h e (ended-none ended (slice_index ended (count_trailing_zeros 64 rest)))
        (record { here = sym (or_zero_r (next (count_trailing_zeros 64 rest))); others = λ x f. refl }))

    pub classes-end : (next next' : ℕ → ℕ) (alone rest : ℕ) → ClassesLeft next alone rest → rest ≡ 0 → Puts 0 alone next next'
        → ClassStepped n a k merged ended columns next'
    classes-end next next' alone rest s e put =
        record {
          moved = λ c q i j. (
            λ m. there c q i (dec_member c entered_by) m,
            λ (m, f). subst (Member q) (sym (column c i m)) ((member-class within few c q m).1 f),
          );
          alone = λ word w t. (
            λ m.
                let (c, p, (some, (q, x, y))) = (s.alone-exact word w t).0 (subst (Member t) first m) in
                let (i, j) = within.entered c p.0 in
                (c, q, i, j, some, subst (Member q) (sym (column c i p.0)) x, y),
            λ (c, q, i, j, some, x, y).
                let m = (there c q i (dec_member c entered_by) x).0 in
                subst (Member t) (sym first) ((s.alone-exact word w t).1
                (c, (passed-all entered_by rest e c).1 m, (some, (q, subst (Member q) (column c i m) x, y)))),
          );
        }
      where
        not-passed : (c : ℕ) → ¬ Member c entered_by → next c ≡ 0
        not-passed c d = s.left c (λ p. d p.0)

        first : next' 0 ≡ alone
        first = put.here ∙ ap (λ x. union x alone) (not-passed 0 (λ m. omega (arith, (within.entered 0 m).0))) ∙ or_zero_l alone

        column : (c : ℕ) → 0 < c → Member c entered_by → next' c ≡ class_column c
        column c i m = put.others c (λ z. omega arith) ∙ s.done c ((passed-all entered_by rest e c).1 m)

        there : (c q : ℕ) → 0 < c → Dec (Member c entered_by) → Member q (next' c)
            → Member c entered_by × ((d : ℕ) × Member d (slice_index merged c) × Member q (slice_index columns d))
        there c q i (yes m) x = (m, (member-class within few c q m).0 (subst (Member q) (column c i m) x))
        there c q i (no d) x =
            absurd (member-none q (subst (Member q) (put.others c (λ z. omega arith) ∙ not-passed c d) x))

    -- There are no columns from k on.
    pub classes-none : (next next' : ℕ → ℕ) (alone rest : ℕ) → 0 < k → ClassesLeft next alone rest → Puts 0 alone next next'
        → (x : ℕ) → k ≤ x → next' x ≡ 0
    classes-none next next' alone rest some s put x h =
        put.others x (λ z. omega arith) ∙ s.left x (λ p. omega (arith, (within.entered x p.0).1))
