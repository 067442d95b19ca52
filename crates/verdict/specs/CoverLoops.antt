-- What the loops over the lists keep, and what one turn of each does: what is left gives what the whole gives.
use Rattle.std.specs.Prelude.{◌≡◌, ℕ, suc, ◌+◌, ◌-◌, ◌*◌, ◌%◌, ◌^◌, ◌<◌, ◌≤◌, List, length, slice_index}
use Rattle.std.specs.Prelude.{refl}
use Rattle.std.proofs.Common.{sym, ap, ◌∙◌, zero-mul, arith, below_more}
use Rattle.std.specs.Int.Bits.{or_zero_r}
use Rattle.theory.specs.Places.{member, one, union, when}
use Rattle.places.specs.UnionLaws.{union-up}
use Rattle.places.specs.Words.{number_of}
use Rattle.verdict.specs.Cover.{entered, moved_within, passed, finished}
use Rattle.verdict.specs.Tables.{automata_from, automata_of, occupied, rewritten, Counted}
use Rattle.verdict.specs.CoverSteps.{twice-up, joined-parts, step_at, entered-next, moved_here, moved-next, finished-here, finished-next, passed-next}
use Rattle.verdict.specs.CoverTold.{Gains, Moving, Entered, MovedWithin, Passed, Finished, WidthTold}

-- Nothing is gained.
pub gains-none : (set : List ℕ) (x : ℕ) → x ≡ 0 → Gains set x set
gains-none set x e = sym (ap (λ y. union (number_of set) (y % 2 ^ 1024)) e ∙ or_zero_r (number_of set))

-- One turn of a loop that gains x first and y in the turns that are left.
pub gains-turn : (set set' : List ℕ) (x y z : ℕ) → z ≡ union x y → Gains set x set'
    → union (number_of set') (y % 2 ^ 1024) ≡ union (number_of set) (z % 2 ^ 1024)
gains-turn set set' x y z e g =
    ap (λ s. union s (y % 2 ^ 1024)) g ∙ sym (joined-parts 1024 (number_of set) x y) ∙ ap (λ t. union (number_of set) (t % 2 ^ 1024)) (sym e)

-- The lists that a label enters.

pub record EnteredLeft (n a : ℕ) (follow enter sizes : List ℕ) (from : ℕ) (set₀ set : List ℕ) (base v : ℕ) : Type 0 where
  pub inside : v ≤ n
  pub low : base ≤ 63 * v
  pub left : (accepting : List ℕ)
      → union (number_of set) ((entered (automata_from follow enter sizes accepting v (n - v)) base a * 2 ^ from) % 2 ^ 1024)
      ≡ union (number_of set₀) ((entered (automata_of follow enter sizes accepting n) 0 a * 2 ^ from) % 2 ^ 1024)

pub entered-start : (n a : ℕ) (follow enter sizes : List ℕ) (from : ℕ) (set : List ℕ) → EnteredLeft n a follow enter sizes from set set 0 0
entered-start n a follow enter sizes from set =
    record {
      inside = omega arith;
      low = omega arith;
      left = λ accepting.
          let e : n - 0 ≡ n = omega arith in
          ap (λ m. union (number_of set) ((entered (automata_from follow enter sizes accepting 0 m) 0 a * 2 ^ from) % 2 ^ 1024)) e;
    }

pub entered-turn : (n a : ℕ) (follow enter sizes : List ℕ) (w from : ℕ) (set₀ set set' : List ℕ) (base v : ℕ)
    → Moving n a follow enter sizes w → v < n → EnteredLeft n a follow enter sizes from set₀ set base v
    → Gains set (step_at follow enter v 0 a * 2 ^ (from + base)) set'
    → EnteredLeft n a follow enter sizes from set₀ set' (base + slice_index sizes (v + 1)) (v + 1)
entered-turn n a follow enter sizes w from set₀ set set' base v p h s g =
    record {
      inside = omega arith;
      low = omega (arith, s.low, p.counted.small v h);
      left = λ accepting. turn accepting ∙ s.left accepting;
    }
  where
    turn : (accepting : List ℕ)
        → union (number_of set') ((entered (automata_from follow enter sizes accepting (v + 1) (n - (v + 1))) (base + slice_index sizes (v + 1)) a * 2 ^ from) % 2 ^ 1024)
        ≡ union (number_of set) ((entered (automata_from follow enter sizes accepting v (n - v)) base a * 2 ^ from) % 2 ^ 1024)
    turn accepting =
        let rest = entered (automata_from follow enter sizes accepting (v + 1) (n - (v + 1))) (base + slice_index sizes (v + 1)) a in
        let m : suc (n - (v + 1)) ≡ n - v = omega arith in
        gains-turn set set' (step_at follow enter v 0 a * 2 ^ (from + base)) (rest * 2 ^ from)
        (entered (automata_from follow enter sizes accepting v (n - v)) base a * 2 ^ from)
        (ap (λ k. entered (automata_from follow enter sizes accepting v k) base a * 2 ^ from) (sym m)
        ∙ ap (λ x. x * 2 ^ from) (entered-next follow enter sizes accepting n p.counted p.follow-room v (n - (v + 1)) base a h p.label)
        ∙ union-up from (step_at follow enter v 0 a * 2 ^ base) rest
        ∙ ap (λ x. union x (rest * 2 ^ from)) (twice-up (step_at follow enter v 0 a) base from)) g

pub entered-end : (n a : ℕ) (follow enter sizes : List ℕ) (from : ℕ) (set₀ set : List ℕ) (base v : ℕ)
    → n ≤ v → EnteredLeft n a follow enter sizes from set₀ set base v → Entered n a follow enter sizes from set₀ set
unfolding entered automata_from
entered-end n a follow enter sizes from set₀ set base v h s =
    record {
      gains = λ accepting.
          let e : n - v ≡ 0 = omega arith in
          gains-none set (0 * 2 ^ from) (zero-mul (2 ^ from))
          ∙ sym (ap (λ m. union (number_of set) ((entered (automata_from follow enter sizes accepting v m) base a * 2 ^ from) % 2 ^ 1024)) e)
          ∙ s.left accepting;
    }

-- The list that an occurrence belongs to.

pub record WithinLeft (n a : ℕ) (follow enter sizes : List ℕ) (o base rest v : ℕ) : Type 0 where
  pub inside : v ≤ n
  pub low : base ≤ 63 * v
  pub left : (accepting : List ℕ)
      → moved_within (automata_from follow enter sizes accepting v (n - v)) base rest a ≡ moved_within (automata_of follow enter sizes accepting n) 0 o a

pub within-start : (n a : ℕ) (follow enter sizes : List ℕ) (o : ℕ) → WithinLeft n a follow enter sizes o 0 o 0
within-start n a follow enter sizes o =
    record {
      inside = omega arith;
      low = omega arith;
      left = λ accepting. let e : n - 0 ≡ n = omega arith in ap (λ m. moved_within (automata_from follow enter sizes accepting 0 m) 0 o a) e;
    }

pub within-turn : (n a : ℕ) (follow enter sizes : List ℕ) (w o base rest v : ℕ) → Moving n a follow enter sizes w → v < n
    → slice_index sizes (v + 1) < rest → WithinLeft n a follow enter sizes o base rest v
    → WithinLeft n a follow enter sizes o (base + slice_index sizes (v + 1)) (rest - slice_index sizes (v + 1)) (v + 1)
within-turn n a follow enter sizes w o base rest v p h k s =
    record {
      inside = omega arith;
      low = omega (arith, s.low, p.counted.small v h);
      left = λ accepting.
          let m : suc (n - (v + 1)) ≡ n - v = omega arith in
          sym (moved-next follow enter sizes accepting n p.counted p.follow-room v (n - (v + 1)) base rest a h k)
          ∙ ap (λ x. moved_within (automata_from follow enter sizes accepting v x) base rest a) m
          ∙ s.left accepting;
    }

pub within-here : (n a : ℕ) (follow enter sizes : List ℕ) (w from o base rest v : ℕ) (set set' : List ℕ) → Moving n a follow enter sizes w
    → v < n → rest ≤ slice_index sizes (v + 1) → WithinLeft n a follow enter sizes o base rest v
    → Gains set (step_at follow enter v rest a * 2 ^ (from + base)) set' → MovedWithin n a follow enter sizes from o set set'
within-here n a follow enter sizes w from o base rest v set set' p h k s g =
    record {
      gains = λ accepting.
          let m : suc (n - (v + 1)) ≡ n - v = omega arith in
          g ∙ ap (λ x. union (number_of set) (x % 2 ^ 1024)) (sym (twice-up (step_at follow enter v rest a) base from)
          ∙ ap (λ x. x * 2 ^ from) (sym (moved_here follow enter sizes accepting n p.counted p.follow-room v (n - (v + 1)) base rest a h p.label k)
          ∙ ap (λ x. moved_within (automata_from follow enter sizes accepting v x) base rest a) m
          ∙ s.left accepting));
    }

pub within_end : (n a : ℕ) (follow enter sizes : List ℕ) (from o base rest v : ℕ) (set : List ℕ) → n ≤ v
    → WithinLeft n a follow enter sizes o base rest v → MovedWithin n a follow enter sizes from o set set
unfolding moved_within automata_from
within_end n a follow enter sizes from o base rest v set h s =
    record {
      gains = λ accepting.
          let e : n - v ≡ 0 = omega arith in
          gains-none set (moved_within (automata_of follow enter sizes accepting n) 0 o a * 2 ^ from)
          (ap (λ x. x * 2 ^ from) (sym (s.left accepting) ∙ ap (λ m. moved_within (automata_from follow enter sizes accepting v m) base rest a) e)
          ∙ zero-mul (2 ^ from));
    }

-- The lists with the empty path.

pub record PassedLeft (n : ℕ) (accepting table : List ℕ) (w q : ℕ) (set₀ set : List ℕ) (v : ℕ) : Type 0 where
  pub inside : v ≤ n
  pub left : (states : ℕ) (flags follow enter sizes : List ℕ)
      → union (number_of set) (passed (rewritten states table flags) w (automata_from follow enter sizes accepting v (n - v)) v q % 2 ^ 1024)
      ≡ union (number_of set₀) (passed (rewritten states table flags) w (automata_of follow enter sizes accepting n) 0 q % 2 ^ 1024)

-- The state reached where the list v may end at its place o.
abbrev pub end_at : List ℕ → List ℕ → ℕ → ℕ → ℕ → ℕ → ℕ
end_at accepting table w v o q = when (member o (slice_index accepting (v + 1))) (one (w * slice_index table (16 * q + v)))

pub passed_start : (n : ℕ) (accepting table : List ℕ) (w q : ℕ) (set : List ℕ) → PassedLeft n accepting table w q set set 0
passed_start n accepting table w q set =
    record {
      inside = omega arith;
      left = λ states flags follow enter sizes.
          let e : n - 0 ≡ n = omega arith in
          ap (λ m. union (number_of set) (passed (rewritten states table flags) w (automata_from follow enter sizes accepting 0 m) 0 q % 2 ^ 1024)) e;
    }

pub passed-turn : (n : ℕ) (accepting table : List ℕ) (w q : ℕ) (set₀ set set' : List ℕ) (v : ℕ) → v < n
    → PassedLeft n accepting table w q set₀ set v → Gains set (end_at accepting table w v 0 q) set'
    → PassedLeft n accepting table w q set₀ set' (v + 1)
passed-turn n accepting table w q set₀ set set' v h s g =
    record {
      inside = omega arith;
      left = λ states flags follow enter sizes.
          let m : suc (n - (v + 1)) ≡ n - v = omega arith in
          gains-turn set set' (end_at accepting table w v 0 q)
          (passed (rewritten states table flags) w (automata_from follow enter sizes accepting (v + 1) (n - (v + 1))) (v + 1) q)
          (passed (rewritten states table flags) w (automata_from follow enter sizes accepting v (n - v)) v q)
          (ap (λ k. passed (rewritten states table flags) w (automata_from follow enter sizes accepting v k) v q) (sym m)
          ∙ passed-next follow enter sizes accepting (rewritten states table flags) w v (n - (v + 1)) q) g
          ∙ s.left states flags follow enter sizes;
    }

pub passed-end : (n : ℕ) (accepting table : List ℕ) (w q : ℕ) (set₀ set : List ℕ) (v : ℕ) → n ≤ v
    → PassedLeft n accepting table w q set₀ set v → Passed n accepting table w q set₀ set
unfolding passed automata_from
passed-end n accepting table w q set₀ set v h s =
    record {
      gains = λ states flags follow enter sizes.
          let e : n - v ≡ 0 = omega arith in
          gains-none set 0 refl
          ∙ sym (ap (λ m. union (number_of set)
          (passed (rewritten states table flags) w (automata_from follow enter sizes accepting v m) v q % 2 ^ 1024)) e)
          ∙ s.left states flags follow enter sizes;
    }

-- The list that ends.

pub record FinishedLeft (n : ℕ) (sizes accepting table : List ℕ) (w o q rest v : ℕ) : Type 0 where
  pub inside : v ≤ n
  pub left : (states : ℕ) (flags follow enter : List ℕ) → 64 * n + 64 ≤ length follow
      → finished (rewritten states table flags) w (automata_from follow enter sizes accepting v (n - v)) v rest q
      ≡ finished (rewritten states table flags) w (automata_of follow enter sizes accepting n) 0 o q

pub finished-start : (n : ℕ) (sizes accepting table : List ℕ) (w o q : ℕ) → FinishedLeft n sizes accepting table w o q o 0
finished-start n sizes accepting table w o q =
    record {
      inside = omega arith;
      left = λ states flags follow enter room.
          let e : n - 0 ≡ n = omega arith in
          ap (λ m. finished (rewritten states table flags) w (automata_from follow enter sizes accepting 0 m) 0 o q) e;
    }

pub finished-turn : (n : ℕ) (sizes accepting table : List ℕ) (w o q rest v : ℕ) → Counted n sizes → v < n → slice_index sizes (v + 1) < rest
    → FinishedLeft n sizes accepting table w o q rest v → FinishedLeft n sizes accepting table w o q (rest - slice_index sizes (v + 1)) (v + 1)
finished-turn n sizes accepting table w o q rest v p h k s =
    record {
      inside = omega arith;
      left = λ states flags follow enter room.
          let m : suc (n - (v + 1)) ≡ n - v = omega arith in
          sym (finished-next follow enter sizes accepting n p room (rewritten states table flags) w v (n - (v + 1)) rest q h k)
          ∙ ap (λ x. finished (rewritten states table flags) w (automata_from follow enter sizes accepting v x) v rest q) m
          ∙ s.left states flags follow enter room;
    }

pub finished-at : (n : ℕ) (sizes accepting table : List ℕ) (w o q rest v : ℕ) (set set' : List ℕ) → Counted n sizes → v < n
    → rest ≤ slice_index sizes (v + 1) → FinishedLeft n sizes accepting table w o q rest v → Gains set (end_at accepting table w v rest q) set'
    → Finished n sizes accepting table w o q set set'
finished-at n sizes accepting table w o q rest v set set' p h k s g =
    record {
      gains = λ states flags follow enter room.
          let m : suc (n - (v + 1)) ≡ n - v = omega arith in
          g ∙ ap (λ x. union (number_of set) (x % 2 ^ 1024))
          (sym (finished-here follow enter sizes accepting n p room (rewritten states table flags) w v (n - (v + 1)) rest q h k)
          ∙ ap (λ x. finished (rewritten states table flags) w (automata_from follow enter sizes accepting v x) v rest q) m
          ∙ s.left states flags follow enter room);
    }

pub finished-end : (n : ℕ) (sizes accepting table : List ℕ) (w o q rest v : ℕ) (set : List ℕ) → n ≤ v
    → FinishedLeft n sizes accepting table w o q rest v → Finished n sizes accepting table w o q set set
unfolding finished automata_from
finished-end n sizes accepting table w o q rest v set h s =
    record {
      gains = λ states flags follow enter room.
          let e : n - v ≡ 0 = omega arith in
          gains-none set (finished (rewritten states table flags) w (automata_of follow enter sizes accepting n) 0 o q)
          (sym (s.left states flags follow enter room)
          ∙ ap (λ m. finished (rewritten states table flags) w (automata_from follow enter sizes accepting v m) v rest q) e);
    }

-- The width.

pub record WidthLeft (n : ℕ) (sizes : List ℕ) (w v : ℕ) : Type 0 where
  pub inside : v ≤ n
  pub some : 0 < w
  pub low : w ≤ 1 + 63 * v
  pub small : (u : ℕ) → u < v → slice_index sizes (u + 1) ≤ 63
  pub left : w + occupied sizes v (n - v) ≡ suc (occupied sizes 0 n)

pub width-start : (n : ℕ) (sizes : List ℕ) → WidthLeft n sizes 1 0
width-start n sizes =
    record {
      inside = omega arith;
      some = omega arith;
      low = omega arith;
      small = λ u h. absurd (omega arith);
      left = let e : n - 0 ≡ n = omega arith in omega (arith, ap (occupied sizes 0) e);
    }

pub width-turn : (n : ℕ) (sizes : List ℕ) (w v : ℕ) → v < n → slice_index sizes (v + 1) ≤ 63 → WidthLeft n sizes w v
    → WidthLeft n sizes (w + slice_index sizes (v + 1)) (v + 1)
unfolding occupied
width-turn n sizes w v h k s =
    record {
      inside = omega arith;
      some = omega (arith, s.some);
      low = omega (arith, s.low);
      small = below_more (λ u. slice_index sizes (u + 1) ≤ 63) v s.small k;
      left =
          let m : n - v ≡ suc (n - (v + 1)) = omega arith in
          let t : occupied sizes v (n - v) ≡ slice_index sizes (v + 1) + occupied sizes (v + 1) (n - (v + 1)) = ap (occupied sizes v) m in
          omega (arith, s.left);
    }

pub width-end : (n : ℕ) (sizes : List ℕ) (w v : ℕ) → n ≤ 16 → n < length sizes → n ≤ v → WidthLeft n sizes w v → WidthTold n sizes w
unfolding occupied
width-end n sizes w v few room h s =
    let m : n - v ≡ 0 = omega arith in
    let t : occupied sizes v (n - v) ≡ 0 = ap (occupied sizes v) m in
    let e : w ≡ suc (occupied sizes 0 n) = omega (arith, s.left) in
    record {
      counted = λ k. record { few = few; room = room; small = λ u l. s.small u (omega arith) };
      exact = λ k. e;
      complete = λ k. e;
    }

pub width-none : (n : ℕ) (sizes : List ℕ) → ¬ Counted n sizes → WidthTold n sizes 0
width-none n sizes h = record { counted = λ k. absurd (omega arith); exact = λ k. absurd (omega arith); complete = λ k. absurd (h k) }
