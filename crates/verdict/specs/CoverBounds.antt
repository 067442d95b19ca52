-- Where the tables are proper (Tables), what a cover place leads to are cover places again.
use Rattle.std.specs.Prelude.{◌≡◌, ℕ, zero, suc, ◌+◌, ◌-◌, ◌*◌, ◌/◌, ◌%◌, ◌^◌, ◌<◌, ◌≤◌, List, length, ◌≢◌, slice_index, slice_index_or}
use Rattle.std.proofs.Common.{sym, ◌∙◌, subst, div-lt_iff_lt-mul, mul-le-mul_right, mul-le-mul_left, mul_comm, mul-one, mul-suc, arith, shl_lt}
use Rattle.std.proofs.Math.Decide.{dec_le, ℕ_discrete}
use Rattle.std.proofs.lemmas.Nat.{and_le_l}
use Rattle.std.proofs.Math.Pow.{pow_pos, pow-lt}
use borrow.Author.Tests.{eq-eqb, ne_eqb}
use Rattle.theory.specs.Automaton.{Automaton}
use Rattle.theory.specs.Places.{member, one, when}
use Rattle.theory.specs.PlacesLaws.{union-below, when-below, wider, none_below}
use Rattle.finding.specs.Rewritten.{Rewritten, next_state}
use Rattle.verdict.specs.Cover.{width, places, entered, moved_within, moves, passed, finished, ends}
use Rattle.verdict.specs.Tables.{automata_from, automata_of, occupied, Counted}
use Rattle.verdict.specs.TablesLaws.{width-exactly, occupied-few}
use Rattle.verdict.specs.CoverTold.{Moving, Ending}
use Rattle.verdict.specs.CoverSteps.{step_at, entered-next, moved_here, moved-next, finished-here, finished-next, passed-next}

-- The two ways through `moves` and `ends`.

module _ (R : Rewritten) (lists : List Automaton) (w : ℕ) (wide : width lists ≡ w) where
  pub moves-alone : (a p : ℕ) → p % w ≡ 0 → moves lists a p ≡ entered lists 0 a * 2 ^ (w * (p / w))
  unfolding moves
  moves-alone a p e = rw (wide, moves, eq-eqb (p % w) 0 e) (rw wide)

  pub moves-inside : (a p : ℕ) → (p % w ≢ 0) → moves lists a p ≡ moved_within lists 0 (p % w) a * 2 ^ (w * (p / w))
  unfolding moves
  moves-inside a p d = rw (wide, moves, ne_eqb (p % w) 0 d) (rw wide)

  pub ends-alone : (p : ℕ) → p % w ≡ 0 → ends R lists p ≡ passed R w lists 0 (p / w)
  unfolding ends
  ends-alone p e = rw (wide, ends, eq-eqb (p % w) 0 e) (rw wide)

  pub ends-inside : (p : ℕ) → (p % w ≢ 0) → ends R lists p ≡ finished R w lists 0 (p % w) (p / w)
  unfolding ends
  ends-inside p d = rw (wide, ends, ne_eqb (p % w) 0 d) (rw wide)

-- The places of a state, below those of all states.
pub state-places : (w s q : ℕ) → q < s → w + w * q ≤ s * w
state-places w s q h = omega (arith, mul-le-mul_right w h, mul_comm (suc q) w, mul-suc w q)

pub state-of-place : (w s p : ℕ) → 0 < w → p < s * w → p / w < s
state-of-place w s p h l = (div-lt_iff_lt-mul h).1 l

module _ (follow enter sizes accepting : List ℕ) (n : ℕ) (counted : Counted n sizes) (room : 64 * n + 64 ≤ length follow) where
  module _ (sets : (v o : ℕ) → v < n → o ≤ slice_index sizes (v + 1) → slice_index follow (64 * (v + 1) + o) < 2 ^ suc (slice_index sizes (v + 1))) where
    step-below : (v o base a : ℕ) → v < n → o ≤ slice_index sizes (v + 1)
        → step_at follow enter v o a * 2 ^ base < 2 ^ (suc (slice_index sizes (v + 1)) + base)
    step-below v o base a h k =
        shl_lt (suc (slice_index sizes (v + 1))) base
        (omega (arith, sets v o h k, and_le_l (slice_index follow (64 * (v + 1) + o)) (slice_index enter (32 * (v + 1) + a))))

    pub entered_below : (v m base a : ℕ) → v + m ≤ n → a < 32
        → entered (automata_from follow enter sizes accepting v m) base a < 2 ^ suc (base + occupied sizes v m)
    unfolding entered automata_from occupied
    entered_below v zero base a h l = pow_pos (suc (base + 0))
    entered_below v (suc m) base a h l =
        let size = slice_index_or sizes (v + 1) 0 in
        let rest = entered (automata_from follow enter sizes accepting (v + 1) m) (base + size) a in
        rw (entered-next follow enter sizes accepting n counted room v m base a (omega arith) l)
        (union-below (suc (base + (size + occupied sizes (v + 1) m))) (step_at follow enter v 0 a * 2 ^ base) rest
        (wider (suc size + base) (suc (base + (size + occupied sizes (v + 1) m))) (step_at follow enter v 0 a * 2 ^ base) (omega arith)
        (step-below v 0 base a (omega arith) (omega arith)))
        (wider (suc (base + size + occupied sizes (v + 1) m)) (suc (base + (size + occupied sizes (v + 1) m))) rest (omega arith)
        (entered_below (v + 1) m (base + size) a (omega arith) l)))

    pub within-below : (v m base o a : ℕ) → v + m ≤ n → a < 32
        → moved_within (automata_from follow enter sizes accepting v m) base o a < 2 ^ suc (base + occupied sizes v m)
    unfolding moved_within automata_from occupied
    within-below v zero base o a h l = pow_pos (suc (base + 0))
    within-below v (suc m) base o a h l =
        go (dec_le o (slice_index sizes (v + 1))) (within-below (v + 1) m (base + slice_index sizes (v + 1)) (o - slice_index sizes (v + 1)) a (omega arith) l)
      where
        go : Dec (o ≤ slice_index sizes (v + 1))
            → moved_within (automata_from follow enter sizes accepting (v + 1) m) (base + slice_index sizes (v + 1)) (o - slice_index sizes (v + 1)) a
            < 2 ^ suc (base + slice_index sizes (v + 1) + occupied sizes (v + 1) m)
            → moved_within (automata_from follow enter sizes accepting v (suc m)) base o a
            < 2 ^ suc (base + (slice_index sizes (v + 1) + occupied sizes (v + 1) m))
        go (yes k) ih =
            rw (moved_here follow enter sizes accepting n counted room v m base o a (omega arith) l k)
            (wider (suc (slice_index sizes (v + 1)) + base) (suc (base + (slice_index sizes (v + 1) + occupied sizes (v + 1) m)))
            (step_at follow enter v o a * 2 ^ base) (omega arith) (step-below v o base a (omega arith) k))
        go (no k) ih =
            rw (moved-next follow enter sizes accepting n counted room v m base o a (omega arith) (omega arith))
            (wider (suc (base + slice_index sizes (v + 1) + occupied sizes (v + 1) m))
            (suc (base + (slice_index sizes (v + 1) + occupied sizes (v + 1) m)))
            (moved_within (automata_from follow enter sizes accepting (v + 1) m) (base + slice_index sizes (v + 1)) (o - slice_index sizes (v + 1)) a)
            (omega arith) ih)

    -- What a label leads to from a cover place are cover places.
    pub moves-below : (R : Rewritten) (a p : ℕ) → a < 32 → p < places R (automata_of follow enter sizes accepting n)
        → moves (automata_of follow enter sizes accepting n) a p < 2 ^ places R (automata_of follow enter sizes accepting n)
    unfolding places
    moves-below R a p l h = go (ℕ_discrete (p % w) 0)
      where
        lists : List Automaton
        lists = automata_of follow enter sizes accepting n

        w : ℕ
        w = suc (occupied sizes 0 n)

        wide : width lists ≡ w
        wide = width-exactly follow enter sizes accepting n counted room

        inside : (x : ℕ) → x < 2 ^ w → x * 2 ^ (w * (p / w)) < 2 ^ (R.states * w)
        inside x b =
            wider (w + w * (p / w)) (R.states * w) (x * 2 ^ (w * (p / w)))
            (state-places w R.states (p / w) (state-of-place w R.states p (omega arith) (subst (λ z. p < R.states * z) wide h)))
            (shl_lt w (w * (p / w)) b)

        go : Dec (p % w ≡ 0) → moves lists a p < 2 ^ (R.states * width lists)
        go (yes e) =
            rw (wide, moves-alone R lists w wide a p e) (inside (entered lists 0 a)
            (wider (suc (0 + occupied sizes 0 n)) w (entered lists 0 a) (omega arith) (entered_below 0 n 0 a (omega arith) l)))
        go (no d) =
            rw (wide, moves-inside R lists w wide a p d) (inside (moved_within lists 0 (p % w) a)
            (wider (suc (0 + occupied sizes 0 n)) w (moved_within lists 0 (p % w) a) (omega arith) (within-below 0 n 0 (p % w) a (omega arith) l)))

  module _ (R : Rewritten) (next : (q v : ℕ) → q < R.states → v < n → next_state R q v < R.states) where
    alone-below : (w v q : ℕ) → 0 < w → v < n → q < R.states → one (w * next_state R q v) < 2 ^ (R.states * w)
    alone-below w v q p h k =
        pow-lt (omega (arith, state-places w R.states (next_state R q v) (next q v k h)))

    passed-below : (w v m q : ℕ) → 0 < w → v + m ≤ n → q < R.states
        → passed R w (automata_from follow enter sizes accepting v m) v q < 2 ^ (R.states * w)
    unfolding passed automata_from
    passed-below w v zero q p h k = none_below (R.states * w)
    passed-below w v (suc m) q p h k =
        rw (passed-next follow enter sizes accepting R w v m q)
        (union-below (R.states * w) (when (member 0 (slice_index accepting (v + 1))) (one (w * next_state R q v)))
        (passed R w (automata_from follow enter sizes accepting (v + 1) m) (v + 1) q)
        (when-below (R.states * w) (member 0 (slice_index accepting (v + 1))) (one (w * next_state R q v)) (alone-below w v q p (omega arith) k))
        (passed-below w (v + 1) m q p (omega arith) k))

    finished-below : (w v m o q : ℕ) → 0 < w → v + m ≤ n → q < R.states
        → finished R w (automata_from follow enter sizes accepting v m) v o q < 2 ^ (R.states * w)
    unfolding finished automata_from
    finished-below w v zero o q p h k = none_below (R.states * w)
    finished-below w v (suc m) o q p h k =
        go (dec_le o (slice_index sizes (v + 1))) (finished-below w (v + 1) m (o - slice_index sizes (v + 1)) q p (omega arith) k)
      where
        go : Dec (o ≤ slice_index sizes (v + 1))
            → finished R w (automata_from follow enter sizes accepting (v + 1) m) (v + 1) (o - slice_index sizes (v + 1)) q < 2 ^ (R.states * w)
            → finished R w (automata_from follow enter sizes accepting v (suc m)) v o q < 2 ^ (R.states * w)
        go (yes l) ih =
            rw (finished-here follow enter sizes accepting n counted room R w v m o q (omega arith) l)
            (when-below (R.states * w) (member o (slice_index accepting (v + 1))) (one (w * next_state R q v)) (alone-below w v q p (omega arith) k))
        go (no l) ih = rw (finished-next follow enter sizes accepting n counted room R w v m o q (omega arith) (omega arith)) ih

    -- What a cover place reaches without a label are cover places.
    pub ends-below : (p : ℕ) → p < places R (automata_of follow enter sizes accepting n)
        → ends R (automata_of follow enter sizes accepting n) p < 2 ^ places R (automata_of follow enter sizes accepting n)
    unfolding places
    ends-below p h = go (ℕ_discrete (p % w) 0)
      where
        lists : List Automaton
        lists = automata_of follow enter sizes accepting n

        w : ℕ
        w = suc (occupied sizes 0 n)

        wide : width lists ≡ w
        wide = width-exactly follow enter sizes accepting n counted room

        state : p / w < R.states
        state = state-of-place w R.states p (omega arith) (subst (λ z. p < R.states * z) wide h)

        go : Dec (p % w ≡ 0) → ends R lists p < 2 ^ (R.states * width lists)
        go (yes e) = rw (wide, ends-alone R lists w wide p e) (passed-below w 0 n (p / w) (omega arith) (omega arith) state)
        go (no d) = rw (wide, ends-inside R lists w wide p d) (finished-below w 0 n (p % w) (p / w) (omega arith) (omega arith) state)

-- The width that the functions are told is the definition's.
pub moving-width : (n a : ℕ) (follow enter sizes : List ℕ) (w : ℕ) → Moving n a follow enter sizes w → (accepting : List ℕ)
    → width (automata_of follow enter sizes accepting n) ≡ w
moving-width n a follow enter sizes w m accepting = width-exactly follow enter sizes accepting n m.counted m.follow-room ∙ sym m.wide

pub ending-width : (states n : ℕ) (sizes accepting table : List ℕ) (w : ℕ) → Ending states n sizes accepting table w
    → (follow enter : List ℕ) → 64 * n + 64 ≤ length follow → width (automata_of follow enter sizes accepting n) ≡ w
ending-width states n sizes accepting table w e follow enter room =
    width-exactly follow enter sizes accepting n e.counted room ∙ sym e.wide

pub few-offsets : (states n : ℕ) (sizes accepting table : List ℕ) (w : ℕ) → Ending states n sizes accepting table w → w ≤ 1024
few-offsets states n sizes accepting table w e = omega (arith, e.wide, e.counted.few, occupied-few sizes n 0 n (omega arith) e.counted)

-- There are no more states than places.
pub few-states : (states w : ℕ) → 0 < w → states * w ≤ 1024 → states ≤ 1024
few-states states w h l = omega (arith, mul-le-mul_left states h, mul-one states)

-- Where there is a state, there are no more offsets than places.
pub few-columns : (w states : ℕ) → 0 < states → states * w ≤ 1024 → w ≤ 1024
few-columns w states h l = few-states w states h (omega (arith, mul_comm states w))
