use Prim.Native.Nat.{ℕ, suc, max, ◌+◌, ◌<◌, ◌≤◌}
use mathlib.Core.Bool.{Bool, true, false}
use mathlib.Core.Path.{◌≡◌, refl}
use native.Mathlib.Numerals.{add-one}
use native.Mathlib.Omega.{arith}
use lib.Dec.{eqb}
use lib.ListN.{length, drop, get_or, drop_of_length-le}
use lib.Seq.{drop-cons}
use borrow.Author.Rules.{rules}
use Rattle.syntax.specs.Byte.{Bytes, opening, closing}
use Rattle.syntax.specs.Limits.{nesting, balance}
use Rattle.syntax.specs.NestingLaws.{opens, closes, keeps, deeper}
use Rattle.syntax.proofs.limits.nesting.Goals as goal
use Rattle.syntax.proofs.limits.nesting.Goals.{in-40, in-41, in_default}

module _ (n b : ℕ) where
  one_more : balance n b ≤ suc n
  unfolding balance
  one_more = go (eqb b opening) refl (eqb b closing) refl
    where
      go : (x : Bool) → eqb b opening ≡ x → (y : Bool) → eqb b closing ≡ y → balance n b ≤ suc n
      go true e y f = rw (e, balance) (omega arith)
      go false e true f = rw (e, balance, f, balance) (omega arith)
      go false e false f = rw (e, balance, f, balance) (omega arith)

next : (s : Bytes) (i n : ℕ) → i < length s → nesting n (drop i s) ≡ max n (nesting (balance n (get_or s i 0)) (drop (i + 1) s))
unfolding nesting
next s i n h = rw (add-one, drop-cons s i 0 h)

pub loop-b-init : goal.loop-b-init
loop-b-init c = omega (arith, deeper 0 c.args.s.now)

pub loop-b-preserved : goal.loop-b-preserved
loop-b-preserved c =
    let l = c.loop-b in
    let n : ℕ = l.«open» in
    let m : ℕ = c.match-b.«open» in
    let s : Bytes = c.args.s.now in
    let b : ℕ = get_or s l.b-index 0 in
    let e : m ≡ balance n b =
    elim c.match-b.branch [
      | in-40 w ↦ omega (arith, opens n b w.in-40.is, w.open-is)
      | in-41 w ↦ omega (arith, closes n b w.in-41.is, w.open-is, w.saturating_sub-open.ensures)
      | in_default w ↦ omega (arith, keeps n b (search rules) (search rules), w.open-is)
    ] in
    let d = deeper m (drop (l.b-index + 1) s) in
    let f : nesting n (drop l.b-index s) ≡ max n (nesting m (drop (l.b-index + 1) s)) = rw e (next s l.b-index n c.loop-b-test.true) in
    (omega arith, omega arith, omega (arith, one_more n b))

pub returns : goal.returns
unfolding nesting
returns c =
    let s : Bytes = c.args.s.now in
    let l = c.loop-b in
    let e : nesting l.«open» (drop l.b-index s) ≡ l.«open» = rw (drop_of_length-le s c.loop-b-test.false, nesting) in
    omega arith
