-- The set that a test collects (theory, collect), one place at a time, and by two tests that agree; the test for an accepting set.
use Rattle.std.specs.Prelude.{◌≡◌, ℕ, zero, suc, ◌+◌, ◌<◌, Bool, true, false, not, ◌≢◌, []}
use Rattle.std.specs.Prelude.{refl}
use Rattle.std.proofs.Common.{sym, ap, ap₂, add-one, arith, eq-eqb, ne_eqb}
use Rattle.std.specs.Int.Bits.{or_zero_r}
use Rattle.theory.specs.Places.{one, union, intersection, when, collect}
use Rattle.theory.specs.Automaton.{accepts}
use Rattle.finding.specs.Plain.{plain}

pub collect-none : (test : ℕ → Bool) → 0 ≡ collect test 0
unfolding collect
collect-none test = refl

pub collect-yes : (test : ℕ → Bool) (n s : ℕ) → test n ≡ true → s ≡ one n → union (collect test n) s ≡ collect test (n + 1)
unfolding collect
collect-yes test n s t e = rw (add-one n, collect, t) (ap (union (collect test n)) e)

pub collect-no : (test : ℕ → Bool) (n : ℕ) → test n ≡ false → collect test n ≡ collect test (n + 1)
unfolding collect
collect-no test n t = rw (add-one n, collect, t) (sym (or_zero_r (collect test n)))

pub collect-agree : (f g : ℕ → Bool) (n : ℕ) → ((i : ℕ) → i < n → f i ≡ g i) → collect f n ≡ collect g n
unfolding collect
collect-agree f g zero h = refl
collect-agree f g (suc n) h =
    ap₂ (λ (s : ℕ) (b : Bool). union s (when b (one n))) (collect-agree f g n (λ i l. h i (omega arith))) (h n (omega arith))

pub accepts-yes : (accepting s : ℕ) → intersection s accepting ≢ 0 → accepts (plain [] [] accepting) s ≡ true
unfolding accepts
accepts-yes accepting s d = ap not (ne_eqb (intersection s accepting) 0 d)

pub accepts-no : (accepting s : ℕ) → intersection s accepting ≡ 0 → accepts (plain [] [] accepting) s ≡ false
unfolding accepts
accepts-no accepting s e = ap not (eq-eqb (intersection s accepting) 0 e)
