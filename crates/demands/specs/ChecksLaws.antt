-- Checks in their order: the first that refuses decides.
use Rattle.std.specs.Prelude.{ℕ, ◌<◌, ◌≡◌, refl}
use Rattle.std.proofs.Common.{inl, inr}
use Rattle.demands.specs.Checks.{Check, Passes, refusal, then}

-- The check refuses with this number and line, and with no other.
pub record Refusing (c : Check) (n l : ℕ) : Type 0 where
  pub given : c n l
  pub only : (m k : ℕ) → c m k → (m ≡ n) × (k ≡ l)
  pub numbered : 0 < n

pub refuses-first : {c : Check} (d : Check) {n l : ℕ} → Refusing c n l → Refusing (then c d) n l
refuses-first {c} d {n} {l} r = record { given = inl r.given; only = side; numbered = r.numbered }
  where
    side : (m k : ℕ) → then c d m k → (m ≡ n) × (k ≡ l)
    side m k (inl x) = r.only m k x
    side m k (inr (p, y)) = absurd (p n l r.given)

pub refuses-later : {c d : Check} {n l : ℕ} → Passes c → Refusing d n l → Refusing (then c d) n l
refuses-later {c} {d} {n} {l} p r = record { given = inr (p, r.given); only = side; numbered = r.numbered }
  where
    side : (m k : ℕ) → then c d m k → (m ≡ n) × (k ≡ l)
    side m k (inl x) = absurd (p m k x)
    side m k (inr (q, y)) = r.only m k y

pub passes-both : {c d : Check} → Passes c → Passes d → Passes (then c d)
passes-both {c} {d} p q n l = side
  where
    side : ¬ then c d n l
    side (inl x) = p n l x
    side (inr (o, y)) = q n l y

pub refuses-under : (number : ℕ) {P : Type 0} → 0 < number → P → Refusing (refusal number P) number 0
refuses-under number h p = record { given = (refl, refl, p); only = λ m k (a, b, q). (a, b); numbered = h }

pub passes-unless : (number : ℕ) {P : Type 0} → ¬ P → Passes (refusal number P)
passes-unless number f n l (a, b, p) = f p
