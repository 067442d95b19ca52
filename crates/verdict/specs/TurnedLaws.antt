-- The laws of turned cover sets (Turned): a set determines its turned set and is determined by it, and each set of so many places is some set
-- turned.
use Rattle.std.specs.Prelude.{◌≡◌, ℕ, ◌+◌, ◌*◌, ◌/◌, ◌%◌, ◌^◌, ◌<◌}
use Rattle.std.specs.Prelude.{refl}
use Rattle.std.proofs.Common.{sym, ap, ◌∙◌, subst, mod-lt, mul_comm}
use Rattle.std.proofs.Math.Nat.{div-add-mod}
use Rattle.theory.specs.Places.{Member, member, collect}
use Rattle.theory.specs.PlacesLaws.{member-test, member-collect, collect-below, same-members}
use Rattle.verdict.specs.CoverBounds.{state-of-place}
use Rattle.verdict.specs.CoverPlaces.{state-of, offset-of, split_below}
use Rattle.verdict.specs.Turned.{Onto, Turned}

pub turned-from : {w k n B C D : ℕ} {f : ℕ → ℕ} → 0 < w → Turned w k f n B D → Turned w k f n C D → B ≡ C
turned-from {w} {k} {n} {B} {C} {D} {f} some s t =
    same-members (n * w) B C s.below t.below
    (λ p h.
    let e : w * (p / w) + p % w ≡ p = div-add-mod p w in
    let a = s.exact (p / w) (p % w) (state-of-place w n p some h) (mod-lt p some) in
    let b = t.exact (p / w) (p % w) (state-of-place w n p some h) (mod-lt p some) in (
      λ m. subst (λ z. Member z C) e (b.1 (a.0 (subst (λ z. Member z B) (sym e) m))),
      λ m. subst (λ z. Member z B) e (a.1 (b.0 (subst (λ z. Member z C) (sym e) m))),
    ))

-- Each place of a turned set stands in the column of some offset.
pub turned-to : {w k n B C D : ℕ} {f : ℕ → ℕ} → 0 < n → Turned w k f n B C → Turned w k f n B D → C ≡ D
turned-to {w} {k} {n} {B} {C} {D} {f} some s t =
    same-members (n * k) C D s.turned-below t.turned-below
    (λ p h.
    let (o, l, g) = s.onto (p / n) (state-of-place n k p some (subst (λ z. p < z) (mul_comm n k) h)) in
    let e : n * f o + p % n ≡ p = ap (λ z. n * z + p % n) g ∙ div-add-mod p n in
    let a = s.exact (p % n) o (mod-lt p some) l in
    let b = t.exact (p % n) o (mod-lt p some) l in (
      λ m. subst (λ z. Member z D) e (b.0 (a.1 (subst (λ z. Member z C) (sym e) m))),
      λ m. subst (λ z. Member z C) e (a.0 (b.1 (subst (λ z. Member z D) (sym e) m))),
    ))

-- The set that is turned to D.
abbrev pub turn : ℕ → (ℕ → ℕ) → ℕ → ℕ → ℕ
turn w f n D = collect (λ p. member (n * f (p % w) + p / w) D) (n * w)

pub turn-made : (w k : ℕ) (f : ℕ → ℕ) (n D : ℕ) → 0 < w → f 0 ≡ 0 → Onto w k f → D < 2 ^ (n * k) → Turned w k f n (turn w f n D) D
turn-made w k f n D some alone onto h =
    record {
      exact = λ q o i l.
          let e : n * f ((w * q + o) % w) + (w * q + o) / w ≡ n * f o + q =
          ap (λ z. n * f z + (w * q + o) / w) (offset-of w q o l) ∙ ap (λ z. n * f o + z) (state-of w q o l) in (
            λ m. subst (λ z. Member z D) e ((member-test _ D).0 ((member-collect _ (n * w) (w * q + o)).0 m).1),
            λ m. (member-collect _ (n * w) (w * q + o)).1 (split_below w n q o l i, (member-test _ D).1 (subst (λ z. Member z D) (sym e) m)),
          );
      below = collect-below _ (n * w);
      turned-below = h;
      onto = onto;
      alone = alone;
    }

-- Each offset its own column.
pub onto_same : (w : ℕ) → Onto w w (λ o. o)
onto_same w c h = (c, h, refl)
