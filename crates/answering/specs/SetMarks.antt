-- Marks from words (Marks) are those of a machine (Product) where the recordings with an accepting state are those that the machine marks.
use Rattle.std.specs.Prelude.{◌≡◌, ℕ, zero, suc, ◌+◌, ◌*◌, ◌/◌, ◌%◌, ◌^◌, ◌<◌, ◌≤◌, Bool, true, false, ◌↔◌, List, ◌∷◌, take, drop, slice_index}
use Rattle.std.proofs.Math.Logic.Iff
use Rattle.std.specs.Prelude.{refl}
use Rattle.std.proofs.Common.{sym, ap, ap₂, ◌∙◌, subst, arith, take_at, drop_at}
use Rattle.theory.specs.Graph.{Table}
use Rattle.theory.specs.Places.{Member, intersection}
use Rattle.theory.specs.PlacesLaws.{member-none, member_below, member-intersection, not_none}
use Rattle.answering.specs.Product.{Machine, reached_nodes, marked, marks_from, marks}
use Rattle.answering.specs.Marked.{ones}
use Rattle.answering.specs.MarksLaws.{mark_of, mark-marked}
use Rattle.answering.specs.Pairs.{place, Has}
use Rattle.answering.specs.Marks.{meets, marks_of, Markable, MarksSet}
use Rattle.answering.specs.MarksSteps.{meets_at, meets-where, length-marks_of}

-- The recording y has an accepting state.
abbrev pub AcceptedAt : ℕ → List ℕ → List ℕ → ℕ → Type 0
AcceptedAt w l accepting y = (t : ℕ) × (t < 64 * w) × Has w l y t × Member (t % 64) (slice_index accepting (t / 64))

-- The test of the recording's words says so.
meets-accepted : (w : ℕ) (l accepting : List ℕ) → ((i : ℕ) → slice_index l i < 2 ^ 64) → (y : ℕ)
    → (meets l accepting (w * y) w ≡ true) ↔ AcceptedAt w l accepting y
unfolding Has
meets-accepted w l accepting bits y = (there, back)
  where
    there : meets l accepting (w * y) w ≡ true
        → (t : ℕ) × (t < 64 * w) × Member (t % 64) (slice_index l (place w y t)) × Member (t % 64) (slice_index accepting (t / 64))
    there e =
        let (k, h, d) = meets-where l accepting (w * y) w e in
        let (i, m) = not_none (intersection (slice_index l (w * y + k)) (slice_index accepting k)) d in
        let (a, b) = (member-intersection i (slice_index l (w * y + k)) (slice_index accepting k)).0 m in
        let f : i < 64 = member_below 64 (slice_index l (w * y + k)) i (bits (w * y + k)) a in
        let p : (64 * k + i) / 64 ≡ k = omega arith in
        let q : (64 * k + i) % 64 ≡ i = omega arith in
        (64 * k + i, omega arith, rw (p, q) a, rw (p, q) b)

    back : ((t : ℕ) × (t < 64 * w) × Member (t % 64) (slice_index l (place w y t)) × Member (t % 64) (slice_index accepting (t / 64)))
        → meets l accepting (w * y) w ≡ true
    back (t, h, a, b) =
        let g = (member-intersection (t % 64) (slice_index l (w * y + t / 64)) (slice_index accepting (t / 64))).1 (a, b) in
        meets_at l accepting (w * y) w (t / 64) (omega arith) (λ z. member-none (t % 64) (subst (Member (t % 64)) z g))

same_tests : (a b : Bool) → (a ≡ true) ↔ (b ≡ true) → a ≡ b
same_tests true b f = sym (f.0 refl)
same_tests false true f = f.1 refl
same_tests false false f = refl

mark-number : (b : Bool) → mark_of b ≡ elim b [ true ↦ 1 | false ↦ 0 ]
mark-number true = refl
mark-number false = refl

-- Where the tests agree, so do the marks.
marks-from : (M : Machine) (nodes w : ℕ) (l accepting : List ℕ) (N : ℕ)
    → ((y : ℕ) → y < N → meets l accepting (w * y) w ≡ marked M nodes y)
    → (n y : ℕ) → y + n ≤ N → marks_of w l accepting n y ≡ marks_from M nodes n y
unfolding marks_of marks_from
marks-from M nodes w l accepting N same zero y h = refl
marks-from M nodes w l accepting N same (suc n) y h =
    ap₂ (λ a b. a ∷ b) (ap mark_of (same y (omega arith)) ∙ mark-number (marked M nodes y))
    (marks-from M nodes w l accepting N same n (suc y) (omega arith))

marks-same : (M : Machine) (N : ℕ) (table : Table) (start w : ℕ) (l accepting : List ℕ)
    → ((y : ℕ) → y < N → (meets l accepting (w * y) w ≡ true) ↔ (slice_index (marks M N table start) y ≡ 1))
    → marks_of w l accepting N 0 ≡ marks M N table start
unfolding marks
marks-same M N table start w l accepting same =
    marks-from M nodes w l accepting N
    (λ y h. same_tests (meets l accepting (w * y) w) (marked M nodes y) (Iff.trans (same y h) (mark-marked M N table start y h)))
    N 0 (omega arith)
  where
    nodes : ℕ
    nodes = reached_nodes M N table start

-- What is stored and told.
pub marks-accepted : (M : Machine) (N : ℕ) (table : Table) (start w : ℕ) (l accepting : List ℕ) → ((i : ℕ) → slice_index l i < 2 ^ 64)
    → ((y : ℕ) → y < N → AcceptedAt w l accepting y ↔ (slice_index (marks M N table start) y ≡ 1))
    → {old new : List ℕ} {told : ℕ} → Markable w N l old → MarksSet w l accepting N old new told
    → (take N new ≡ marks M N table start) × (drop N new ≡ drop N old) × (told ≡ ones (marks M N table start))
marks-accepted M N table start w l accepting bits same {old} {new} {told} f m =
    let e = marks-same M N table start w l accepting (λ y h. Iff.trans (meets-accepted w l accepting bits y) (same y h)) in
    let size = length-marks_of w l accepting N 0 in (
      ap (take N) (m.set f) ∙ take_at (marks_of w l accepting N 0) (drop N old) N size ∙ e,
      ap (drop N) (m.set f) ∙ drop_at (marks_of w l accepting N 0) (drop N old) N size,
      m.counted f ∙ ap ones e,
    )
