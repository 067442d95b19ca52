-- The laws of chosen expressions and of marks (Marked): the choice is the one that the answers make (AnswerJob); marks are known by where
-- they are 1, and their sum is the number of ones.
use Rattle.std.specs.Prelude.{◌≡◌, ℕ, zero, suc, ◌+◌, ◌<◌, ◌≤◌, Bool, true, false, ◌⊎◌, ◌↔◌, List, length, get_or, nat_eq, nat_lt, slice_index, slice_index_or}
use Rattle.std.proofs.Common.{inl, inr, sym, ◌∙◌, subst, arith, ltb-true, lt-ltb, ext_get_or}
use Rattle.std.proofs.Math.Option.{Option, some, none}
use Rattle.std.specs.Prelude.{refl}
use Rattle.theory.specs.Expression.{Expression, empty}
use Rattle.theory.specs.Job.{Job}
use Rattle.theory.specs.Graph.{Table}
use Rattle.answering.specs.Marked.{Chosen, query, list, MarksOf}
use Rattle.answering.specs.Product.{Machine, marks}
use Rattle.answering.specs.Marked.{ones}
use Rattle.answering.specs.AnswerJob.{chosen}
use Rattle.answering.specs.MarksLaws.{length-marks, mark-bit, mark_of, count_below, ones-counted}

-- The chosen expression.

pub chosen-exactly : (J : Job) (c : ℕ) (e : Expression) → (chosen J c ≡ some e) ↔ Chosen J c e
unfolding chosen
chosen-exactly J c e = (there c, back)
  where
    listed : (v : ℕ) (b : Bool) → nat_lt v (length J.lists) ≡ b
        → elim b as (λ b. Option Expression) [ true ↦ some (slice_index_or J.lists v empty) | false ↦ none ] ≡ some e → Chosen J (suc v) e
    listed v true t q = let p : get_or J.lists v empty ≡ e = cc in subst (Chosen J (suc v)) p (list (ltb-true v (length J.lists) t))
    listed v false t q = let z : ◌≡◌ {A = ℕ} 0 1 = cc in absurd (omega arith)

    there : (c : ℕ) → chosen J c ≡ some e → Chosen J c e
    there zero q = let p : J.query ≡ e = cc in subst (Chosen J 0) p query
    there (suc v) q = listed v (nat_lt v (length J.lists)) refl q

    back : {c : ℕ} {e : Expression} → Chosen J c e → chosen J c ≡ some e
    back query = refl
    back (list {v} h) = rw (lt-ltb v (length J.lists) h, chosen)

-- There is none exactly where none is chosen.
pub chosen-absent : (J : Job) (c : ℕ) → (chosen J c ≡ none) ↔ ((e : Expression) → ¬ Chosen J c e)
chosen-absent J c = (there, back (chosen J c) refl)
  where
    there : chosen J c ≡ none → (e : Expression) → ¬ Chosen J c e
    there q e k = let p = (chosen-exactly J c e).1 k in let z : ◌≡◌ {A = ℕ} 0 1 = cc in absurd (omega arith)

    back : (o : Option Expression) → chosen J c ≡ o → ((e : Expression) → ¬ Chosen J c e) → chosen J c ≡ none
    back none q n = q
    back (some e) q n = absurd (n e ((chosen-exactly J c e).0 q))

pub chosen-determined : {J : Job} {c : ℕ} {d e : Expression} → Chosen J c d → Chosen J c e → d ≡ e
chosen-determined {J} {c} {d} {e} k l =
    let p = (chosen-exactly J c d).1 k in
    let q = (chosen-exactly J c e).1 l in
    cc

-- An expression is chosen by the numbers up to that of the lists.

pub chosen-within : {J : Job} {c : ℕ} {e : Expression} → Chosen J c e → c ≤ length J.lists
chosen-within query = omega arith
chosen-within (list h) = omega arith

pub chosen-some : (J : Job) (c : ℕ) → c ≤ length J.lists → (e : Expression) × Chosen J c e
chosen-some J zero h = (J.query, query)
chosen-some J (suc v) h = (slice_index_or J.lists v empty, list {v = v} (omega arith))

-- Marks are known by where they are 1.

pub marks-same : {N : ℕ} {P Q : ℕ → Type 0} {m l : List ℕ} → MarksOf N P m → MarksOf N Q l → ((y : ℕ) → y < N → P y ↔ Q y) → m ≡ l
marks-same {N} {P} {Q} {m} {l} a b h =
    ext_get_or 0 m l (a.size ∙ sym b.size) (λ y k.
    let below : y < N = subst (λ n. y < n) a.size k in
    let (f, g) = h y below in
    let (f₁, g₁) = a.exactly y below in
    let (f₂, g₂) = b.exactly y below in
    same (λ e. g₂ (f (f₁ e))) (λ e. g₁ (g (f₂ e))) (a.zero-or-one y below) (b.zero-or-one y below))
  where
    same : {i j : ℕ} → (i ≡ 1 → j ≡ 1) → (j ≡ 1 → i ≡ 1) → (i ≡ 0) ⊎ (i ≡ 1) → (j ≡ 0) ⊎ (j ≡ 1) → i ≡ j
    same f g (inl p) (inl q) = p ∙ sym q
    same f g (inl p) (inr q) = g q ∙ sym q
    same f g (inr p) q = p ∙ sym (f p)

pub marks-determined : {N : ℕ} {P : ℕ → Type 0} {m l : List ℕ} → MarksOf N P m → MarksOf N P l → m ≡ l
marks-determined a b = marks-same a b (λ y h. (λ p. p, λ p. p))

-- A machine's marks.
pub machine-marks : (M : Machine) (N : ℕ) (t : Table) (x : ℕ) {P : ℕ → Type 0}
    → ((y : ℕ) → y < N → (slice_index (marks M N t x) y ≡ 1) ↔ P y) → MarksOf N P (marks M N t x)
machine-marks M N t x h = record { size = length-marks M N t x; zero-or-one = mark-bit M N t x; exactly = h }

-- The number of ones: of the N recordings, how many have the mark 1.

pub marks-ones : {N : ℕ} {P : ℕ → Type 0} {m : List ℕ} → MarksOf N P m → ones m ≡ count_below (λ y. nat_eq (slice_index m y) 1) N
marks-ones {N} {P} {m} a =
    subst (λ n. ones m ≡ count_below (λ y. nat_eq (slice_index m y) 1) n) a.size
    (ones-counted m (λ y h. a.zero-or-one y (subst (λ n. y < n) a.size h)))

count-few : (test : ℕ → Bool) (n : ℕ) → count_below test n ≤ n
unfolding count_below
count-few test zero = omega arith
count-few test (suc n) = side (test n) (count-few test n)
  where
    side : (b : Bool) → count_below test n ≤ n → count_below test n + mark_of b ≤ suc n
    side true h = omega arith
    side false h = omega arith

pub marks-few : {N : ℕ} {P : ℕ → Type 0} {m : List ℕ} → MarksOf N P m → ones m ≤ N
marks-few {N} {P} {m} a = omega (arith, marks-ones a, count-few (λ y. nat_eq (slice_index m y) 1) N)
