-- What the product of a table and a machine reaches (Product): the recording y in the state s is reached from the recording x exactly
-- when some path leads from x to y over the table and the machine, following it from state 0, ends in s.
use Rattle.std.specs.Prelude.{◌≡◌, ℕ, ◌+◌, ◌*◌, ◌/◌, ◌%◌, ◌^◌, ◌<◌, ◌⊎◌, ◌↔◌, List, [], ◌∷◌, ◌++◌, ◌==◌}
use Rattle.std.proofs.Common.{inl, inr, sym, ◌∙◌, ap, mul_comm, mod-lt, add-zero, eqb-true, eq-eqb}
use Rattle.std.specs.Prelude.{refl}
use Rattle.std.proofs.Math.Path.{subst, subst₂}
use Rattle.std.proofs.Math.Arith.{digits_div, digits_mod, digits_lt}
use Rattle.theory.specs.Graph as G
use Rattle.theory.specs.Graph.{Table, Linked, Leads, stay, EndsBelow}
use Rattle.theory.specs.Places.{Member, one, when}
use Rattle.theory.specs.PlacesLaws.{member-none, member-one, member_union, member-when, members-below, one_below}
use Rattle.theory.specs.Closure.{Reaches, here, onward, closure}
use Rattle.theory.specs.ClosureLaws.{closure-exactly}
use Rattle.answering.specs.Product.{Machine, along, next_nodes, reached_nodes}

-- The state after a path, followed from the state s.
unfoldable pub ends_at : Machine → ℕ → List ℕ → ℕ
ends_at M s [] = s
ends_at M s (a ∷ p) = ends_at M (M.next s a) p

-- One more symbol at the end of a path.
pub ends_more : (M : Machine) (s : ℕ) (p : List ℕ) (a : ℕ) → ends_at M s (p ++ (a ∷ [])) ≡ M.next (ends_at M s p) a
unfolding ends_at
ends_more M s [] a = refl
ends_more M s (b ∷ p) a = ends_more M (M.next s b) p a

-- The node of a recording and a state tells both.

pub node-recording : (m y : ℕ) {s : ℕ} → s < m → (m * y + s) / m ≡ y
node-recording m y {s} h = ap (λ n. (n + s) / m) (mul_comm m y) ∙ digits_div y h

pub node-state : (m y : ℕ) {s : ℕ} → s < m → (m * y + s) % m ≡ s
node-state m y {s} h = ap (λ n. (n + s) % m) (mul_comm m y) ∙ digits_mod y h

pub node-below : (m N : ℕ) {y s : ℕ} → y < N → s < m → m * y + s < m * N
node-below m N {y} {s} h k = subst₂ (λ a b. a + s < b) (mul_comm y m) (mul_comm N m) (digits_lt h k)

pub same-node : (m : ℕ) {y z r s : ℕ} → r < m → s < m → m * y + r ≡ m * z + s → (y ≡ z) × (r ≡ s)
same-node m {y} {z} h k e = (
  sym (node-recording m y h) ∙ ap (λ n. n / m) e ∙ node-recording m z k,
  sym (node-state m y h) ∙ ap (λ n. n % m) e ∙ node-state m z k,
)

-- One link further: the nodes next to the recording x in the state s.

abbrev Along : Machine → Table → ℕ → ℕ → ℕ → Type 0
Along M t x s n = (a : ℕ) × (y : ℕ) × Linked t x a y × (n ≡ M.states * y + M.next s a)

along-there : (M : Machine) (t : Table) (x s n : ℕ) → Member n (along M t x s) → Along M t x s n
unfolding along
along-there M [] x s n m = absurd (member-none n m)
along-there M (u ∷ []) x s n m = absurd (member-none n m)
along-there M (u ∷ (a ∷ [])) x s n m = absurd (member-none n m)
along-there M (u ∷ (a ∷ (y ∷ t))) x s n m =
    side (along-there M t x s n) ((member_union n (when (u == x) (one (M.states * y + M.next s a))) (along M t x s)).0 m)
  where
    side : (Member n (along M t x s) → Along M t x s n)
        → Member n (when (u == x) (one (M.states * y + M.next s a))) ⊎ Member n (along M t x s)
        → Along M (u ∷ (a ∷ (y ∷ t))) x s n
    side more (inl h) =
        let (e, o) = (member-when (u == x) n (one (M.states * y + M.next s a))).0 h in
        (a, y, subst (λ z. Linked (u ∷ (a ∷ (y ∷ t))) z a y) (eqb-true u x e) G.here, (member-one n (M.states * y + M.next s a)).0 o)
    side more (inr h) = let (b, z, l, e) = more h in (b, z, G.later l, e)

along-back : (M : Machine) {t : Table} {x a y : ℕ} (s : ℕ) → Linked t x a y → Member (M.states * y + M.next s a) (along M t x s)
unfolding along
along-back M {x = x} s (G.here {a = a} {y = y} {t = t}) =
    let n = M.states * y + M.next s a in
    (member_union n (when (x == x) (one n)) (along M t x s)).1
    (inl ((member-when (x == x) n (one n)).1 (eq-eqb x x refl, (member-one n n).1 refl)))
along-back M {x = x} {a = a} {y = y} s (G.later {u = u} {b = b} {v = v} {t = t} l) =
    (member_union (M.states * y + M.next s a) (when (u == x) (one (M.states * v + M.next s b))) (along M t x s)).1
    (inr (along-back M s l))

pub member-along : (M : Machine) (t : Table) (x s n : ℕ)
    → Member n (along M t x s) ↔ ((a : ℕ) × (y : ℕ) × Linked t x a y × (n ≡ M.states * y + M.next s a))
member-along M t x s n = (along-there M t x s n, λ h. subst (λ n. Member n (along M t x s)) (sym h.3) (along-back M s h.2))

-- The machine's next state is one of its states, for every label that occurs in the table.
abbrev pub StaysWithin : Machine → Table → Type 0
StaysWithin M t = (s x a y : ℕ) → s < M.states → Linked t x a y → M.next s a < M.states

module _ (M : Machine) (t : Table) (stays : StaysWithin M t) where
  -- A path that leads anywhere ends in one of the states.
  pub ends-within : {p : List ℕ} {x y s : ℕ} → s < M.states → Leads t p x y → ends_at M s p < M.states
  unfolding ends_at
  ends-within h stay = h
  ends-within {s = s} h (G.along {a = a} {x = x} {y = y} l more) = ends-within (stays s x a y h l) more

  abbrev Next : ℕ → ℕ → Type 0
  Next u v = Member v (next_nodes M t u)

  next-there : (x : ℕ) {s n : ℕ} → s < M.states → Next (M.states * x + s) n → Along M t x s n
  unfolding next_nodes
  next-there x {s} {n} h m =
      (member-along M t x s n).0 (subst₂ (λ y r. Member n (along M t y r)) (node-recording M.states x h) (node-state M.states x h) m)

  next-back : {x a y s : ℕ} → s < M.states → Linked t x a y → Next (M.states * x + s) (M.states * y + M.next s a)
  unfolding next_nodes
  next-back {x} {a} {y} {s} h l =
      subst₂ (λ z r. Member (M.states * y + M.next s a) (along M t z r)) (sym (node-recording M.states x h))
      (sym (node-state M.states x h)) (along-back M s l)

  -- Steps over nodes are paths over the table.

  abbrev PathTo : ℕ → ℕ → ℕ → Type 0
  PathTo x s n = (p : List ℕ) × (y : ℕ) × Leads t p x y × (n ≡ M.states * y + ends_at M s p)

  reaches-path : {u n : ℕ} → Reaches Next u n → (x s : ℕ) → s < M.states → u ≡ M.states * x + s → PathTo x s n
  unfolding ends_at
  reaches-path here x s h e = ([], x, stay, e)
  reaches-path (onward {y = v} r more) x s h e =
      let (a, y, l, d) = next-there x h (subst (λ u. Next u v) e r) in
      let (p, z, k, f) = reaches-path more y (M.next s a) (stays s x a y h l) d in
      (a ∷ p, z, G.along l k, f)

  path-reaches : {p : List ℕ} {x y s : ℕ} → s < M.states → Leads t p x y → Reaches Next (M.states * x + s) (M.states * y + ends_at M s p)
  unfolding ends_at
  path-reaches h stay = here
  path-reaches {s = s} h (G.along {a = a} {x = x} {y = y} l more) = onward (next-back h l) (path-reaches (stays s x a y h l) more)

  -- The exact set of reached recordings with their states, of N recordings.
  module _ (N : ℕ) (ends : EndsBelow N t) (some-state : 0 < M.states) where
    next-within : (n : ℕ) → next_nodes M t n < 2 ^ (M.states * N)
    unfolding next_nodes
    next-within n =
        members-below (M.states * N) (along M t (n / M.states) (n % M.states)) (λ k m.
        let (a, y, l, e) = (member-along M t (n / M.states) (n % M.states) k).0 m in
        subst (λ k. k < M.states * N) (sym e)
        (node-below M.states N (ends _ a y l).1 (stays (n % M.states) _ a y (mod-lt n some-state) l)))

    start-node : (x : ℕ) → M.states * x ≡ M.states * x + 0
    start-node x = sym (add-zero (M.states * x))

    start-within : {x : ℕ} → x < N → one (M.states * x) < 2 ^ (M.states * N)
    start-within {x} h =
        one_below (M.states * N) (M.states * x)
        (subst (λ n. n < M.states * N) (sym (start-node x)) (node-below M.states N h some-state))

    pub reached-exactly : (x y s : ℕ) → x < N → s < M.states
        → Member (M.states * y + s) (reached_nodes M N t x) ↔ ((p : List ℕ) × Leads t p x y × (ends_at M 0 p ≡ s))
    unfolding reached_nodes
    reached-exactly x y s h k = (λ m. there (exact.0 m), λ q. exact.1 (back q))
      where
        exact : Member (M.states * y + s) (closure (next_nodes M t) (M.states * N) (M.states * N) (one (M.states * x)))
            ↔ ((u : ℕ) × Member u (one (M.states * x)) × Reaches Next u (M.states * y + s))
        exact =
            closure-exactly (next_nodes M t) (M.states * N) (one (M.states * x)) (start-within h) (λ n l. next-within n)
            (M.states * y + s)

        there : ((u : ℕ) × Member u (one (M.states * x)) × Reaches Next u (M.states * y + s))
            → (p : List ℕ) × Leads t p x y × (ends_at M 0 p ≡ s)
        there (u, m, r) =
            let (p, z, l, e) = reaches-path r x 0 some-state ((member-one u (M.states * x)).0 m ∙ start-node x) in
            let (f, g) = same-node M.states k (ends-within some-state l) e in
            (p, subst (Leads t p x) (sym f) l, sym g)

        back : ((p : List ℕ) × Leads t p x y × (ends_at M 0 p ≡ s))
            → (u : ℕ) × Member u (one (M.states * x)) × Reaches Next u (M.states * y + s)
        back (p, l, e) = (
          M.states * x,
          (member-one (M.states * x) (M.states * x)).1 refl,
          subst₂ (λ u r. Reaches Next u (M.states * y + r)) (sym (start-node x)) e (path-reaches some-state l),
        )
