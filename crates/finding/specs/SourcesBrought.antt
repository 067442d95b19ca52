-- The sources that a label brings from a place are the same for all places that it enters: they are gathered once, and given to each of these
-- (Sources).
use Rattle.std.specs.Prelude.{◌≡◌, ℕ, ◌+◌, ◌-◌, ◌*◌, ◌^◌, ◌<◌, ◌≤◌, ◌≢◌, ◌⊎◌, ◌↔◌, List, length, bit_and, slice_index, slice_set}
use Rattle.std.proofs.Common.{inl, inr, ⊎_elim, sym, ap, ◌∙◌, subst, arith, get_or-set_same}
use Rattle.std.specs.Prelude.{refl}
use Rattle.std.specs.Int.Count.{count_trailing_zeros}
use Rattle.theory.specs.Places.{Member, one, union}
use Rattle.theory.specs.PlacesLaws.{member-none, member-one, member_union}
use Rattle.places.specs.Followed.{passed-turn}
use Rattle.places.specs.NextPlace.{trailing-here}
use Rattle.finding.specs.Sources.{sources_of, Sources, Gained, At, Followed, Moved}
use Rattle.finding.specs.SourcesLaws.{Written, written, gained-same, gained-then, followed-gained}

-- What the label a brings from the place p with the standings taken: `met` are the standings that it leads to, and `moved` has for each
-- standing the sources of all pairs that it comes from.
pub record Brought (moves : List ℕ) (count a p : ℕ) (Taken : ℕ → Type 0) (from moved : List ℕ) (met : ℕ) : Type 0 where
  pub small : (t : ℕ) → Member t met → t < count
  pub complete : (s t : ℕ) → Taken s → t ≡ slice_index moves (32 * s + a) → t < count
      → Member t met × ((i : ℕ) → Member i (sources_of count from (s, p)) → Member i (slice_index moved t))
  pub sound : (t i : ℕ) → t < count → Member i (slice_index moved t)
      → (s : ℕ) × Taken s × (t ≡ slice_index moves (32 * s + a)) × Member i (sources_of count from (s, p))

-- The sources that `moved` has for some standings, with some places.
abbrev pub Given : (ℕ → Type 0) → List ℕ → (ℕ → Type 0) → ℕ × ℕ → ℕ → Type 0
Given Met moved Next v i = Next v.1 × Met v.0 × Member i (slice_index moved v.0)

-- The standings that were met got the sources that `moved` has for them, with the place next.
abbrev pub Received : ℕ → ℕ → List ℕ → ℕ → Sources → Sources → Type 0
Received count met moved next X Y = Gained count (Given (λ t. Member t met) moved (λ y. y ≡ next)) X Y

-- What was brought and then given to some places was passed on over the steps to them.
pub followed-given : {moves : List ℕ} {count a p : ℕ} {Taken : ℕ → Type 0} {moved : List ℕ} {met : ℕ} {X Y : Sources} (Next : ℕ → Type 0)
    → ((s : ℕ) → Taken s → s < count) → Brought moves count a p Taken X.from moved met
    → Gained count (Given (λ t. Member t met) moved Next) X Y → Followed count (Moved moves count a p Taken Next) X Y
followed-given {count = count} {p = p} {X = X} Next standing b g =
    followed-gained g
    (λ u v i (e, t, n, m, l) k.
    let r = b.complete u.0 v.0 t m l in
    (n, r.0, r.1 i (subst (λ y. Member i (sources_of count X.from (u.0, y))) e k)))
    (λ v i (n, t, k).
    let l = b.small v.0 t in
    let r = b.sound v.0 i l k in
    ((r.0, p), standing r.0 r.1, r.3, (refl, r.1, n, r.2, l)))

-- What is brought may be named otherwise.
pub brought-as : {moves : List ℕ} {count a p : ℕ} {Taken : ℕ → Type 0} {from moved moved' : List ℕ} {met met' : ℕ} → moved' ≡ moved → met' ≡ met
    → Brought moves count a p Taken from moved met → Brought moves count a p Taken from moved' met'
brought-as {moves} {count} {a} {p} {Taken} {from} e f b =
    subst (λ (z : List ℕ × ℕ). Brought moves count a p Taken from z.0 z.1) (λ k. (sym e k, sym f k)) b

-- What is brought from one standing more.

module _ (moves : List ℕ) (count a p : ℕ) (from : List ℕ) where
  pub brought-none : {Taken : ℕ → Type 0} (moved : List ℕ) → ((t : ℕ) → t < count → slice_index moved t ≡ 0) → ((s : ℕ) → ¬ Taken s)
      → Brought moves count a p Taken from moved 0
  brought-none moved zeros nothing =
      record {
        small = λ t m. absurd (member-none t m);
        complete = λ s t k e l. absurd (nothing s k);
        sound = λ t i l m. absurd (member-none i (subst (Member i) (zeros t l) m));
      }

  -- The same standings are taken, but for some that lead nowhere.
  pub brought-same : {Taken Taken' : ℕ → Type 0} (moved : List ℕ) (met : ℕ) → ((s : ℕ) → Taken' s → slice_index moves (32 * s + a) < count → Taken s)
      → ((s : ℕ) → Taken s → Taken' s) → Brought moves count a p Taken from moved met → Brought moves count a p Taken' from moved met
  brought-same moved met there back b =
      record {
        small = b.small;
        complete = λ s t k e l. b.complete s t (there s k (subst (◌< count) e l)) e l;
        sound = λ t i l m. let r = b.sound t i l m in (r.0, back r.0 r.1, r.2, r.3);
      }

  module _ {Taken Taken' : ℕ → Type 0} (s : ℕ) (turn : (x : ℕ) → Taken' x ↔ (Taken x ⊎ (x ≡ s))) (moved : List ℕ) (met : ℕ)
      (b : Brought moves count a p Taken from moved met) where
    -- The standing leads nowhere.
    pub brought-out : count ≤ slice_index moves (32 * s + a) → Brought moves count a p Taken' from moved met
    brought-out l =
        brought-same moved met
        (λ x k h. ⊎_elim (λ k. k) (λ q. absurd (omega (arith, ap (λ z. slice_index moves (32 * z + a)) q))) ((turn x).0 k))
        (λ x k. (turn x).1 (inl k)) b

    -- It leads to another, below the count.
    module _ (to : ℕ) (e : to ≡ slice_index moves (32 * s + a)) (l : to < count) (room : to < length moved) where
      abbrev new : ℕ
      new = slice_index from (count * p + s)

      abbrev all : ℕ
      all = union (slice_index moved to) new

      pub brought-more : Brought moves count a p Taken' from (slice_set moved to (union (slice_index moved to) (slice_index from (count * p + s))))
          (union met (one to))
      brought-more =
          record {
            small = λ t m.
                ⊎_elim (b.small t) (λ q. subst (◌< count) (sym ((member-one t to).0 q)) l) ((member_union t met (one to)).0 m);
            complete = λ x t k f h. complete x t f h ((turn x).0 k);
            sound = λ t i h m. sound t i h m (written moved to all t room);
          }
        where
          kept : (t i : ℕ) → Member i (slice_index moved t) → Written moved to all t → Member i (slice_index (slice_set moved to all) t)
          kept t i m (inl (q, f)) =
              subst (Member i) (sym f) ((member_union i (slice_index moved to) new).1 (inl (subst (λ z. Member i (slice_index moved z)) q m)))
          kept t i m (inr (q, f)) = subst (Member i) (sym f) m

          complete : (x t : ℕ) → t ≡ slice_index moves (32 * x + a) → t < count → Taken x ⊎ (x ≡ s)
              → Member t (union met (one to))
              × ((i : ℕ) → Member i (sources_of count from (x, p)) → Member i (slice_index (slice_set moved to all) t))
          complete x t f h (inl k) =
              let r = b.complete x t k f h in (
                (member_union t met (one to)).1 (inl r.0),
                λ i m. kept t i (r.1 i m) (written moved to all t room),
              )
          complete x t f h (inr q) =
              let g : t ≡ to = f ∙ ap (λ z. slice_index moves (32 * z + a)) q ∙ sym e in (
                (member_union t met (one to)).1 (inr ((member-one t to).1 g)),
                λ i m. subst (λ z. Member i (slice_index (slice_set moved to all) z)) (sym g)
                    (subst (Member i) (sym (get_or-set_same moved to all 0 room))
                    ((member_union i (slice_index moved to) new).1 (inr (subst (λ z. Member i (sources_of count from (z, p))) q m)))),
              )

          earlier : (t i : ℕ) → t < count → Member i (slice_index moved t)
              → (x : ℕ) × Taken' x × (t ≡ slice_index moves (32 * x + a)) × Member i (sources_of count from (x, p))
          earlier t i h m = let r = b.sound t i h m in (r.0, (turn r.0).1 (inl r.1), r.2, r.3)

          sound : (t i : ℕ) → t < count → Member i (slice_index (slice_set moved to all) t) → Written moved to all t
              → (x : ℕ) × Taken' x × (t ≡ slice_index moves (32 * x + a)) × Member i (sources_of count from (x, p))
          sound t i h m (inr (q, f)) = earlier t i h (subst (Member i) f m)
          sound t i h m (inl (q, f)) = either ((member_union i (slice_index moved to) new).0 (subst (Member i) f m))
            where
              either : Member i (slice_index moved to) ⊎ Member i new
                  → (x : ℕ) × Taken' x × (t ≡ slice_index moves (32 * x + a)) × Member i (sources_of count from (x, p))
              either (inl n) = earlier t i h (subst (λ z. Member i (slice_index moved z)) (sym q) n)
              either (inr n) = (s, (turn s).1 (inr refl), q ∙ e, n)

-- What is given to one standing more, and to one place more.

module _ {Those Those' : ℕ → Type 0} (k : ℕ) (turn : (x : ℕ) → Those' x ↔ (Those x ⊎ (x ≡ k))) where
  pub standing-given : (moved : List ℕ) (next : ℕ) (v : ℕ × ℕ) (i : ℕ)
      → Given Those' moved (λ y. y ≡ next) v i ↔ (Given Those moved (λ y. y ≡ next) v i ⊎ At next k (slice_index moved k) v i)
  standing-given moved next v i = (
    λ (n, t, m).
        ⊎_elim (λ t. inl (n, t, m)) (λ e. inr (n, e, subst (λ z. Member i (slice_index moved z)) e m)) ((turn v.0).0 t),
    ⊎_elim (λ (n, t, m). (n, (turn v.0).1 (inl t), m))
        (λ (n, e, m). (n, (turn v.0).1 (inr e), subst (λ z. Member i (slice_index moved z)) (sym e) m)),
  )

  module _ (n met : ℕ) (moved : List ℕ) {count : ℕ} {X Y : Sources}
      (g : Gained count (Given (λ t. Member t met) moved (λ y. Those y × (y < n))) X Y) where
    -- The place is below n.
    pub place_in : {Z : Sources} → k < n → Received count met moved k Y Z
        → Gained count (Given (λ t. Member t met) moved (λ y. Those' y × (y < n))) X Z
    place_in l r = gained-then g r (λ v i. (
      λ ((q, o), t, m).
          ⊎_elim (λ q. inl ((q, o), t, m)) (λ e. inr (e, t, m)) ((turn v.1).0 q),
      ⊎_elim (λ ((q, o), t, m). (((turn v.1).1 (inl q), o), t, m))
          (λ (e, t, m). (((turn v.1).1 (inr e), subst (◌< n) (sym e) l), t, m)),
    ))

    -- It is not.
    pub place_out : n ≤ k → Gained count (Given (λ t. Member t met) moved (λ y. Those' y × (y < n))) X Y
    place_out l = gained-same g (λ v i. (
      λ ((q, o), t, m). ((⊎_elim (λ q. q) (λ e. absurd (omega arith)) ((turn v.1).0 q), o), t, m),
      λ ((q, o), t, m). (((turn v.1).1 (inl q), o), t, m),
    ))

-- A word with one place.
pub one_place : (s : ℕ) → s ≢ 0 → s < 2 ^ 64 → bit_and s (s - 1) ≡ 0 → (y : ℕ) → Member y s ↔ (y ≡ count_trailing_zeros 64 s)
one_place s d h e y = (
  λ m. ⊎_elim (λ p. absurd (p.1 p.0)) (λ q. q) ((passed-turn s s (λ i m. m) d h y).0 (m, λ n. member-none y (subst (Member y) e n))),
  λ q. subst (λ z. Member z s) (sym q) (trailing-here 64 s d h),
)
