-- The images of the standings are read off the sources of pairs (Sources): each standing is added to the images of its sources together
-- with an accepting place.
use Rattle.std.specs.Prelude.{◌≡◌, ℕ, ◌+◌, ◌*◌, ◌%◌, ◌^◌, ◌<◌, ◌≤◌, ◌⊎◌, ◌↔◌, List, ◌++◌, length, drop, replicate, slice_index, slice_set}
use Rattle.std.proofs.Common.{inl, inr, ⊎_elim, sym, ◌∙◌, subst, arith, length-set, length-append, length-drop, drop-set-lt}
use Rattle.std.specs.Prelude.{refl}
use Rattle.std.proofs.Math.Decide.{ℕ_discrete}
use Rattle.std.proofs.lemmas.List.{length-replicate}
use Rattle.theory.specs.Places.{Member, one, union}
use Rattle.theory.specs.PlacesLaws.{member-none, member-one, member_union, member_below, member-union_over}
use Rattle.theory.specs.PlacesShift.{member-cut}
use Rattle.places.specs.Joined.{joined}
use Rattle.finding.specs.Padded.{cleared-zero, cleared-behind}
use Rattle.finding.specs.Sources.{sources_of}
use Rattle.finding.specs.SourcesLaws.{Written, written}

-- The sources of a standing together with some accepting places, of those below n.
pub record Ended (w n : ℕ) (Accepting : ℕ → Type 0) (from : List ℕ) (to r : ℕ) : Type 0 where
  pub exactly : (i : ℕ) → Member i r ↔ ((y : ℕ) × (y < n) × Accepting y × Member i (sources_of w from (to, y)))

-- They are joined: a standing has one word for each place, w words apart.
pub ended-joined : (w n accepting : ℕ) (from : List ℕ) (to r : ℕ) → accepting < 2 ^ 64 → r ≡ joined from to w (accepting % 2 ^ n)
    → Ended w n (λ y. Member y accepting) from to r
ended-joined w n accepting from to r small e =
    record {
      exactly = λ i. (
        λ m.
            let (y, l, a, b) = (member-union_over words 64 (accepting % 2 ^ n) i).0 (subst (Member i) e m) in
            let (h, k) = (member-cut n y accepting).0 a in
            (y, h, k, b),
        λ (y, h, k, b). subst (Member i) (sym e)
            ((member-union_over words 64 (accepting % 2 ^ n) i).1 (y, member_below 64 accepting y small k, (member-cut n y accepting).1 (h, k), b)),
      );
    }
  where
    words : ℕ → ℕ
    words y = slice_index from (w * y + to)

-- A standing is added to the images of some standings.
pub record Added (Those : ℕ → Type 0) (to : ℕ) (out out' : List ℕ) : Type 0 where
  pub size : length out' ≡ length out
  pub kept : (n : ℕ) → ((i : ℕ) → Those i → i < n) → drop n out' ≡ drop n out
  pub exactly : (i j : ℕ) → Member j (slice_index out' i) ↔ (Member j (slice_index out i) ⊎ ((j ≡ to) × Those i))

pub added_none : {Those : ℕ → Type 0} (to : ℕ) (out : List ℕ) → ((i : ℕ) → ¬ Those i) → Added Those to out out
added_none {Those} to out nothing = record { size = refl; kept = λ n h. refl; exactly = λ i j. (inl, back i j) }
  where
    back : (i j : ℕ) → Member j (slice_index out i) ⊎ ((j ≡ to) × Those i) → Member j (slice_index out i)
    back i j (inl m) = m
    back i j (inr (e, p)) = absurd (nothing i p)

pub added-same : {Those Those' : ℕ → Type 0} {to : ℕ} {out out' : List ℕ} → ((i : ℕ) → Those' i ↔ Those i) → Added Those to out out'
    → Added Those' to out out'
added-same same a =
    record {
      size = a.size;
      kept = λ n h. a.kept n (λ i p. h i ((same i).1 p));
      exactly = λ i j. (
        λ m. ⊎_elim inl (λ (e, p). inr (e, (same i).1 p)) ((a.exactly i j).0 m),
        λ m. (a.exactly i j).1 (⊎_elim inl (λ (e, p). inr (e, (same i).0 p)) m),
      );
    }

pub added_more : {Those Those' : ℕ → Type 0} (k : ℕ) (to : ℕ) (out out' : List ℕ) → ((i : ℕ) → Those' i ↔ (Those i ⊎ (i ≡ k)))
    → k < length out' → Added Those to out out' → Added Those' to out (slice_set out' k (union (slice_index out' k) (one to)))
added_more {Those} {Those'} k to out out' turn room a =
    record {
      size = length-set out' k more ∙ a.size;
      kept = λ n l.
          drop-set-lt n out' k more (l k ((turn k).1 (inr refl)))
          ∙ a.kept n (λ i p. l i ((turn i).1 (inl p)));
      exactly = λ i j. (λ m. there i j m (written out' k more i room), λ m. back i j m (written out' k more i room));
    }
  where
    more : ℕ
    more = union (slice_index out' k) (one to)

    old : (i j : ℕ) → Member j (slice_index out i) ⊎ ((j ≡ to) × Those i) → Member j (slice_index out i) ⊎ ((j ≡ to) × Those' i)
    old i j (inl m) = inl m
    old i j (inr (f, p)) = inr (f, (turn i).1 (inl p))

    there : (i j : ℕ) → Member j (slice_index (slice_set out' k more) i) → Written out' k more i
        → Member j (slice_index out i) ⊎ ((j ≡ to) × Those' i)
    there i j m (inr (e, f)) = old i j ((a.exactly i j).0 (subst (Member j) f m))
    there i j m (inl (e, f)) = either ((member_union j (slice_index out' k) (one to)).0 (subst (Member j) f m))
      where
        either : Member j (slice_index out' k) ⊎ Member j (one to) → Member j (slice_index out i) ⊎ ((j ≡ to) × Those' i)
        either (inl n) = old i j ((a.exactly i j).0 (subst (λ z. Member j (slice_index out' z)) (sym e) n))
        either (inr n) = inr ((member-one j to).0 n, (turn i).1 (inr e))

    grown : (i j : ℕ) → Member j (slice_index out' i) → Written out' k more i → Member j (slice_index (slice_set out' k more) i)
    grown i j m (inr (e, f)) = subst (Member j) (sym f) m
    grown i j m (inl (e, f)) =
        subst (Member j) (sym f) ((member_union j (slice_index out' k) (one to)).1 (inl (subst (λ z. Member j (slice_index out' z)) e m)))

    back : (i j : ℕ) → Member j (slice_index out i) ⊎ ((j ≡ to) × Those' i) → Written out' k more i
        → Member j (slice_index (slice_set out' k more) i)
    back i j (inl m) w = grown i j ((a.exactly i j).1 (inl m)) w
    back i j (inr (q, p)) w = new ((turn i).0 p) w
      where
        new : Those i ⊎ (i ≡ k) → Written out' k more i → Member j (slice_index (slice_set out' k more) i)
        new (inl p) w = grown i j ((a.exactly i j).1 (inr (q, p))) w
        new (inr e) (inl (g, f)) = subst (Member j) (sym f) ((member_union j (slice_index out' k) (one to)).1 (inr ((member-one j to).1 q)))
        new (inr e) (inr (g, f)) = absurd (g e)

-- All sources of pairs are standings.
abbrev pub Inside : ℕ → ℕ → List ℕ → Type 0
Inside count n from = (j y i : ℕ) → j < count → y < n → Member i (sources_of count from (j, y)) → i < count

-- The standings below k are in the images of their sources, and what lies beyond the standings is as it was.
pub record Turned (count n accepting : ℕ) (from : List ℕ) (k : ℕ) (out out' : List ℕ) : Type 0 where
  pub size : length out' ≡ length out
  pub kept : drop count out' ≡ drop count out
  pub exactly : (i j : ℕ) → i < count
      → Member j (slice_index out' i) ↔ ((j < k) × (y : ℕ) × (y < n) × Member y accepting × Member i (sources_of count from (j, y)))

-- What ends at a standing are standings.
pub ended-inside : (count n : ℕ) {Accepting : ℕ → Type 0} (from : List ℕ) (to r : ℕ) → Inside count n from → to < count
    → Ended count n Accepting from to r → (i : ℕ) → Member i r → i < count
ended-inside count n from to r inside h e i m =
    let (y, k, a, o) = (e.exactly i).0 m in
    inside to y i h k o

module _ (count n accepting : ℕ) (from out : List ℕ) where
  pub turned_none : Turned count n accepting from 0 (replicate count 0 ++ drop count out) (replicate count 0 ++ drop count out)
  turned_none =
      record {
        size = refl;
        kept = refl;
        exactly = λ i j h. (
          λ m. absurd (member-none j (subst (Member j) (cleared-zero count i out h) m)),
          λ r. absurd (omega (arith, r.0)),
        );
      }

  -- What was cleared before.
  pub turned-cleared : (k : ℕ) (out' : List ℕ) → count ≤ length out
      → Turned count n accepting from k (replicate count 0 ++ drop count out) out' → Turned count n accepting from k out out'
  turned-cleared k out' room t =
      record {
        size = t.size ∙ length-append (replicate count 0) (drop count out)
            ∙ omega (arith, length-replicate {A = ℕ} count 0, length-drop count out);
        kept = t.kept ∙ cleared-behind count out;
        exactly = t.exactly;
      }

  pub turned_more : (k those : ℕ) (out' out'' : List ℕ) → Inside count n from → k < count → Turned count n accepting from k out out'
      → Ended count n (λ y. Member y accepting) from k those → Added (λ i. Member i those) k out' out''
      → Turned count n accepting from (k + 1) out out''
  turned_more k those out' out'' inside l t e a =
      record {
        size = a.size ∙ t.size;
        kept = a.kept count (ended-inside count n from k those inside l e) ∙ t.kept;
        exactly = λ i j h. (λ m. there i j h ((a.exactly i j).0 m), λ (l, y, o, b, m). back i j h l y o b m (ℕ_discrete j k));
      }
    where
      there : (i j : ℕ) → i < count → Member j (slice_index out' i) ⊎ ((j ≡ k) × Member i those)
          → (j < k + 1) × (y : ℕ) × (y < n) × Member y accepting × Member i (sources_of count from (j, y))
      there i j h (inl m) = let (l, y, o, b, r) = (t.exactly i j h).0 m in (omega arith, y, o, b, r)
      there i j h (inr (q, m)) =
          let (y, o, b, r) = (e.exactly i).0 m in
          (omega arith, y, o, b, subst (λ z. Member i (sources_of count from (z, y))) (sym q) r)

      back : (i j : ℕ) → i < count → j < k + 1 → (y : ℕ) → y < n → Member y accepting → Member i (sources_of count from (j, y)) → Dec (j ≡ k)
          → Member j (slice_index out'' i)
      back i j h l y o b m (yes q) =
          (a.exactly i j).1 (inr (q, (e.exactly i).1 (y, o, b, subst (λ z. Member i (sources_of count from (z, y))) q m)))
      back i j h l y o b m (no q) = (a.exactly i j).1 (inl ((t.exactly i j h).1 (omega arith, y, o, b, m)))
