-- Laws of adding links to a table of follow sets (theory's `link`): over tables behind one another, where no entry's place is among the
-- ends, and one end after the other.
use Rattle.std.specs.Prelude.{ℕ, zero, suc, ◌+◌, ◌-◌, ◌^◌, ◌≤◌, ◌<◌, Bool, true, false, List, [], ◌∷◌, ◌++◌, ◌↔◌, ◌≢◌, ◌⊎◌, ◌≡◌, refl, length, take, drop, get_or, set}
use Rattle.std.proofs.Common.{inl, inr, ⊎_elim, sym, ap, ap₂, ◌∙◌, subst, add-zero, arith, length-set, get_or-set_same, get_or-set_other, ext_get_or}
use Rattle.std.proofs.Math.Decide.{ℕ_discrete}
use Rattle.std.specs.Int.Bits.{bit_and, or_zero_r}
use Rattle.std.specs.Int.Count.{count_trailing_zeros}
use Rattle.theory.specs.Places.{Member, member, none, union, when}
use Rattle.theory.specs.PlacesLaws.{member-test, member-none, member_union, equal-members}
use Rattle.theory.specs.Automaton.{link}
use Rattle.theory.proofs.AutomatonLaws.{length-link, member-link}
use Rattle.places.specs.NextPlace.{trailing-here}
use Rattle.places.specs.Followed.{least-left}

-- Tables behind one another.
pub link-append : (ends more k : ℕ) (s t : List ℕ) → link ends more k (s ++ t) ≡ link ends more k s ++ link ends more (k + length s) t
unfolding link
link-append ends more k [] t = ap (λ (n : ℕ). link ends more n t) (sym (add-zero k))
link-append ends more k (x ∷ s) t =
    ap₂ ◌∷◌ refl (link-append ends more (suc k) s t ∙ ap (λ (n : ℕ). link ends more (suc k) s ++ link ends more n t) (omega arith))

-- An entry whose place is not among the ends.
apart : (s more : ℕ) (b : Bool) → ¬ (b ≡ true) → union s (when b more) ≡ s
apart s more true n = absurd (n refl)
apart s more false n = or_zero_r s

-- A table none of whose places is among the ends.
pub link-none : (ends more k : ℕ) (t : List ℕ) → ((x : ℕ) → k ≤ x → x < k + length t → ¬ Member x ends) → link ends more k t ≡ t
unfolding link
link-none ends more k [] h = refl
link-none ends more k (s ∷ t) h =
    ap₂ ◌∷◌ (apart s more (member k ends) (λ e. h k (omega arith) (omega arith) ((member-test k ends).0 e)))
    (link-none ends more (suc k) t (λ x l u. h x (omega arith) (omega arith)))

-- The entries before all of the ends.
take-from : (ends more n k : ℕ) (t : List ℕ) → ((x : ℕ) → Member x ends → n + k ≤ x) → take k (link ends more n t) ≡ take k t
unfolding link
take-from ends more n zero t h = refl
take-from ends more n (suc k) [] h = refl
take-from ends more n (suc k) (s ∷ t) h =
    ap₂ ◌∷◌ (apart s more (member n ends) (λ e. omega (arith, h n ((member-test n ends).0 e))))
    (take-from ends more (suc n) k t (λ x m. omega (arith, h x m)))

pub take_link : (ends more k : ℕ) (t : List ℕ) → ((x : ℕ) → Member x ends → k ≤ x) → take k (link ends more 0 t) ≡ take k t
take_link ends more k t h = take-from ends more 0 k t (λ x m. omega (arith, h x m))

-- The entries behind all of the ends.
drop-from : (ends more n k : ℕ) (t : List ℕ) → ((x : ℕ) → Member x ends → x < n + k) → drop k (link ends more n t) ≡ drop k t
unfolding link
drop-from ends more n zero t h = link-none ends more n t (λ x l u m. omega (arith, h x m))
drop-from ends more n (suc k) [] h = refl
drop-from ends more n (suc k) (s ∷ t) h = drop-from ends more (suc n) k t (λ x m. omega (arith, h x m))

pub drop-link : (ends more k : ℕ) (t : List ℕ) → ((x : ℕ) → Member x ends → x < k) → drop k (link ends more 0 t) ≡ drop k t
drop-link ends more k t h = drop-from ends more 0 k t (λ x m. omega (arith, h x m))

-- Links in the first entries alone.
pub link-take : (ends more n k : ℕ) (t : List ℕ) → take k (link ends more n t) ≡ link ends more n (take k t)
unfolding link
link-take ends more n zero t = refl
link-take ends more n (suc k) [] = refl
link-take ends more n (suc k) (s ∷ t) = ap₂ ◌∷◌ refl (link-take ends more (suc n) k t)

-- The entries of a linked table.
member-linked : (ends more : ℕ) (t : List ℕ) (j y : ℕ) → j < length t
    → Member y (get_or (link ends more 0 t) j 0) ↔ (Member y (get_or t j 0) ⊎ (Member j ends × Member y more))
member-linked ends more t j y h = let e : 0 + j ≡ j = omega arith in rw e at (member-link ends more 0 t j y h)

-- The ends one at a time: the entry of one of them, then those of the ends that are left.
module _ (ends rest more i : ℕ) (here : Member i ends) (left : (x : ℕ) → Member x rest ↔ (Member x ends × ¬ (x ≡ i))) (t : List ℕ) where
  abbrev linked : List ℕ
  linked = set t i (union (get_or t i 0) more)

  entry : (j : ℕ) → j < length t → j ≡ i → get_or linked j 0 ≡ union (get_or t j 0) more
  entry j h e = rw e (get_or-set_same t i (union (get_or t i 0) more) 0 (rw e at h))

  other : (j : ℕ) → ¬ (j ≡ i) → get_or linked j 0 ≡ get_or t j 0
  other j e = get_or-set_other t i j (union (get_or t i 0) more) 0 e

  there : (j y : ℕ) → j < length t → Dec (j ≡ i) → Member y (get_or linked j 0) ⊎ (Member j rest × Member y more)
      → Member y (get_or t j 0) ⊎ (Member j ends × Member y more)
  there j y h d (inr (a, b)) = inr (((left j).0 a).0, b)
  there j y h (yes e) (inl m) =
      ⊎_elim inl (λ b. inr (rw e here, b)) ((member_union y (get_or t j 0) more).0 (subst (Member y) (entry j h e) m))
  there j y h (no e) (inl m) = inl (subst (Member y) (other j e) m)

  back : (j y : ℕ) → j < length t → Dec (j ≡ i) → Member y (get_or t j 0) ⊎ (Member j ends × Member y more)
      → Member y (get_or linked j 0) ⊎ (Member j rest × Member y more)
  back j y h (yes e) (inl m) = inl (subst (Member y) (sym (entry j h e)) ((member_union y (get_or t j 0) more).1 (inl m)))
  back j y h (yes e) (inr (a, b)) = inl (subst (Member y) (sym (entry j h e)) ((member_union y (get_or t j 0) more).1 (inr b)))
  back j y h (no e) (inl m) = inl (subst (Member y) (sym (other j e)) m)
  back j y h (no e) (inr (a, b)) = inr ((left j).1 (a, e), b)

  pub link-one : link rest more 0 linked ≡ link ends more 0 t
  link-one =
      ext_get_or 0 (link rest more 0 linked) (link ends more 0 t) (omega (arith, long, length-link ends more 0 t)) λ j h.
      let k : j < length t = omega (arith, long) in
      let g : j < length linked = omega (arith, length-link rest more 0 linked) in
      equal-members (get_or (link rest more 0 linked) j 0) (get_or (link ends more 0 t) j 0) λ y. (
        λ m. (member-linked ends more t j y k).1 (there j y k (ℕ_discrete j i) ((member-linked rest more linked j y g).0 m)),
        λ m. (member-linked rest more linked j y g).1 (back j y k (ℕ_discrete j i) ((member-linked ends more t j y k).0 m)),
      )
    where
      long : length (link rest more 0 linked) ≡ length t
      long = length-link rest more 0 linked ∙ length-set t i (union (get_or t i 0) more)

-- Linking the ends of a word, the least first: what is left to link gives the table that the whole gives.

pub link-turn : (ends more : ℕ) (t : List ℕ) → ends ≢ 0 → ends < 2 ^ 64
    → link (bit_and ends (ends - 1)) more 0 (set t (count_trailing_zeros 64 ends) (union (get_or t (count_trailing_zeros 64 ends) 0) more))
    ≡ link ends more 0 t
link-turn ends more t d h =
    link-one ends (bit_and ends (ends - 1)) more (count_trailing_zeros 64 ends) (trailing-here 64 ends d h) (least-left 64 ends d h) t

pub link-over : (more : ℕ) (t : List ℕ) → link none more 0 t ≡ t
link-over more t = link-none none more 0 t (λ x l u. member-none x)
