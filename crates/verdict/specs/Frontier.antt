-- Rounds of a closure (theory: Closure) that follow only the places that the round before them added.
use Rattle.std.specs.Prelude.{◌≡◌, ℕ, ◌<◌, ◌⊎◌}
use Rattle.std.proofs.Common.{inl, inr, sym, subst}
use Rattle.theory.specs.Places.{Member, union, union_over}
use Rattle.theory.specs.PlacesLaws.{dec_member, member_union, member-union_over, equal-members}
use Rattle.theory.specs.ClosureLaws.{round}
use Rattle.places.specs.Words.{Without}

-- The places of s that are left to be followed are those of `fresh`: what the others lead to is in s.
pub record Frontier (next : ℕ → ℕ) (n s fresh : ℕ) : Type 0 where
  pub inside : (x : ℕ) → Member x fresh → Member x s
  pub followed : (x : ℕ) → x < n → Member x s → ¬ Member x fresh → (y : ℕ) → Member y (next x) → Member y s

pub frontier-start : (next : ℕ → ℕ) (n s : ℕ) → Frontier next n s s
frontier-start next n s = record { inside = λ x m. m; followed = λ x h m d y k. absurd (d m) }

module _ (next : ℕ → ℕ) (n s fresh : ℕ) (f : Frontier next n s fresh) where
  -- The round that follows `fresh` alone is the round.
  pub frontier-round : union s (union_over next n fresh) ≡ round next n s
  frontier-round = equal-members (union s (union_over next n fresh)) (round next n s) λ y. (
    λ m. (member_union y s (union_over next n s)).1 (there y ((member_union y s (union_over next n fresh)).0 m)),
    λ m. (member_union y s (union_over next n fresh)).1 (back y ((member_union y s (union_over next n s)).0 m)),
  )
    where
      there : (y : ℕ) → Member y s ⊎ Member y (union_over next n fresh) → Member y s ⊎ Member y (union_over next n s)
      there y (inl m) = inl m
      there y (inr m) =
          let (x, h, a, b) = (member-union_over next n fresh y).0 m in
          inr ((member-union_over next n s y).1 (x, h, f.inside x a, b))

      known : (y x : ℕ) → x < n → Member x s → Member y (next x) → Dec (Member x fresh) → Member y s ⊎ Member y (union_over next n fresh)
      known y x h a b (yes k) = inr ((member-union_over next n fresh y).1 (x, h, k, b))
      known y x h a b (no k) = inl (f.followed x h a k y b)

      back : (y : ℕ) → Member y s ⊎ Member y (union_over next n s) → Member y s ⊎ Member y (union_over next n fresh)
      back y (inl m) = inl m
      back y (inr m) = let (x, h, a, b) = (member-union_over next n s y).0 m in known y x h a b (dec_member x fresh)

  -- What a round adds is left to be followed after it.
  pub frontier-turn : (t g : ℕ) → t ≡ union s (union_over next n fresh) → Without t s g → Frontier next n t g
  frontier-turn t g e w =
      record {
        inside = λ x m. ((w x).0 m).0;
        followed = λ x h m d y k. subst (Member y) (sym e)
            ((member_union y s (union_over next n fresh)).1 (reached x h y k (old x m d (dec_member x s)) (dec_member x fresh)));
      }
    where
      old : (x : ℕ) → Member x t → ¬ Member x g → Dec (Member x s) → Member x s
      old x m d (yes a) = a
      old x m d (no a) = absurd (d ((w x).1 (m, a)))

      reached : (x : ℕ) → x < n → (y : ℕ) → Member y (next x) → Member x s → Dec (Member x fresh) → Member y s ⊎ Member y (union_over next n fresh)
      reached x h y k a (yes b) = inr ((member-union_over next n fresh y).1 (x, h, b, k))
      reached x h y k a (no b) = inl (f.followed x h a b y k)
