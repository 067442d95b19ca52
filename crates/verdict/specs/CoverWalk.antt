-- What a loop over the places of a set keeps, which goes from a place of the set to the next.
use Rattle.std.specs.Prelude.{◌≡◌, ℕ, ◌+◌, ◌%◌, ◌^◌, ◌<◌, ◌≤◌, List}
use Rattle.std.proofs.Common.{sym, ap, ◌∙◌, add-one, arith}
use Rattle.std.proofs.lemmas.Nat.{or_mod}
use Rattle.std.specs.Int.Bits.{or_zero_r}
use Rattle.theory.specs.Places.{Member, union, when, union_over}
use Rattle.theory.specs.PlacesLaws.{member-test}
use Rattle.finding.specs.UnionSteps.{union_over-skip}
use Rattle.places.specs.UnionLaws.{union_assoc}
use Rattle.places.specs.Words.{number_of}
use Rattle.places.specs.NextPlace.{NextPlace}
use Rattle.verdict.specs.CoverTold.{Gains}

-- The places of s below p have been followed: `set` is `start` with what they lead to.
abbrev pub Over : (ℕ → ℕ) → ℕ → ℕ → List ℕ → ℕ → Type 0
Over next s start set p = number_of set ≡ union start (union_over next p s % 2 ^ 1024)

over-start : (next : ℕ → ℕ) (s : ℕ) (set : List ℕ) → Over next s (number_of set) set 0
unfolding union_over
over-start next s set = sym (or_zero_r (number_of set))

over-in : (next : ℕ → ℕ) (s start : ℕ) (set set' : List ℕ) (p : ℕ) → Member p s → Over next s start set p → Gains set (next p) set'
    → Over next s start set' (p + 1)
unfolding union_over
over-in next s start set set' p m o g =
    g ∙ ap (λ x. union x (next p % 2 ^ 1024)) o ∙ union_assoc start (union_over next p s % 2 ^ 1024) (next p % 2 ^ 1024)
    ∙ ap (union start) (sym (or_mod (union_over next p s) (next p) 1024)
    ∙ ap (λ b. union (union_over next p s) (when b (next p)) % 2 ^ 1024) (sym ((member-test p s).1 m))
    ∙ ap (λ x. union_over next x s % 2 ^ 1024) (sym (add-one p)))

-- The walk is at the place p of s: all places of s before it have been followed, and those from `count` on are not wanted.
pub record Walk (next : ℕ → ℕ) (s start count : ℕ) (set : List ℕ) (p : ℕ) : Type 0 where
  pub over : Over next s start set p
  pub here : p < 1024 → Member p s
  pub beyond : (i : ℕ) → count ≤ i → i < p → ¬ Member i s

pub walk_start : (next : ℕ → ℕ) (s count : ℕ) (set : List ℕ) (p : ℕ) → NextPlace s 0 p → Walk next s (number_of set) count set p
walk_start next s count set p n =
    record {
      over = over-start next s set ∙ ap (λ x. union (number_of set) (x % 2 ^ 1024)) (union_over-skip next s 0 p (omega arith) n.passed);
      here = n.here;
      beyond = λ i h. n.passed i (omega arith);
    }

pub walk_turn : (next : ℕ → ℕ) (s start count : ℕ) (set set' : List ℕ) (p r : ℕ) → count ≤ 1024 → p < count
    → Walk next s start count set p → Gains set (next p) set' → NextPlace s (p + 1) r → Walk next s start count set' r
walk_turn next s start count set set' p r few h w g n =
    record {
      over =
          over-in next s start set set' p (w.here (omega arith)) w.over g
          ∙ ap (λ x. union start (x % 2 ^ 1024)) (union_over-skip next s (p + 1) r (n.onward (omega arith)) n.passed);
      here = n.here;
      beyond = λ i k. n.passed i (omega arith);
    }

pub walk_end : (next : ℕ → ℕ) (s start count : ℕ) (set : List ℕ) (p : ℕ) → count ≤ p → Walk next s start count set p → Over next s start set count
walk_end next s start count set p h w =
    w.over ∙ ap (λ x. union start (x % 2 ^ 1024)) (sym (union_over-skip next s count p h w.beyond))
