-- What holds while states are classed by their keys: for the states below s the first state with each key is noted.
use Rattle.std.specs.Prelude.{◌≡◌, ℕ, ◌+◌, ◌-◌, ◌<◌, ◌≤◌, List, [], ◌∷◌, length, get_or, set, replicate}
use mathlib.Core.Path.{sym, ap, ◌∙◌}
use native.Mathlib.Decide.{ℕ_discrete, dec_lt}
use native.Mathlib.Omega.{arith}
use lib.ListN.{length-set, length-replicate, get_or-replicate}
use lib.Seq.{get_or-set_same, get_or-set_other}
use Rattle.theory.specs.Leader.{leader-at-most}
use Rattle.theory.specs.Refinement.{class_at}
use Rattle.theory.specs.Splitting.{first_with, first-same, first_key}
use Rattle.finding.specs.ClassesTold.{key_at}
use Rattle.finding.specs.Filling.{filled_more}

pub record Classing (keys : List ℕ) (s : ℕ) (classes firsts : List ℕ) : Type 0 where
  pub sized : length classes ≡ 256
  pub room : length firsts ≡ 512
  pub classed : (q : ℕ) → q < s → class_at classes q ≡ first_with (key_at keys) q
  pub noted : (q : ℕ) → q < s → get_or firsts (key_at keys q) 0 ≡ first_with (key_at keys) q
  pub below : (k : ℕ) → k < 512 → get_or firsts k 0 ≤ s - 1

pub classing-none : (keys classes : List ℕ) → length classes ≡ 256 → Classing keys 0 classes (replicate 512 0)
classing-none keys classes e =
    record {
      sized = e;
      room = length-replicate {A = ℕ} 512 0;
      classed = λ q h. absurd (omega arith);
      noted = λ q h. absurd (omega arith);
      below = λ k h. omega (arith, get_or-replicate {A = ℕ} 512 k 0 0 h);
    }

first-at-most : (key : ℕ → ℕ) (q : ℕ) → first_with key q ≤ q
first-at-most key q = leader-at-most (λ r. key r ∷ []) q

module _ {keys : List ℕ} {s : ℕ} {classes firsts : List ℕ} (C : Classing keys s classes firsts) (small : s < 256)
    (key : key_at keys s < 512) where
  -- The state that is noted for a key and has it is the first that has it.
  first-noted : key_at keys (get_or firsts (key_at keys s) 0) ≡ key_at keys s → get_or firsts (key_at keys s) 0 ≡ first_with (key_at keys) s
  first-noted e = side (dec_lt (get_or firsts (key_at keys s) 0) s)
    where
      first : ℕ
      first = get_or firsts (key_at keys s) 0

      side : Dec (first < s) → first ≡ first_with (key_at keys) s
      side (yes l) = ap (λ k. get_or firsts k 0) (sym e) ∙ C.noted first l ∙ first-same (key_at keys) first s e
      side (no l) = omega (arith, C.below (key_at keys s) key, first-at-most (key_at keys) s)

  -- Where the state that is noted for a key does not have it, no state before has it.
  first-itself : ¬ (key_at keys (get_or firsts (key_at keys s) 0) ≡ key_at keys s) → s ≡ first_with (key_at keys) s
  first-itself d = side (dec_lt (first_with (key_at keys) s) s)
    where
      l : ℕ
      l = first_with (key_at keys) s

      side : Dec (l < s) → s ≡ l
      side (no h) = omega (arith, first-at-most (key_at keys) s)
      side (yes h) =
          let same : key_at keys l ≡ key_at keys s = first_key (key_at keys) s in
          let found : get_or firsts (key_at keys s) 0 ≡ l =
          ap (λ k. get_or firsts k 0) (sym same) ∙ C.noted l h ∙ first-same (key_at keys) l s same in
          absurd (d (ap (key_at keys) found ∙ same))

  classed-more : (c : ℕ) → c ≡ first_with (key_at keys) s → (q : ℕ) → q < s + 1 → class_at (set classes s c) q ≡ first_with (key_at keys) q
  classed-more c e = filled_more (λ q n. n ≡ first_with (key_at keys) q) classes s c (omega (arith, C.sized)) C.classed e

  -- The state s is in the class of one before.
  pub classing-joins : key_at keys (get_or firsts (key_at keys s) 0) ≡ key_at keys s
      → Classing keys (s + 1) (set classes s (get_or firsts (key_at keys s) 0)) firsts
  classing-joins e =
      record {
        sized = length-set classes s (get_or firsts (key_at keys s) 0) ∙ C.sized;
        room = C.room;
        classed = classed-more (get_or firsts (key_at keys s) 0) (first-noted e);
        noted = λ q h. side q h (ℕ_discrete q s);
        below = λ k h. omega (arith, C.below k h);
      }
    where
      side : (q : ℕ) → q < s + 1 → Dec (q ≡ s) → get_or firsts (key_at keys q) 0 ≡ first_with (key_at keys) q
      side q h (yes d) = rw d (first-noted e)
      side q h (no d) = C.noted q (omega arith)

  -- The state s is the first of a class.
  pub classing-leads : ¬ (key_at keys (get_or firsts (key_at keys s) 0) ≡ key_at keys s)
      → Classing keys (s + 1) (set classes s s) (set firsts (key_at keys s) s)
  classing-leads d =
      record {
        sized = length-set classes s s ∙ C.sized;
        room = length-set firsts (key_at keys s) s ∙ C.room;
        classed = classed-more s (first-itself d);
        noted = λ q h. side q h (ℕ_discrete q s);
        below = λ k h. bound k h (ℕ_discrete k (key_at keys s));
      }
    where
      here : get_or (set firsts (key_at keys s) s) (key_at keys s) 0 ≡ s
      here = get_or-set_same firsts (key_at keys s) s 0 (omega (arith, key, C.room))

      apart : (q : ℕ) → q < s → ¬ (key_at keys q ≡ key_at keys s)
      apart q h e = absurd (omega (arith, first-same (key_at keys) q s e, first-itself d, first-at-most (key_at keys) q))

      side : (q : ℕ) → q < s + 1 → Dec (q ≡ s) → get_or (set firsts (key_at keys s) s) (key_at keys q) 0 ≡ first_with (key_at keys) q
      side q h (yes e) = rw e (here ∙ first-itself d)
      side q h (no e) =
          let before : q < s = omega arith in
          get_or-set_other firsts (key_at keys s) (key_at keys q) s 0 (apart q before) ∙ C.noted q before

      bound : (k : ℕ) → k < 512 → Dec (k ≡ key_at keys s) → get_or (set firsts (key_at keys s) s) k 0 ≤ s + 1 - 1
      bound k h (yes e) = rw e (omega (arith, here))
      bound k h (no e) = omega (arith, get_or-set_other firsts (key_at keys s) k s 0 e, C.below k h)
