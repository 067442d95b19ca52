-- The rounds end in a partition that is coarse and stable. Every round keeps it coarse; a round without new leaders changes nothing, and
-- there are no more leaders than states.
use Prim.Native.Nat.{ℕ, zero, suc, ◌≤◌, ◌<◌}
use Rattle.std.specs.Prelude.{Bool, true, false, ◌⊎◌, ◌≡◌, refl, length}
use mathlib.Core.List.{List, [], ◌∷◌, head-eq_of_cons-eq, tail-eq_of_cons-eq}
use Rattle.std.proofs.Math.Logic.{inl, inr}
use Rattle.std.proofs.Math.Path.{sym, ap}
use Rattle.std.proofs.Common.{◌∙◌, arith}
use Rattle.std.proofs.Math.Decide.{dec_le}
use Rattle.std.proofs.Math.ListN.{get_or}
use Rattle.std.proofs.Math.Seq.{ext_get_or}
use Rattle.theory.specs.Path.{nothing}
use Rattle.theory.specs.Deterministic.{Deterministic, run, Complete}
use Rattle.theory.specs.DeterministicLaws.{same_next}
use Rattle.theory.specs.Classes.{Coarse, Stable}
use Rattle.theory.specs.NumberLists.{tabulate-length, tabulate-at, tabulate-same}
use Rattle.theory.specs.Leader.{leader, leader-at-most, leader-key, leader-same, same-leader}
use Rattle.theory.specs.Leaders.{Led, leaders, leaders-at-most, leaders-same}
use Rattle.theory.specs.Refinement.{class_at, flag_number, signature, round, rounds, classes}

flag_same : (a b : Bool) → flag_number a ≡ flag_number b → a ≡ b
unfolding flag_number
flag_same true true e = refl
flag_same true false e = absurd (omega arith)
flag_same false true e = absurd (omega arith)
flag_same false false e = refl

-- States with one signature agree in each part of it.
module _ (D : Deterministic) (s : List ℕ) (q r : ℕ) (e : signature D s q ≡ signature D s r) where
  signature-flag : D.accepting q ≡ D.accepting r
  unfolding signature
  signature-flag = flag_same _ _ (head-eq_of_cons-eq e)

  signature-class : class_at s q ≡ class_at s r
  unfolding signature
  signature-class = head-eq_of_cons-eq (tail-eq_of_cons-eq e)

  signature-next : (v : ℕ) → v < D.symbols → class_at s (D.next q v) ≡ class_at s (D.next r v)
  unfolding signature
  signature-next v h =
      sym (tabulate-at (λ v. class_at s (D.next q v)) D.symbols v h)
      ∙ ap (λ l. get_or l v 0) (tail-eq_of_cons-eq (tail-eq_of_cons-eq e))
      ∙ tabulate-at (λ v. class_at s (D.next r v)) D.symbols v h

signature-same : (D : Deterministic) (s : List ℕ) (q r : ℕ) → D.accepting q ≡ D.accepting r → class_at s q ≡ class_at s r
    → ((v : ℕ) → v < D.symbols → class_at s (D.next q v) ≡ class_at s (D.next r v)) → signature D s q ≡ signature D s r
unfolding signature
signature-same D s q r f c n =
    let rest = tabulate-same (λ v. class_at s (D.next q v)) (λ v. class_at s (D.next r v)) D.symbols n in
    λ i. flag_number (f i) ∷ c i ∷ rest i

round-at : (D : Deterministic) (s : List ℕ) (q : ℕ) → q < D.states → class_at (round D s) q ≡ leader (signature D s) q
unfolding round
round-at D s q h = tabulate-at (leader (signature D s)) D.states q h

round-led : (D : Deterministic) (s : List ℕ) → Led D.states (class_at (round D s))
round-led D s =
    record {
      at_most = λ q h. omega (arith, round-at D s q h, leader-at-most (signature D s) q);
      leads = λ q h.
          let l : ℕ = leader (signature D s) q in
          let k : l < D.states = omega (arith, leader-at-most (signature D s) q) in
          ap (class_at (round D s)) (round-at D s q h)
          ∙ round-at D s l k
          ∙ leader-same (signature D s) l q (leader-key (signature D s) q)
          ∙ sym (round-at D s q h);
    }

pub rounds-led : (D : Deterministic) (n : ℕ) → Led D.states (class_at (rounds D n))
unfolding rounds
rounds-led D zero =
    let at = tabulate-at (λ q. 0) D.states in
    record {
      at_most = λ q h. omega (arith, at q h);
      leads = λ q h. ap (class_at (rounds D zero)) (at q h) ∙ at 0 (omega arith) ∙ sym (at q h);
    }
rounds-led D (suc n) = round-led D (rounds D n)

rounds-length : (D : Deterministic) (n : ℕ) → length (rounds D n) ≡ D.states
unfolding rounds round
rounds-length D zero = tabulate-length (λ q. 0) D.states
rounds-length D (suc n) = tabulate-length (leader (signature D (rounds D n))) D.states

-- States with the same continuations are in one class after every round.
round-coarse : (D : Deterministic) (s : List ℕ) → Complete D → Coarse D (class_at s) → Coarse D (class_at (round D s))
unfolding run
round-coarse D s C A q r h k e =
    let same = signature-same D s q r (e [] nothing) (A q r h k e)
    (λ v l. A (D.next q v) (D.next r v) (C.next q v h l) (C.next r v k l) (same_next D q r v e l)) in
    round-at D s q h ∙ leader-same (signature D s) q r same ∙ sym (round-at D s r k)

pub rounds-coarse : (D : Deterministic) → Complete D → (n : ℕ) → Coarse D (class_at (rounds D n))
unfolding rounds
rounds-coarse D C zero q r h k e = tabulate-at (λ q. 0) D.states q h ∙ sym (tabulate-at (λ q. 0) D.states r k)
rounds-coarse D C (suc n) q r h k e = round-coarse D (rounds D n) C (rounds-coarse D C n) q r h k e

module _ (D : Deterministic) (s : List ℕ) (L : Led D.states (class_at s)) where
  -- A leader stays one.
  round_keeps : (q : ℕ) → q < D.states → class_at s q ≡ q → class_at (round D s) q ≡ q
  round_keeps q h e =
      let l : ℕ = leader (signature D s) q in
      let up : l ≤ q = leader-at-most (signature D s) q in
      let same : class_at s l ≡ class_at s q = signature-class D s l q (leader-key (signature D s) q) in
      omega (arith, round-at D s q h, L.at_most l (omega arith))

  -- Without new leaders no class changes.
  round-still : leaders (class_at (round D s)) D.states ≤ leaders (class_at s) D.states
      → (q : ℕ) → q < D.states → class_at (round D s) q ≡ class_at s q
  round-still m q h =
      let l : ℕ = leader (signature D s) q in
      let k : l < D.states = omega (arith, leader-at-most (signature D s) q) in
      let led : class_at (round D s) l ≡ l = round-at D s l k ∙ leader-same (signature D s) l q (leader-key (signature D s) q) in
      let old : class_at s l ≡ l = leaders-same (class_at s) (class_at (round D s)) D.states round_keeps m l k led in
      round-at D s q h ∙ sym old ∙ signature-class D s l q (leader-key (signature D s) q)

  -- What no round changes is stable.
  still-stable : round D s ≡ s → Stable D (class_at s)
  still-stable e =
      record {
        flag = λ q r h k c. signature-flag D s q r (same q r h k c);
        next = λ q r v h k l c. signature-next D s q r (same q r h k c) v l;
      }
    where
      same : (q r : ℕ) → q < D.states → r < D.states → class_at s q ≡ class_at s r → signature D s q ≡ signature D s r
      same q r h k c =
          same-leader (signature D s) q r
          (sym (round-at D s q h) ∙ ap (λ t. class_at t q) e ∙ c ∙ sym (ap (λ t. class_at t r) e) ∙ round-at D s r k)

module _ (D : Deterministic) where
  rounds-still : (n : ℕ) → leaders (class_at (rounds D (suc n))) D.states ≤ leaders (class_at (rounds D n)) D.states
      → rounds D (suc n) ≡ rounds D n
  unfolding rounds
  rounds-still n m =
      ext_get_or 0 (rounds D (suc n)) (rounds D n) (rounds-length D (suc n) ∙ sym (rounds-length D n))
      (λ q h. round-still D (rounds D n) (rounds-led D n) m q (omega (arith, rounds-length D (suc n))))

  -- As long as rounds change something, there is a new leader in each.
  rounds-settle : (n : ℕ) → (rounds D (suc n) ≡ rounds D n) ⊎ (n ≤ leaders (class_at (rounds D n)) D.states)
  unfolding rounds
  rounds-settle zero = inr (omega arith)
  rounds-settle (suc n) =
      go (rounds-settle n) (dec_le (leaders (class_at (rounds D (suc n))) D.states) (leaders (class_at (rounds D n)) D.states))
    where
      go : (rounds D (suc n) ≡ rounds D n) ⊎ (n ≤ leaders (class_at (rounds D n)) D.states)
          → Dec (leaders (class_at (rounds D (suc n))) D.states ≤ leaders (class_at (rounds D n)) D.states)
          → (rounds D (suc (suc n)) ≡ rounds D (suc n)) ⊎ (suc n ≤ leaders (class_at (rounds D (suc n))) D.states)
      go (inl e) d = inl (ap (round D) e)
      go (inr h) (yes m) = inl (ap (round D) (rounds-still n m))
      go (inr h) (no m) = inr (omega arith)

  pub classes-led : Led D.states (class_at (classes D))
  unfolding classes
  classes-led = rounds-led D D.states

  pub classes-length : length (classes D) ≡ D.states
  unfolding classes
  classes-length = rounds-length D D.states

  pub classes-coarse : Complete D → Coarse D (class_at (classes D))
  unfolding classes
  classes-coarse C = rounds-coarse D C D.states

  pub classes-stable : Stable D (class_at (classes D))
  unfolding classes rounds
  classes-stable = still-stable D (rounds D D.states) (rounds-led D D.states) (go (rounds-settle D.states))
    where
      go : (rounds D (suc D.states) ≡ rounds D D.states) ⊎ (D.states ≤ leaders (class_at (rounds D D.states)) D.states)
          → rounds D (suc D.states) ≡ rounds D D.states
      go (inl e) = e
      go (inr h) =
          rounds-still D.states (omega (arith, leaders-at-most (class_at (rounds D (suc D.states))) D.states))
