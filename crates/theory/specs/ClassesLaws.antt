-- A partition that is coarse and stable has one class for each set of continuations.
use Rattle.std.specs.Prelude.{ℕ, ◌<◌, ◌↔◌, ◌≡◌}
use Rattle.std.proofs.Common.{sym, ◌∙◌}
use Rattle.theory.specs.Path.{nothing, next}
use Rattle.theory.specs.Deterministic.{Deterministic, run, Complete, SameFrom}
use Rattle.theory.specs.Classes.{Coarse, Stable}

-- States of one class have the same continuations.
pub stable-same : {D : Deterministic} {c : ℕ → ℕ} → Complete D → Stable D c → (q r : ℕ) → q < D.states → r < D.states → c q ≡ c r
    → SameFrom D q r
unfolding run
stable-same C S q r h k e _ nothing = S.flag q r h k e
stable-same {D} C S q r h k e _ (next {a} l b) =
    stable-same C S (D.next q a) (D.next r a) (C.next q a h l) (C.next r a k l) (S.next q r a h k l e) _ b

pub classes-exactly : {D : Deterministic} {c : ℕ → ℕ} → Complete D → Coarse D c → Stable D c
    → (q r : ℕ) → q < D.states → r < D.states → (c q ≡ c r) ↔ SameFrom D q r
classes-exactly C A S q r h k = (stable-same C S q r h k, A q r h k)

-- Two partitions that agree on the states are coarse alike and stable alike.
pub coarse-as : (D : Deterministic) {c d : ℕ → ℕ} → ((q : ℕ) → q < D.states → d q ≡ c q) → Coarse D c → Coarse D d
coarse-as D e A q r h k s = e q h ∙ A q r h k s ∙ sym (e r k)

pub stable-as : {D : Deterministic} {c d : ℕ → ℕ} → Complete D → ((q : ℕ) → q < D.states → d q ≡ c q) → Stable D c → Stable D d
stable-as {D} C e S =
    record {
      flag = λ q r h k f. S.flag q r h k (sym (e q h) ∙ f ∙ e r k);
      next = λ q r v h k l f.
          e (D.next q v) (C.next q v h l) ∙ S.next q r v h k l (sym (e q h) ∙ f ∙ e r k) ∙ sym (e (D.next r v) (C.next r v k l));
    }
