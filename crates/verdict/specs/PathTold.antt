-- The path of a pair that is held in a workspace (PairTable), by following the pairs before it: its length, and its labels in a lent buffer.
use Rattle.std.specs.Prelude.{◌≡◌, ℕ, suc, ◌+◌, ◌-◌, ◌<◌, ◌≤◌, ◌≢◌, List, [], ◌∷◌, ◌++◌, reverse, length, take, drop, slice_index, slice_set}
use mathlib.Core.List.{reverse-cons, append_assoc, append-nil}
use Rattle.std.specs.Prelude.{refl}
use Rattle.std.proofs.Common.{sym, ap, ◌∙◌, arith, length-set, length-take, drop_of_length-le, drop-cons, drop-set-lt, get_or-set_same, get_or-set_other, length-take-le}
use Rattle.std.proofs.Math.Decide.{ℕ_discrete}
use Rattle.std.proofs.Math.Seq.{take-set-lt}
use Rattle.theory.specs.Exploration.{System, Entry}
use Rattle.theory.specs.Explored.{entry_at}
use Rattle.verdict.specs.Pairs.{Pair}
use Rattle.verdict.specs.PairTable.{parent_at, label_at, Trails}

pub record DepthTold (space : List ℕ) (i r : ℕ) : Type 0 where
  pub few : r ≤ i
  pub told : (S : System Pair) (l : List (Entry Pair)) → Trails S space l → i < length l → r ≡ length (entry_at S l i).trail

-- The pair number j is d labels before the pair number i.
pub record DepthLoop (space : List ℕ) (i j d : ℕ) : Type 0 where
  pub few : d + j ≤ i
  pub told : (S : System Pair) (l : List (Entry Pair)) → Trails S space l → i < length l
      → length (entry_at S l i).trail ≡ d + length (entry_at S l j).trail

pub depth-start : (space : List ℕ) (i : ℕ) → DepthLoop space i i 0
depth-start space i = record { few = omega arith; told = λ S l held h. omega arith }

pub depth-turn : (space : List ℕ) (i j d : ℕ) → DepthLoop space i j d → j ≢ 0 → parent_at space j < j → DepthLoop space i (parent_at space j) (d + 1)
depth-turn space i j d s some less =
    record {
      few = omega (arith, s.few);
      told = λ S l held h.
          omega (arith, s.told S l held h, ap length (held.trail j (omega arith) (omega (arith, s.few))));
    }

pub depth-end : (space : List ℕ) (i j d : ℕ) → DepthLoop space i j d → j ≡ 0 → DepthTold space i d
depth-end space i j d s e =
    record {
      few = omega (arith, s.few);
      told = λ S l held h. omega (arith, s.told S l held h, ap length (ap (λ k. (entry_at S l k).trail) e ∙ held.first));
    }

-- A pair before it that is not before it is never held.
pub depth-wrong : (space : List ℕ) (i j d : ℕ) → DepthLoop space i j d → j ≢ 0 → j ≤ parent_at space j → DepthTold space i d
depth-wrong space i j d s some more =
    record {
      few = omega (arith, s.few);
      told = λ S l held h. absurd (omega (arith, held.parent j (omega arith) (omega (arith, s.few))));
    }

pub record PathWritten (space : List ℕ) (i d : ℕ) (path path' : List ℕ) : Type 0 where
  pub size : length path' ≡ length path
  pub rest : (n : ℕ) → d ≤ n → slice_index path' n ≡ slice_index path n
  pub told : d ≤ length path → (S : System Pair) (l : List (Entry Pair)) → Trails S space l → i < length l → d ≡ length (entry_at S l i).trail
      → take d path' ≡ reverse (entry_at S l i).trail

-- The labels from k on are written, and the path of the pair number j comes before them.
pub record WriteLoop (space : List ℕ) (i d : ℕ) (path₀ : List ℕ) (j k : ℕ) (path : List ℕ) : Type 0 where
  pub inside : k ≤ d
  pub room : d ≤ length path
  pub size : length path ≡ length path₀
  pub rest : (n : ℕ) → d ≤ n → slice_index path n ≡ slice_index path₀ n
  pub reached : (S : System Pair) (l : List (Entry Pair)) → Trails S space l → i < length l → d ≡ length (entry_at S l i).trail → j < length l
  pub length-left : (S : System Pair) (l : List (Entry Pair)) → Trails S space l → i < length l → d ≡ length (entry_at S l i).trail
      → length (entry_at S l j).trail ≡ k
  pub left : (S : System Pair) (l : List (Entry Pair)) → Trails S space l → i < length l → d ≡ length (entry_at S l i).trail
      → reverse (entry_at S l i).trail ≡ reverse (entry_at S l j).trail ++ drop k (take d path)

pub write-start : (space : List ℕ) (i d : ℕ) (path : List ℕ) → d ≤ length path → WriteLoop space i d path i d path
write-start space i d path h =
    record {
      inside = omega arith;
      room = h;
      size = refl;
      rest = λ n k. refl;
      reached = λ S l held b e. b;
      length-left = λ S l held b e. sym e;
      left = λ S l held b e.
          sym (ap (λ t. reverse (entry_at S l i).trail ++ t) (drop_of_length-le (take d path) {i = d} (omega (arith, length-take d path)))
          ∙ append-nil (reverse (entry_at S l i).trail));
    }

-- One label more, in front of those that are written.
written-front : (d k x : ℕ) (path : List ℕ) → k < d → d ≤ length path → drop k (take d (slice_set path k x)) ≡ x ∷ drop (suc k) (take d path)
written-front d k x path h room =
    ap (drop k) (take-set-lt d path k x h)
    ∙ drop-cons (slice_set (take d path) k x) k 0 (omega (arith, length-set (take d path) k x, length-take-le d path room))
    ∙ ap (λ y. y ∷ drop (suc k) (slice_set (take d path) k x)) (get_or-set_same (take d path) k x 0 (omega (arith, length-take-le d path room)))
    ∙ ap (λ t. x ∷ t) (drop-set-lt (suc k) (take d path) k x (omega arith))

pub write-turn : (space : List ℕ) (i d : ℕ) (path₀ : List ℕ) (j k : ℕ) (path : List ℕ) → WriteLoop space i d path₀ j k path → 0 < k
    → WriteLoop space i d path₀ (parent_at space j) (k - 1) (slice_set path (k - 1) (label_at space j))
write-turn space i d path₀ j k path s more =
    record {
      inside = omega (arith, s.inside);
      room = omega (arith, s.room, length-set path (k - 1) (label_at space j));
      size = length-set path (k - 1) (label_at space j) ∙ s.size;
      rest = λ n h. get_or-set_other path (k - 1) n (label_at space j) 0 (λ e. omega (arith, s.inside)) ∙ s.rest n h;
      reached = λ S l held b e. omega (arith, held.parent j (later S l held b e) (s.reached S l held b e), s.reached S l held b e);
      length-left = λ S l held b e. omega (arith, s.length-left S l held b e, ap length (step S l held b e));
      left = λ S l held b e.
          let t = (entry_at S l (parent_at space j)).trail in
          let m : suc (k - 1) ≡ k = omega arith in
          s.left S l held b e
          ∙ ap (λ x. reverse x ++ drop k (take d path)) (step S l held b e)
          ∙ ap (λ x. x ++ drop k (take d path)) (reverse-cons (label_at space j) t)
          ∙ append_assoc (reverse t) (label_at space j ∷ []) (drop k (take d path))
          ∙ ap (λ x. reverse t ++ (label_at space j ∷ drop x (take d path))) (sym m)
          ∙ ap (λ x. reverse t ++ x) (sym (written-front d (k - 1) (label_at space j) path (omega (arith, s.inside)) s.room));
    }
  where
    later : (S : System Pair) (l : List (Entry Pair)) → Trails S space l → i < length l → d ≡ length (entry_at S l i).trail → 0 < j
    later S l held b e = go (ℕ_discrete j 0)
      where
        go : Dec (j ≡ 0) → 0 < j
        go (yes z) = absurd (omega (arith, s.length-left S l held b e, ap length (ap (λ x. (entry_at S l x).trail) z ∙ held.first)))
        go (no z) = omega arith

    step : (S : System Pair) (l : List (Entry Pair)) → Trails S space l → i < length l → d ≡ length (entry_at S l i).trail
        → (entry_at S l j).trail ≡ label_at space j ∷ (entry_at S l (parent_at space j)).trail
    step S l held b e = held.trail j (later S l held b e) (s.reached S l held b e)

no_length : {A : Type 0} (l : List A) → length l ≡ 0 → l ≡ []
no_length [] e = refl
no_length (x ∷ l) e = absurd (omega arith)

pub write-end : (space : List ℕ) (i d : ℕ) (path₀ : List ℕ) (j k : ℕ) (path : List ℕ) → WriteLoop space i d path₀ j k path → k ≡ 0
    → PathWritten space i d path₀ path
write-end space i d path₀ j k path s z =
    record {
      size = s.size;
      rest = s.rest;
      told = λ room S l held b e.
          sym (s.left S l held b e
          ∙ ap (λ x. reverse x ++ drop k (take d path)) (no_length (entry_at S l j).trail (s.length-left S l held b e ∙ z))
          ∙ ap (λ x. drop x (take d path)) z);
    }

pub write-short : (space : List ℕ) (i d : ℕ) (path : List ℕ) → length path < d → PathWritten space i d path path
write-short space i d path h = record { size = refl; rest = λ n k. refl; told = λ room. absurd (omega arith) }
