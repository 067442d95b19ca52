-- The laws of the index by buckets (Buckets): it grows with the values, and the walk along a chain finds a value that is among them.
use Rattle.std.specs.Prelude.{◌≡◌, ℕ, ◌+◌, ◌-◌, ◌<◌, ◌≤◌, ◌≢◌, List, length, replicate, slice_index, slice_set}
use Rattle.std.proofs.Common.{sym, ap, ◌∙◌, subst, arith, length-set, get_or-set_same, get_or-set_other}
use Rattle.std.proofs.Math.Decide.{ℕ_discrete, dec_lt}
use Rattle.std.proofs.lemmas.List.{length-replicate, get_or-replicate}
use Rattle.finding.specs.Buckets.{Newest, Chained, Noted, Walk}

-- No value is indexed.
pub chained-none : {A : Type 0} (bucket : A → ℕ) (width most : ℕ) (value : ℕ → A)
    → Chained bucket width most value 0 (replicate width 0) (replicate most 0)
chained-none bucket width most value =
    record {
      buckets = length-replicate {A = ℕ} width 0;
      room = length-replicate {A = ℕ} most 0;
      head = λ b h. let z = get_or-replicate {A = ℕ} width b 0 0 h in
          record { within = omega arith; member = λ k. absurd (omega arith); newest = λ j k. absurd (omega arith) };
      next = λ i h. absurd (omega arith);
    }

-- The value number m becomes x, those before it stay, and x is put in front of its chain.

module _ {A : Type 0} (bucket : A → ℕ) (value value' : ℕ → A) (m : ℕ) (x : A)
    (others : (i : ℕ) → i < m → value' i ≡ value i) (new : value' m ≡ x) where
  newest-kept : (n b c : ℕ) → n ≤ m → Newest bucket value n b c → Newest bucket value' n b c
  newest-kept n b c h w =
      record {
        within = w.within;
        member = λ p. ap bucket (others (c - 1) (omega (arith, w.within))) ∙ w.member p;
        newest = λ j k e. w.newest j k (ap bucket (sym (others j (omega arith))) ∙ e);
      }

  newest-other : (b c : ℕ) → b ≢ bucket x → Newest bucket value m b c → Newest bucket value' (m + 1) b c
  newest-other b c d w =
      let k = newest-kept m b c (omega arith) w in
      record {
        within = omega (arith, w.within);
        member = k.member;
        newest = λ j h e. before j e (ℕ_discrete j m) h;
      }
    where
      before : (j : ℕ) → bucket (value' j) ≡ b → Dec (j ≡ m) → j < m + 1 → j < c
      before j e (yes q) h = absurd (d (sym e ∙ ap (λ i. bucket (value' i)) q ∙ ap bucket new))
      before j e (no q) h = (newest-kept m b c (omega arith) w).newest j (omega arith) e

  newest-new : Newest bucket value' (m + 1) (bucket x) (m + 1)
  newest-new =
      record {
        within = omega arith;
        member = λ p. let e : m + 1 - 1 ≡ m = omega arith in ap (λ i. bucket (value' i)) e ∙ ap bucket new;
        newest = λ j h e. h;
      }

  pub chained_more : (width most b : ℕ) (heads nexts heads' nexts' : List ℕ) → b ≡ bucket x → b < width → m < most
      → Chained bucket width most value m heads nexts → Noted b m heads nexts heads' nexts'
      → Chained bucket width most value' (m + 1) heads' nexts'
  chained_more width most b heads nexts heads' nexts' at inside few old noted =
      record {
        buckets = ap length noted.in-heads ∙ length-set heads b (m + 1) ∙ old.buckets;
        room = ap length noted.in-nexts ∙ length-set nexts m (slice_index heads b) ∙ old.room;
        head = λ k h. subst (λ l. Newest bucket value' (m + 1) k (slice_index l k)) (sym noted.in-heads) (head k h (ℕ_discrete k b));
        next = λ i h.
            subst (λ l. Newest bucket value' i (bucket (value' i)) (slice_index l i)) (sym noted.in-nexts) (next i h (ℕ_discrete i m));
      }
    where
      head : (k : ℕ) → k < width → Dec (k ≡ b) → Newest bucket value' (m + 1) k (slice_index (slice_set heads b (m + 1)) k)
      head k h (yes e) =
          subst (λ i. Newest bucket value' (m + 1) i (slice_index (slice_set heads b (m + 1)) i)) (sym e)
          (subst (Newest bucket value' (m + 1) b) (sym (get_or-set_same heads b (m + 1) 0 (omega (arith, old.buckets, inside))))
          (subst (λ i. Newest bucket value' (m + 1) i (m + 1)) (sym at) newest-new))
      head k h (no d) =
          subst (Newest bucket value' (m + 1) k) (sym (get_or-set_other heads b k (m + 1) 0 d))
          (newest-other k (slice_index heads k) (λ e. d (e ∙ sym at)) (old.head k h))

      next : (i : ℕ) → i < m + 1 → Dec (i ≡ m) → Newest bucket value' i (bucket (value' i)) (slice_index (slice_set nexts m (slice_index heads b)) i)
      next i h (yes e) =
          subst (λ k. Newest bucket value' k (bucket (value' k)) (slice_index (slice_set nexts m (slice_index heads b)) k)) (sym e)
          (subst (Newest bucket value' m (bucket (value' m))) (sym (get_or-set_same nexts m (slice_index heads b) 0 (omega (arith, old.room))))
          (subst (λ k. Newest bucket value' m k (slice_index heads b)) (at ∙ sym (ap bucket new))
          (newest-kept m b (slice_index heads b) (omega arith) (old.head b inside))))
      next i h (no d) =
          let k : i < m = omega arith in
          subst (Newest bucket value' i (bucket (value' i))) (sym (get_or-set_other nexts m i (slice_index heads b) 0 d))
          (subst (λ c. Newest bucket value' i c (slice_index nexts i)) (sym (ap bucket (others i k)))
          (newest-kept i (bucket (value i)) (slice_index nexts i) (omega arith) (old.next i k)))

-- The walk along a chain.

module _ {A : Type 0} (bucket : A → ℕ) (width most : ℕ) (value : ℕ → A) (n : ℕ) (heads nexts : List ℕ)
    (chained : Chained bucket width most value n heads nexts) (x : A) where
  pub walk_start : (b : ℕ) → b ≡ bucket x → b < width → Walk bucket value n x (slice_index heads b)
  walk_start b at inside =
      record {
        within = first.within;
        member = λ p. first.member p ∙ at;
        passed = λ j k h e. let z = first.newest j h (ap bucket e ∙ sym at) in omega arith;
      }
    where
      first : Newest bucket value n b (slice_index heads b)
      first = chained.head b inside

  module _ (c : ℕ) (walk : Walk bucket value n x c) where
    pub walk_turn : 0 < c → (value (c - 1) ≢ x) → Walk bucket value n x (slice_index nexts (c - 1))
    walk_turn p differs =
        record {
          within = omega (arith, older.within, walk.within);
          member = λ q. older.member q ∙ walk.member p;
          passed = λ j k h e. passed j k h e (ℕ_discrete j (c - 1)) (dec_lt j (c - 1));
        }
      where
        older : Newest bucket value (c - 1) (bucket (value (c - 1))) (slice_index nexts (c - 1))
        older = chained.next (c - 1) (omega (arith, walk.within))

        passed : (j : ℕ) → slice_index nexts (c - 1) ≤ j → j < n → value j ≡ x → Dec (j ≡ c - 1) → Dec (j < c - 1) → ⊥
        passed j k h e (yes q) l = differs (ap value (sym q) ∙ e)
        passed j k h e (no q) (yes l) = let z = older.newest j l (ap bucket e ∙ sym (walk.member p)) in omega arith
        passed j k h e (no q) (no l) = walk.passed j (omega arith) h e

    -- The chain falls.
    pub walk-less : 0 < c → slice_index nexts (c - 1) < c
    walk-less p = omega (arith, (chained.next (c - 1) (omega (arith, walk.within))).within)
