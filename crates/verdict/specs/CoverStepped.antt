-- The step of a cover set is what its two parts give, and the start likewise, where the tables are proper (Tables).
use Rattle.std.specs.Prelude.{◌≡◌, ℕ, suc, ◌*◌, ◌%◌, ◌^◌, ◌<◌, ◌≤◌, List}
use Rattle.std.proofs.Math.Path.{sym, ap, subst}
use Rattle.std.proofs.Common.{◌∙◌, mul-pos, arith}
use Rattle.std.proofs.Math.Nat.{mod-eq_of_lt}
use Rattle.std.proofs.Math.Pow.{pow-lt}
use Rattle.theory.specs.Places.{one, union_over}
use Rattle.theory.specs.PlacesLaws.{union_over-below, wider}
use Rattle.places.specs.Words.{number_of}
use Rattle.verdict.specs.Cover.{places, moves, settled, cover_start, cover_step}
use Rattle.verdict.specs.Tables.{automata_of, occupied, rewritten, Ready, Proper}
use Rattle.verdict.specs.TablesLaws.{width-exactly}
use Rattle.verdict.specs.CoverTold.{Moving, Moved, Ending, Settled, ReadyTold, StartTold, StepTold}
use Rattle.verdict.specs.CoverBounds.{moves-below}

module _ (states n : ℕ) (follow enter sizes accepting table : List ℕ) where
  pub ready-ending : {w : ℕ} → Ready states n follow enter sizes accepting table w → Ending states n sizes accepting table w
  ready-ending r =
      record {
        counted = r.counted;
        accepting-room = r.accepting-room;
        table-room = r.table-room;
        wide = r.wide;
        few-places = r.few-places;
      }

  pub ready-moving : {w : ℕ} (a : ℕ) → a < 32 → Ready states n follow enter sizes accepting table w → Moving n a follow enter sizes w
  ready-moving a h r =
      record { counted = r.counted; follow-room = r.follow-room; enter-room = r.enter-room; label = h; wide = r.wide }

  -- The number of places.
  pub places-ready : (w : ℕ) → Ready states n follow enter sizes accepting table w → (flags : List ℕ)
      → places (rewritten states table flags) (automata_of follow enter sizes accepting n) ≡ states * w
  unfolding places
  places-ready w r flags =
      ap (λ z. states * z) (width-exactly follow enter sizes accepting n r.counted r.follow-room ∙ sym r.wide)

  -- Proper tables are ready.
  pub proper-ready : (w : ℕ) → ReadyTold states n follow enter sizes accepting table w → Proper states n follow enter sizes accepting table
      → (0 < w) × Ready states n follow enter sizes accepting table w
  proper-ready w t p =
      let e : w ≡ suc (occupied sizes 0 n) = t.complete (suc (occupied sizes 0 n)) p.ready in
      let h : 0 < w = omega arith in
      (h, t.ready h)

  pub start-told : (w : ℕ) (first r : List ℕ) → ReadyTold states n follow enter sizes accepting table w
      → number_of first ≡ one 0 → Settled states n sizes accepting table first r → StartTold states n follow enter sizes accepting table r
  unfolding cover_start
  start-told w first r t e s =
      record {
        told = λ p flags.
            let (h, d) = proper-ready w t p in
            let some : 0 < places (rewritten states table flags) (automata_of follow enter sizes accepting n) =
            subst (λ z. 0 < z) (sym (places-ready w d flags)) (mul-pos p.some-state h) in
            s.told flags follow enter d.follow-room p.next (subst (λ z. z < 2 ^ places (rewritten states table flags) (automata_of follow enter sizes accepting n)) (sym e) (pow-lt some))
            ∙ ap (settled (rewritten states table flags) (automata_of follow enter sizes accepting n)) e;
      }

  pub step-told : (a w : ℕ) (set m r : List ℕ) → ReadyTold states n follow enter sizes accepting table w
      → Moved n a follow enter sizes (states * w) set m → Settled states n sizes accepting table m r
      → StepTold states n follow enter sizes accepting table a set r
  unfolding cover_step
  step-told a w set m r t g s =
      record {
        told = λ p l flags.
            let (h, d) = proper-ready w t p in
            let R = rewritten states table flags in
            let lists = automata_of follow enter sizes accepting n in
            let c = places-ready w d flags in
            let b : union_over (moves lists a) (places R lists) (number_of set) < 2 ^ places R lists =
            union_over-below (moves lists a) (places R lists) (places R lists) (number_of set)
            (λ x k. moves-below follow enter sizes accepting n d.counted d.follow-room p.sets R a x l k) in
            let e : number_of m ≡ union_over (moves lists a) (places R lists) (number_of set) =
            g.told accepting ∙ ap (λ z. union_over (moves lists a) z (number_of set) % 2 ^ 1024) (sym c)
            ∙ mod-eq_of_lt (wider (places R lists) 1024 (union_over (moves lists a) (places R lists) (number_of set)) (subst (λ z. z ≤ 1024) (sym c) d.few-places) b) in
            s.told flags follow enter d.follow-room p.next (subst (λ z. z < 2 ^ places R lists) (sym e) b)
            ∙ ap (settled R lists) e;
      }

  pub not-ready : ((w : ℕ) → ¬ Ready states n follow enter sizes accepting table w) → ReadyTold states n follow enter sizes accepting table 0
  not-ready h = record { ready = λ k. absurd (omega arith); complete = λ w r. absurd (h w r) }

  -- Where the tables are not ready, nothing is promised.

  pub start-unready : (r : List ℕ) → ReadyTold states n follow enter sizes accepting table 0 → StartTold states n follow enter sizes accepting table r
  start-unready r t = record { told = λ p flags. absurd (omega (arith, (proper-ready 0 t p).0)) }

  pub step-unready : (a : ℕ) (set r : List ℕ) → ReadyTold states n follow enter sizes accepting table 0
      → StepTold states n follow enter sizes accepting table a set r
  step-unready a set r t = record { told = λ p l flags. absurd (omega (arith, (proper-ready 0 t p).0)) }

  pub step-outside : (a : ℕ) (set r : List ℕ) → 32 ≤ a → StepTold states n follow enter sizes accepting table a set r
  step-outside a set r h = record { told = λ p l flags. absurd (omega arith) }
