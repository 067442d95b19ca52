-- The rounds that settle a cover set: what is left gives what the whole gives.
use Rattle.std.specs.Prelude.{◌≡◌, ℕ, suc, ◌+◌, ◌-◌, ◌*◌, ◌^◌, ◌<◌, ◌≤◌, ◌≢◌, List, length, slice_index}
use Rattle.std.proofs.Math.Path.{sym, ap}
use Rattle.std.proofs.Common.{◌∙◌, subst, mod-eq_of_lt}
use native.Mathlib.Omega.{arith}
use Rattle.theory.specs.Places.{union, union_over}
use Rattle.theory.specs.PlacesLaws.{union-below, union_over-below, wider}
use Rattle.theory.specs.Closure.{closure}
use Rattle.theory.specs.ClosureLaws.{round, closure-same, closure-more}
use Rattle.places.specs.Words.{number_of, Without}
use Rattle.verdict.specs.Cover.{width, places, ends, settled}
use Rattle.verdict.specs.Tables.{automata_of, rewritten}
use Rattle.verdict.specs.TablesLaws.{width-exactly}
use Rattle.verdict.specs.CoverTold.{Ending, Round, Settled}
use Rattle.verdict.specs.CoverBounds.{ends-below}
use Rattle.verdict.specs.Frontier.{Frontier, frontier-start, frontier-round, frontier-turn}

-- The next states of the table are states.
abbrev pub NextStates : ℕ → ℕ → List ℕ → Type 0
NextStates states n table = (q v : ℕ) → q < states → v < n → slice_index table (16 * q + v) < states

-- After some rounds: as many rounds are left as give what all rounds give, and the next one needs to follow the places of `fresh` alone.
pub record RoundsLeft (states n : ℕ) (sizes accepting table : List ℕ) (w : ℕ) (set₀ set fresh : List ℕ) (rounds : ℕ) : Type 0 where
  pub inside : rounds ≤ states * w
  pub within : NextStates states n table → (follow : List ℕ) → 64 * n + 64 ≤ length follow
      → number_of set₀ < 2 ^ (states * w) → number_of set < 2 ^ (states * w)
  pub left : NextStates states n table → (flags follow enter : List ℕ) → 64 * n + 64 ≤ length follow → number_of set₀ < 2 ^ (states * w)
      → closure (ends (rewritten states table flags) (automata_of follow enter sizes accepting n)) (states * w) (states * w - rounds) (number_of set)
      ≡ closure (ends (rewritten states table flags) (automata_of follow enter sizes accepting n)) (states * w) (states * w) (number_of set₀)
  pub frontier : NextStates states n table → (flags follow enter : List ℕ) → 64 * n + 64 ≤ length follow
      → Frontier (ends (rewritten states table flags) (automata_of follow enter sizes accepting n)) (states * w) (number_of set) (number_of fresh)

pub rounds-start : (states n : ℕ) (sizes accepting table : List ℕ) (w : ℕ) (set : List ℕ) → RoundsLeft states n sizes accepting table w set set set 0
rounds-start states n sizes accepting table w set =
    record {
      inside = omega arith;
      within = λ next follow room h. h;
      left = λ next flags follow enter room h.
          let e : states * w - 0 ≡ states * w = omega arith in
          ap (λ r. closure (ends (rewritten states table flags) (automata_of follow enter sizes accepting n)) (states * w) r (number_of set)) e;
      frontier = λ next flags follow enter room. frontier-start _ (states * w) (number_of set);
    }

module _ (states n : ℕ) (sizes accepting table : List ℕ) (w : ℕ) (ending : Ending states n sizes accepting table w) where
  wide : (follow enter : List ℕ) → 64 * n + 64 ≤ length follow → width (automata_of follow enter sizes accepting n) ≡ w
  wide follow enter room = width-exactly follow enter sizes accepting n ending.counted room ∙ sym ending.wide

  count : (flags follow enter : List ℕ) → 64 * n + 64 ≤ length follow
      → places (rewritten states table flags) (automata_of follow enter sizes accepting n) ≡ states * w
  unfolding places
  count flags follow enter room = ap (λ z. states * z) (wide follow enter room)

  ends-within : NextStates states n table → (flags follow enter : List ℕ) → 64 * n + 64 ≤ length follow → (p : ℕ) → p < states * w
      → ends (rewritten states table flags) (automata_of follow enter sizes accepting n) p < 2 ^ (states * w)
  ends-within next flags follow enter room p h =
      subst (λ z. ends (rewritten states table flags) (automata_of follow enter sizes accepting n) p < 2 ^ z) (count flags follow enter room)
      (ends-below follow enter sizes accepting n ending.counted room (rewritten states table flags) next p
      (subst (λ z. p < z) (sym (count flags follow enter room)) h))

  module _ (set₀ set fresh : List ℕ) (rounds : ℕ) (s : RoundsLeft states n sizes accepting table w set₀ set fresh rounds) (set' : List ℕ)
      (g : Round n sizes accepting table (states * w) fresh set set') (next : NextStates states n table) (flags follow enter : List ℕ)
      (room : 64 * n + 64 ≤ length follow) where
    -- What a round adds are cover places, of which there are at most 1,024.
    round-adds : number_of set'
        ≡ union (number_of set) (union_over (ends (rewritten states table flags) (automata_of follow enter sizes accepting n)) (states * w) (number_of fresh))
    round-adds =
        let f = ends (rewritten states table flags) (automata_of follow enter sizes accepting n) in
        g.gains states flags follow enter room
        ∙ ap (union (number_of set)) (mod-eq_of_lt (wider (states * w) 1024 (union_over f (states * w) (number_of fresh)) ending.few-places
        (union_over-below f (states * w) (states * w) (number_of fresh) (ends-within next flags follow enter room))))

    -- A round is exact.
    round_exact : number_of set' ≡ round (ends (rewritten states table flags) (automata_of follow enter sizes accepting n)) (states * w) (number_of set)
    round_exact =
        round-adds ∙ frontier-round (ends (rewritten states table flags) (automata_of follow enter sizes accepting n)) (states * w) (number_of set)
        (number_of fresh) (s.frontier next flags follow enter room)

  pub rounds-turn : (set₀ set fresh set' fresh' : List ℕ) (rounds : ℕ) → rounds < states * w
      → RoundsLeft states n sizes accepting table w set₀ set fresh rounds → Round n sizes accepting table (states * w) fresh set set'
      → number_of set' ≢ number_of set → Without (number_of set') (number_of set) (number_of fresh')
      → RoundsLeft states n sizes accepting table w set₀ set' fresh' (rounds + 1)
  rounds-turn set₀ set fresh set' fresh' rounds h s g d added =
      record {
        inside = omega arith;
        within = λ next follow room l.
            let f = ends (rewritten states table table) (automata_of follow follow sizes accepting n) in
            subst (λ z. z < 2 ^ (states * w)) (sym (round_exact set₀ set fresh rounds s set' g next table follow follow room))
            (union-below (states * w) (number_of set) (union_over f (states * w) (number_of set)) (s.within next follow room l)
            (union_over-below f (states * w) (states * w) (number_of set) (ends-within next table follow follow room)));
        left = λ next flags follow enter room l.
            let f = ends (rewritten states table flags) (automata_of follow enter sizes accepting n) in
            let e = round_exact set₀ set fresh rounds s set' g next flags follow enter room in
            let m : suc (states * w - (rounds + 1)) ≡ states * w - rounds = omega arith in
            ap (closure f (states * w) (states * w - (rounds + 1))) e
            ∙ sym (closure-more f (states * w) (states * w - (rounds + 1)) (number_of set) (λ q. d (e ∙ q)))
            ∙ ap (λ r. closure f (states * w) r (number_of set)) m
            ∙ s.left next flags follow enter room l;
        frontier = λ next flags follow enter room.
            frontier-turn (ends (rewritten states table flags) (automata_of follow enter sizes accepting n)) (states * w) (number_of set) (number_of fresh)
            (s.frontier next flags follow enter room) (number_of set') (number_of fresh')
            (round-adds set₀ set fresh rounds s set' g next flags follow enter room) added;
      }

  settled-by : (set₀ set : List ℕ) → (NextStates states n table → (flags follow enter : List ℕ) → 64 * n + 64 ≤ length follow
      → number_of set₀ < 2 ^ (states * w)
      → number_of set ≡ closure (ends (rewritten states table flags) (automata_of follow enter sizes accepting n)) (states * w) (states * w) (number_of set₀))
      → Settled states n sizes accepting table set₀ set
  unfolding settled
  settled-by set₀ set e =
      record {
        told = λ flags follow enter room next h.
            let c = count flags follow enter room in
            e next flags follow enter room (subst (λ z. number_of set₀ < 2 ^ z) c h)
            ∙ ap (λ z. closure (ends (rewritten states table flags) (automata_of follow enter sizes accepting n)) z z (number_of set₀)) (sym c);
      }

  -- A round adds nothing.
  pub rounds-same : (set₀ set fresh set' : List ℕ) (rounds : ℕ) → rounds < states * w
      → RoundsLeft states n sizes accepting table w set₀ set fresh rounds → Round n sizes accepting table (states * w) fresh set set'
      → number_of set' ≡ number_of set → Settled states n sizes accepting table set₀ set
  rounds-same set₀ set fresh set' rounds h s g d =
      settled-by set₀ set λ next flags follow enter room l.
      let f = ends (rewritten states table flags) (automata_of follow enter sizes accepting n) in
      let m : suc (states * w - (rounds + 1)) ≡ states * w - rounds = omega arith in
      sym (closure-same f (states * w) (states * w - (rounds + 1)) (number_of set)
      (sym (round_exact set₀ set fresh rounds s set' g next flags follow enter room) ∙ d))
      ∙ ap (λ r. closure f (states * w) r (number_of set)) m
      ∙ s.left next flags follow enter room l

  -- All rounds are made.
  pub rounds-end : (set₀ set fresh : List ℕ) (rounds : ℕ) → states * w ≤ rounds → RoundsLeft states n sizes accepting table w set₀ set fresh rounds
      → Settled states n sizes accepting table set₀ set
  unfolding closure
  rounds-end set₀ set fresh rounds h s =
      settled-by set₀ set λ next flags follow enter room l.
      let m : states * w - rounds ≡ 0 = omega arith in
      sym (ap (λ r. closure (ends (rewritten states table flags) (automata_of follow enter sizes accepting n)) (states * w) r (number_of set)) m)
      ∙ s.left next flags follow enter room l
