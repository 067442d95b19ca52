-- Automata of few places: of at most six, with next places among these. They have at most 64 standings.
use Rattle.std.specs.Prelude.{◌≡◌, ℕ, ◌^◌, ◌<◌, ◌≤◌, Bool, true, false, Option, None, is_some, List, [], ◌∷◌, length, slice_index}
use Rattle.std.proofs.lemmas.Bool.{false≢true}
use Rattle.std.proofs.Math.Option.{some-injective}
use Rattle.std.specs.Prelude.{refl}
use Rattle.std.proofs.Common.{sym, ap, ◌∙◌, subst, pow_pos}
use Rattle.std.proofs.Math.Decide.{dec_lt}
use native.Mathlib.Omega.{arith}
use Rattle.std.proofs.Math.ListN.{get_or-eq_default}
use Rattle.theory.specs.Path.{Path}
use Rattle.theory.specs.Places.{one}
use Rattle.theory.specs.PlacesLaws.{member-intersection, member_below, members-below, one_below, wider}
use Rattle.theory.specs.Counting.{pigeonhole}
use Rattle.theory.specs.Automaton.{Automaton, nexts, step, standing_from, standing}
use Rattle.theory.proofs.AutomatonLaws.{member-nexts}
use Rattle.theory.specs.Exploration.{System, Exploration, all, over}
use Rattle.theory.specs.Explored.{value_at, Exceeds}
use Rattle.theory.proofs.ExplorationLaws.{exceeded}
use Rattle.finding.specs.Plain.{plain}
use Rattle.finding.specs.Standings.{standing_system, standings}
use Rattle.finding.specs.StandingsLaws.{standing-tests, standing-run}
use Rattle.finding.specs.Count.{counted, count_standings, count-all}

pub record FewPlaces (follow : List ℕ) : Type 0 where
  pub few : length follow ≤ 6
  pub below : (p : ℕ) → slice_index follow p < 2 ^ length follow

-- Beyond the last place nothing is next.
pub few-told : {follow : List ℕ} → length follow ≤ 6 → ((p : ℕ) → p < length follow → slice_index follow p < 2 ^ length follow)
    → FewPlaces follow
few-told {follow} h below = record { few = h; below = λ p. go p (dec_lt p (length follow)) }
  where
    go : (p : ℕ) → Dec (p < length follow) → slice_index follow p < 2 ^ length follow
    go p (yes l) = below p l
    go p (no l) =
        let e = get_or-eq_default follow 0 {n = p} (omega arith) in
        let k = pow_pos (length follow) in
        omega arith

pub below_64 : {follow : List ℕ} → FewPlaces follow → (p : ℕ) → slice_index follow p < 64
below_64 {follow} f p = wider (length follow) 6 (slice_index follow p) f.few (f.below p)

module _ (A : Automaton) (f : FewPlaces A.follow) where
  -- A step leads to next places alone.
  step-few : (s a : ℕ) → step A s a < 64
  unfolding step
  step-few s a = members-below 6 (step A s a) λ t m.
      let n = ((member-intersection t (nexts s A.follow) (A.enter a)).0 m).0 in
      let (x, h, i, e) = (member-nexts s A.follow t).0 n in
      member_below 6 (slice_index A.follow x) t (below_64 f x) e

  standing-few-from : (s : ℕ) (p : Path) → s < 64 → standing_from A s p < 64
  unfolding standing_from
  standing-few-from s [] h = h
  standing-few-from s (a ∷ p) h = standing-few-from (step A s a) p (step-few s a)

  standing-few : (p : Path) → standing A p < 64
  unfolding standing
  standing-few p = standing-few-from (one 0) p (one_below 6 0 (omega arith))

  -- The standings are distinct numbers below 64.
  pub few-standings : (k : ℕ) → ¬ (standings A k 64 ≡ over)
  unfolding standings
  few-standings k e =
      let h = pigeonhole 65 64 (λ i l. value_at S x.found i) (λ i l. value-few i (inside l))
      (λ i j l m. x.distinct i j (inside l) (inside m)) in
      omega arith
    where
      S : System ℕ
      S = standing_system A k

      x : Exceeds S 64
      x = exceeded (standing-tests A k) e

      inside : {i : ℕ} → i < 65 → i < length x.found
      inside l = let c = x.count in omega arith

      value-few : (i : ℕ) → i < length x.found → value_at S x.found i < 64
      value-few i l =
          let (b, r) = x.words i l in
          subst (λ v. v < 64) (some-injective _ _ (sym (standing-run A k _) ∙ r)) (standing-few _)

-- Whether there are at most 64 standings.
pub record FewStandings (follow enter : List ℕ) (labels : ℕ) (r : Bool) : Type 0 where
  pub few : r ≡ true → (accepting : ℕ) → ¬ (standings (plain follow enter accepting) labels 64 ≡ over)
  pub many : r ≡ false → (accepting : ℕ) → standings (plain follow enter accepting) labels 64 ≡ over

-- The accepting places play no role in the exploration.
same-standings : (follow enter : List ℕ) (labels accepting : ℕ)
    → standings (plain follow enter accepting) labels 64 ≡ standings (plain follow enter 0) labels 64
unfolding standings step
same-standings follow enter labels accepting = refl

-- There are few places; or it was told.

pub few-places : {follow enter : List ℕ} {labels : ℕ} → FewPlaces follow → FewStandings follow enter labels true
few-places {follow} {enter} {labels} f = record {
  few = λ e accepting. few-standings (plain follow enter accepting) f labels;
  many = λ e. absurd (false≢true (sym e));
}

module _ (follow enter : List ℕ) (labels : ℕ) {r : Option ℕ} (t : r ≡ count_standings follow enter labels 64) (row : labels ≤ 32)
    (enters : labels ≤ length enter) where
  counts : r ≡ counted (standings (plain follow enter 0) labels 64)
  counts = t ∙ count-all follow enter labels 64 (omega arith) row enters

  -- Some number is told exactly where not too many are found.
  pub told : FewStandings follow enter labels (is_some r)
  told = record {
    few = λ d accepting o. counted-none d (counts ∙ ap counted (sym (same-standings follow enter labels accepting) ∙ o));
    many = λ d accepting. same-standings follow enter labels accepting ∙ none (standings (plain follow enter 0) labels 64) (ap is_some (sym counts) ∙ d);
  }
    where
      counted-none : is_some r ≡ true → ¬ (r ≡ None)
      counted-none d e = false≢true (ap is_some (sym e) ∙ d)

      none : (x : Exploration ℕ) → is_some (counted x) ≡ false → x ≡ over
      none over p = refl
      none (all l) p = absurd (false≢true (sym p))
