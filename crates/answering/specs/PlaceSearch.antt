-- The search over sets of places (SetSearch), along the steps of an automaton (PlaceSteps): a recording is found with a place exactly where
-- a path leads to it whose standing has the place. So the recordings with an accepting place are those that the standings mark.
use Rattle.std.specs.Prelude.{◌≡◌, ℕ, ◌*◌, ◌/◌, ◌%◌, ◌^◌, ◌<◌, true, ◌↔◌, List, [], ◌∷◌, ◌++◌, length, slice_index}
use Rattle.std.specs.Prelude.{refl}
use Rattle.std.proofs.Common.{sym}
use Rattle.std.proofs.Math.Path.{subst}
use native.Mathlib.Omega.{arith}
use Rattle.theory.specs.Path.{Path}
use Rattle.theory.specs.Graph as G
use Rattle.theory.specs.Graph.{Table, Leads, stay}
use Rattle.theory.proofs.Answers.{leads-append}
use Rattle.theory.specs.Places.{Member, one}
use Rattle.theory.specs.PlacesLaws.{member-one, member_below, member-intersection}
use Rattle.theory.specs.Automaton.{Automaton, nexts, step, standing_from, standing, accepts}
use Rattle.theory.proofs.AutomatonLaws.{entry-within, member-nexts, accepts-exactly}
use Rattle.theory.specs.StandingLaws.{standing-append}
use Rattle.theory.specs.Exploration.{Entry, all}
use Rattle.finding.specs.Standings.{standings, values}
use Rattle.finding.specs.Plain.{plain}
use Rattle.answering.specs.Table.{IsTable}
use Rattle.answering.specs.TableLaws.{table-ends, table-labels}
use Rattle.answering.specs.Product.{marks}
use Rattle.answering.specs.Answer.{link_machine}
use Rattle.answering.specs.LinkAnswers.{standings-marked}
use Rattle.answering.specs.Pairs.{Has}
use Rattle.answering.specs.SetSearch.{SetFound, begins, onward}
use Rattle.answering.specs.SetMarks.{AcceptedAt}
use Rattle.answering.specs.PlaceSteps.{PlaceStep, PlaceCount, PlacesSearchable, AcceptedAlike}

-- The step of a standing, place by place.
member-step : (follow enter : List ℕ) (accepting s a t : ℕ)
    → Member t (step (plain follow enter accepting) s a)
    ↔ ((x : ℕ) × (x < length follow) × Member x s × Member t (slice_index follow x) × Member t (slice_index enter a))
unfolding step
member-step follow enter accepting s a t = (
  λ m.
      let (n, e) = (member-intersection t (nexts s follow) (slice_index enter a)).0 m in
      let (x, h, i, f) = (member-nexts s follow t).0 n in
      (x, h, i, f, e),
  λ (x, h, i, f, e). (member-intersection t (nexts s follow) (slice_index enter a)).1 ((member-nexts s follow t).1 (x, h, i, f), e),
)

module _ (follow enter : List ℕ) (accepting labels : ℕ) (bits : (i : ℕ) → slice_index enter i < 2 ^ 64) {places : ℕ}
    (count : PlaceCount follow places) {N : ℕ} {table : Table} (is : IsTable N labels table) where
  abbrev A : Automaton
  A = plain follow enter accepting

  -- What is found has a path ..
  found-path : {start y t : ℕ} → SetFound (PlaceStep follow enter) labels 1 places table N start y t
      → (p : Path) × Leads table p start y × Member t (standing A p)
  unfolding standing standing_from
  found-path begins = ([], stay, (member-one 0 0).1 refl)
  found-path (onward {s = s} {a = a} {t = t} f h l k b w m) =
      let (p, leads, i) = found-path f in
      let (n, e) = m in (
        p ++ (a ∷ []),
        leads-append leads (G.along l stay),
        subst (Member t) (sym (standing-append A p (a ∷ [])))
            ((member-step follow enter accepting (standing A p) a t).1 (s, entry-within follow s t n, i, n, e)),
      )

  -- .. and where a path leads, all places of its standing are found.
  leads-found : {start : ℕ} {p : Path} {x y : ℕ} (S : ℕ) → Leads table p x y
      → ((s : ℕ) → Member s S → (s < 64) × SetFound (PlaceStep follow enter) labels 1 places table N start x s)
      → (t : ℕ) → Member t (standing_from A S p) → (t < 64) × SetFound (PlaceStep follow enter) labels 1 places table N start y t
  unfolding standing_from
  leads-found S stay every t m = every t m
  leads-found {start} S (G.along {a = a} {x = x} {y = y} l more) every t m = leads-found (step A S a) more one_more t m
    where
      one_more : (t : ℕ) → Member t (step A S a) → (t < 64) × SetFound (PlaceStep follow enter) labels 1 places table N start y t
      one_more t m =
          let (s, h, i, f, e) = (member-step follow enter accepting S a t).0 m in
          let (b, g) = every s i in
          let c : t < 64 = member_below 64 (slice_index enter a) t (bits a) e in
          let k : s < places = count.all s h b in
          let d = table-labels is l in
          (c, onward {t = t} g k l d (table-ends is x a y l).1 (omega arith) (f, e))

  path-found : {start y : ℕ} {p : Path} → Leads table p start y → (t : ℕ) → Member t (standing A p)
      → (t < 64) × SetFound (PlaceStep follow enter) labels 1 places table N start y t
  unfolding standing
  path-found {start} l t m = leads-found (one 0) l (λ s i. first s ((member-one s 0).0 i)) t m
    where
      first : (s : ℕ) → s ≡ 0 → (s < 64) × SetFound (PlaceStep follow enter) labels 1 places table N start start s
      first s e = (omega arith, subst (SetFound (PlaceStep follow enter) labels 1 places table N start start) (sym e) begins)

  -- After the search, the recordings with an accepting place are those that the standings mark.
  pub accepted-marked : {start : ℕ} {before : List ℕ} (after : List ℕ) → PlacesSearchable enter labels N start before
      → ((y t : ℕ) → y < N → t < 64 * 1 → Has 1 after y t
      → (p : ℕ) × SetFound (PlaceStep follow enter) labels 1 places table N start y p × AcceptedAlike accepting p t)
      → ((y p : ℕ) → SetFound (PlaceStep follow enter) labels 1 places table N start y p
      → (t : ℕ) × (t < 64 * 1) × Has 1 after y t × AcceptedAlike accepting p t)
      → (limit : ℕ) (l : List (Entry ℕ)) → standings A labels limit ≡ all l → (y : ℕ) → y < N
      → AcceptedAt 1 after (accepting ∷ (0 ∷ (0 ∷ (0 ∷ [])))) y ↔ (slice_index (marks (link_machine A (values l)) N table start) y ≡ 1)
  accepted-marked {start} {before} after fit sound complete limit l e y h =
      (λ m. exact.1 (there m), λ m. back (exact.0 m))
    where
      exact : (slice_index (marks (link_machine A (values l)) N table start) y ≡ 1)
          ↔ ((p : Path) × Leads table p start y × (accepts A (standing A p) ≡ true))
      exact = standings-marked A labels limit l e N table is start y fit.begins h

      -- One word holds all accepting places.
      word : (t : ℕ) → t < 64 → Member (t % 64) (slice_index (accepting ∷ (0 ∷ (0 ∷ (0 ∷ [])))) (t / 64)) ↔ Member t accepting
      word t b =
          let p : t / 64 ≡ 0 = omega arith in
          let q : t % 64 ≡ t = omega arith in
          rw (p, q) (λ m. m, λ m. m)

      there : AcceptedAt 1 after (accepting ∷ (0 ∷ (0 ∷ (0 ∷ [])))) y
          → (p : Path) × Leads table p start y × (accepts A (standing A p) ≡ true)
      there (t, b, m, i) =
          let (s, f, alike) = sound y t h b m in
          let (p, leads, n) = found-path f in
          (p, leads, (accepts-exactly A (standing A p)).1 (s, n, alike.1 ((word t (omega arith)).0 i)))

      back : ((p : Path) × Leads table p start y × (accepts A (standing A p) ≡ true))
          → AcceptedAt 1 after (accepting ∷ (0 ∷ (0 ∷ (0 ∷ [])))) y
      back (p, leads, a) =
          let (s, n, i) = (accepts-exactly A (standing A p)).0 a in
          let (t, b, m, alike) = complete y s (path-found leads s n).1 in
          (t, b, m, (word t (omega arith)).1 (alike.0 i))
