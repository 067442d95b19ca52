-- The search over the states of a machine that are kept (Ranks, StateSets, SetSearch) finds the recordings that the machine marks (Product):
-- a path that ends in an accepting state goes through such states only.
use Rattle.std.specs.Prelude.{◌≡◌, ℕ, ◌*◌, ◌<◌, ◌≤◌, ◌↔◌, List, [], ◌∷◌, ◌++◌, slice_index, slice_index_or}
use Rattle.std.proofs.Common.{inl, inr, ◌∙◌, arith}
use Rattle.std.proofs.Math.Path.{refl, sym, ap, subst}
use Rattle.theory.specs.Graph as G
use Rattle.theory.specs.Graph.{Table, Leads, stay}
use Rattle.theory.specs.Places.{Member}
use Rattle.theory.proofs.Answers.{leads-append}
use Rattle.answering.specs.Table.{IsTable}
use Rattle.answering.specs.TableLaws.{is-table-exactly, table-ends, table-labels}
use Rattle.answering.specs.Product.{Machine, marks}
use Rattle.answering.specs.ProductLaws.{ends_at, ends-within, ends_more}
use Rattle.answering.specs.MarksLaws.{mark-exactly}
use Rattle.answering.specs.Links.{table-sorted}
use Rattle.answering.specs.LentMachine.{Runs, stays}
use Rattle.answering.specs.SetSearch.{Steps, SetFound, begins, onward, SetSearchable, SetSearched}
use Rattle.answering.specs.SetMarks.{AcceptedAt}
use Rattle.answering.specs.Ranks.{next_of, OwnNext, KeptOrOut, Ranks, AcceptedRanks}
use Rattle.answering.specs.StateSets.{RankedStep, StateSets}

-- What the search over the ranks promises: words for each rank and list hold the steps, and the search goes by these.
pub record StatesSearched (next : List ℕ) (lists states w : ℕ) (ranks kept : List ℕ) (count : ℕ) (table : Table) (N start : ℕ)
    (before after : List ℕ) : Type 0 where
  pub sets : List ℕ
  pub steps : StateSets lists w count (RankedStep next states ranks kept count) sets
  pub searched : SetSearched sets lists w count table N start before after

module _ {M : Machine} {next : List ℕ} {lists states w : ℕ} {table : Table} {N : ℕ} {flags ranks kept sets : List ℕ} {count : ℕ}
    (r : Runs M next 16 states lists table N) (k : Ranks next lists states flags ranks kept count) (width : count ≤ 64 * w)
    (steps : StateSets lists w count (RankedStep next states ranks kept count) sets) where
  -- The table is one over the lists.
  is : IsTable N lists table
  is = (is-table-exactly N lists table).0 r.is-table

  some : 0 < states
  some = let f = k.few in let z = k.some in omega arith

  first : 0 < M.states
  first = let e = r.same-states in let z = some in omega arith

  -- A path ends in a state.
  within : {p : List ℕ} {start y : ℕ} → Leads table p start y → ends_at M 0 p < states
  within l = let e = r.same-states in let b = ends-within M table (stays r) first l in omega arith

  -- What was found has a path, to the state that has this rank ..
  found-path : (start : ℕ) {y q : ℕ} → SetFound (Steps sets lists w) lists w count table N start y q
      → (p : List ℕ) × Leads table p start y × (ends_at M 0 p ≡ slice_index kept q)
  unfolding ends_at
  found-path start begins = ([], stay, sym (ap (λ r. slice_index kept r) (sym k.first) ∙ k.back 0 some (rw k.first k.some)))
  found-path start (onward {x = x} {s = s} {a = a} {y = y} {t = t} f h l b n o m) =
      let (p, leads, e) = found-path start f in
      let (d, g, c) = (steps.exactly s a t h b o).0 m in
      let u = next_of next (slice_index kept s) a in
      let ends : ends_at M 0 (p ++ (a ∷ [])) ≡ u =
      ends_more M 0 p a ∙ r.same_next (ends_at M 0 p) a (within leads) b ∙ ap (λ s. next_of next s a) e in
      let state : slice_index_or kept t 0 ≡ u = ap (λ q. slice_index kept q) g ∙ k.back u d (subst (λ q. q < count) g c) in
      (p ++ (a ∷ []), leads-append leads (G.along l stay), ends ∙ sym state)

  -- .. and a path from a state that leads to itself alone ends there ..
  ends_there : {p : List ℕ} {x y s : ℕ} → Leads table p x y → s < states → OwnNext next lists s → ends_at M s p ≡ s
  unfolding ends_at
  ends_there stay h o = refl
  ends_there {s = s} (G.along {a = a} {p = p} l more) h o =
      let b : a < lists = table-labels is l in
      ap (λ t. ends_at M t p) (r.same_next s a h b ∙ o a b) ∙ ends_there more h o

  -- .. so that one to an accepting state goes through states that are kept ..
  kept_on : {p : List ℕ} {x y s : ℕ} → Leads table p x y → s < states → slice_index flags (ends_at M s p) ≡ 1 → slice_index ranks s < count
  kept_on {s = s} l h f = go (k.ranked s h)
    where
      go : KeptOrOut next lists flags count s (slice_index ranks s) → slice_index ranks s < count
      go (inl i) = i
      go (inr (e, (d, o))) = absurd (d (subst (λ t. slice_index flags t ≡ 1) (ends_there l h o) f))

  -- .. and all of it was found.
  path-found : (start : ℕ) {p : List ℕ} {x y s : ℕ} → Leads table p x y → s < states → slice_index flags (ends_at M s p) ≡ 1
      → SetFound (Steps sets lists w) lists w count table N start x (slice_index ranks s)
      → SetFound (Steps sets lists w) lists w count table N start y (slice_index ranks (ends_at M s p))
  unfolding ends_at
  path-found start stay h m f = f
  path-found start {s = s} (G.along {a = a} {x = x} {y = y} l more) h m f =
      let b : a < lists = table-labels is l in
      let e : M.next s a ≡ next_of next s a = r.same_next s a h b in
      let t : M.next s a < states = subst (λ t. t < states) (sym e) (r.next-below s a h b) in
      let i = kept_on (G.along l more) h m in
      let c = kept_on more t m in
      let o : next_of next (slice_index kept (slice_index ranks s)) a ≡ M.next s a = ap (λ s. next_of next s a) (k.back s h i) ∙ sym e in
      path-found start more t m
      (onward f i l b (table-ends is x a y l).1 (omega arith)
      ((steps.exactly (slice_index ranks s) a (slice_index ranks (M.next s a)) i b (omega arith)).1
      (subst (λ t. t < states) (sym o) t, ap (λ t. slice_index ranks t) (sym o), c)))

  -- The recordings reached in an accepting state are those that the machine marks.
  pub found-marked : {start : ℕ} {before after accepts : List ℕ} → SetSearchable sets lists w count N start before
      → SetSearched sets lists w count table N start before after → AcceptedRanks flags kept count accepts
      → ((s : ℕ) → s < states → (slice_index flags s ≡ 1) ↔ Member s M.accepting)
      → (y : ℕ) → y < N → AcceptedAt w after accepts y ↔ (slice_index (marks M N table start) y ≡ 1)
  unfolding ends_at
  found-marked {start} {before} {after} {accepts} fit q a flagged y h = (λ m. exact.1 (there m), λ m. back (exact.0 m))
    where
      exact : (slice_index (marks M N table start) y ≡ 1) ↔ ((p : List ℕ) × Leads table p start y × Member (ends_at M 0 p) M.accepting)
      exact = mark-exactly M table (stays r) N (table-ends is) first start y fit.begins h

      there : AcceptedAt w after accepts y → (p : List ℕ) × Leads table p start y × Member (ends_at M 0 p) M.accepting
      there (t, b, m, i) =
          let (p, l, e) = found-path start (q.sound fit y t h b m) in
          let n = fit.few_words in
          let f : slice_index_or flags (slice_index kept t) 0 ≡ 1 = ((a.exactly t (omega arith)).0 i).1 in
          (p, l, (flagged (ends_at M 0 p) (within l)).0 (ap (λ s. slice_index flags s) e ∙ f))

      back : ((p : List ℕ) × Leads table p start y × Member (ends_at M 0 p) M.accepting) → AcceptedAt w after accepts y
      back (p, l, m) =
          let b = within l in
          let f = (flagged (ends_at M 0 p) b).1 m in
          let c = kept_on {p = []} (stay {x = y}) b f in
          let n = fit.few_words in
          let i = (a.exactly (slice_index ranks (ends_at M 0 p)) (omega arith)).1 (c, ap (λ s. slice_index flags s) (k.back (ends_at M 0 p) b c) ∙ f) in
          let g = path-found start l some f (subst (SetFound (Steps sets lists w) lists w count table N start start) (sym k.first) begins) in
          (slice_index ranks (ends_at M 0 p), omega arith, q.complete fit (table-sorted is) y (slice_index ranks (ends_at M 0 p)) g, i)
