-- Rows of merged places: each place stands for all places that have the same next places and are accepted alike. The search over these rows
-- finds places that stand for those that the search over places finds (PlaceSteps).
use Rattle.std.specs.Prelude.{◌≡◌, ℕ, ◌+◌, ◌*◌, ◌/◌, ◌%◌, ◌^◌, ◌<◌, ◌≤◌, List, length, bit_and, slice_index, slice_index_or, slice_set}
use Rattle.std.specs.Prelude.{refl}
use Rattle.std.proofs.Common.{sym, ap, ◌∙◌, subst, one-mul, arith, get_or-set_same, get_or-set_other}
use Rattle.std.proofs.Math.Decide.{ℕ_discrete}
use Rattle.std.proofs.lemmas.Nat.{and_mask}
use Rattle.theory.specs.Graph.{Table}
use Rattle.theory.specs.Places.{Member, one}
use Rattle.theory.specs.PlacesLaws.{member-one, member_below, member-intersection, member-union_over}
use Rattle.theory.proofs.AutomatonLaws.{entry-within}
use Rattle.places.specs.Joined.{joined}
use Rattle.finding.specs.Cleared.{Cleared}
use Rattle.answering.specs.ProductLaws.{node-below}
use Rattle.answering.specs.SetSearch.{Steps, SetFound, begins, onward}
use Rattle.answering.specs.SetSearchRun.{SetAllFound}
use Rattle.answering.specs.PlaceSteps.{PlaceStep, PlaceCount, PlacesSearchable, AcceptedAlike, PlacesSearched, found_below}
use Rattle.answering.specs.PlaceSteps.{places-beyond}
use Rattle.answering.specs.FewPlaces.{FewPlaces}
use Rattle.answering.specs.WordSteps.{has_word}

-- The place q stands for the place p: it is not behind p, has the same next places and is accepted alike.
pub record LeadOf (follow : List ℕ) (accepting p q : ℕ) : Type 0 where
  pub before : q ≤ p
  pub next : slice_index_or follow q 0 ≡ slice_index follow p
  pub alike : AcceptedAlike accepting p q

-- The first n places have the words of places that stand for them.
pub record LeadPlaces (follow : List ℕ) (accepting n : ℕ) (leads : List ℕ) : Type 0 where
  pub lead : (p : ℕ) → p < n → (q : ℕ) × LeadOf follow accepting p q × (slice_index leads p ≡ one q)

-- The row from `from` on has for each label the words of those places that the label enters; the rows before it are as they were.
pub record RowPlaced (leads : List ℕ) (after : ℕ) (enter : List ℕ) (labels from : ℕ) (before rows : List ℕ) : Type 0 where
  pub here : (a : ℕ) → a < labels → slice_index rows (from + a) ≡ joined leads 0 1 (bit_and after (slice_index enter a))
  pub others : (i : ℕ) → i < from → slice_index rows i ≡ slice_index before i

-- The first n places have their rows.
pub record RowsFilled (follow enter : List ℕ) (labels : ℕ) (leads : List ℕ) (n : ℕ) (rows : List ℕ) : Type 0 where
  pub row : (p a : ℕ) → p < n → a < labels
      → slice_index rows (labels * p + a) ≡ joined leads 0 1 (bit_and (slice_index follow p) (slice_index enter a))

-- The steps that the rows give: to places that stand for next places, and for each next place to one that stands for it.
pub record RowsPlaced (follow enter : List ℕ) (accepting labels : ℕ) (rows : List ℕ) : Type 0 where
  pub sound : (p a t : ℕ) → p < length follow → a < labels → t < 64 → Steps rows labels 1 p a t
      → (x : ℕ) × (x < 64) × PlaceStep follow enter p a x × LeadOf follow accepting x t
  pub complete : (p a x : ℕ) → p < length follow → a < labels → PlaceStep follow enter p a x
      → (t : ℕ) × (t < 64) × Steps rows labels 1 p a t × LeadOf follow accepting x t

-- A place stands for itself; and another one for it, where the tests say so.

pub lead-self : (follow : List ℕ) (accepting p : ℕ) → LeadOf follow accepting p p
lead-self follow accepting p = record { before = omega arith; next = refl; alike = (λ m. m, λ m. m) }

pub lead-told : {follow : List ℕ} {accepting p q : ℕ} → q < p → slice_index follow q ≡ slice_index follow p
    → bit_and (accepting / 2 ^ q) 1 ≡ bit_and (accepting / 2 ^ p) 1 → LeadOf follow accepting p q
lead-told {accepting = accepting} {p} {q} h e b =
    let same : accepting / 2 ^ q % 2 ≡ accepting / 2 ^ p % 2 =
    sym (and_mask (accepting / 2 ^ q) 1) ∙ b ∙ and_mask (accepting / 2 ^ p) 1 in
    record { before = omega arith; next = e; alike = (λ m. same ∙ m, λ m. sym same ∙ m) }

-- Places and labels one after the other.

pub leads-none : (follow : List ℕ) (accepting : ℕ) (leads : List ℕ) → LeadPlaces follow accepting 0 leads
leads-none follow accepting leads = record { lead = λ p h. absurd (omega arith) }

pub leads-more : {follow : List ℕ} {accepting n q : ℕ} {leads : List ℕ} → n < length leads → LeadOf follow accepting n q
    → LeadPlaces follow accepting n leads → LeadPlaces follow accepting (n + 1) (slice_set leads n (one q))
leads-more {follow} {accepting} {n} {q} {leads} l here all = record { lead = λ p h. go p h (ℕ_discrete p n) }
  where
    go : (p : ℕ) → p < n + 1 → Dec (p ≡ n) → (r : ℕ) × LeadOf follow accepting p r × (slice_index (slice_set leads n (one q)) p ≡ one r)
    go p h (yes e) =
        subst (λ p. (r : ℕ) × LeadOf follow accepting p r × (slice_index (slice_set leads n (one q)) p ≡ one r)) (sym e)
        (q, here, get_or-set_same leads n (one q) 0 l)
    go p h (no e) =
        let (r, f, w) = all.lead p (omega arith) in
        (r, f, get_or-set_other leads n p (one q) 0 e ∙ w)

pub row-none : (leads : List ℕ) (after : ℕ) (enter : List ℕ) (from : ℕ) (rows : List ℕ) → RowPlaced leads after enter 0 from rows rows
row-none leads after enter from rows = record { here = λ a h. absurd (omega arith); others = λ i h. refl }

pub row_more : {leads : List ℕ} {after : ℕ} {enter : List ℕ} {n from : ℕ} {before rows : List ℕ} → from + n < length rows
    → RowPlaced leads after enter n from before rows
    → RowPlaced leads after enter (n + 1) from before (slice_set rows (from + n) (joined leads 0 1 (bit_and after (slice_index enter n))))
row_more {leads} {after} {enter} {n} {from} {before} {rows} l r = record {
  here = λ a h. go a h (ℕ_discrete a n);
  others = λ i h. get_or-set_other rows (from + n) i word 0 (λ e. omega arith) ∙ r.others i h;
}
  where
    word : ℕ
    word = joined leads 0 1 (bit_and after (slice_index enter n))

    go : (a : ℕ) → a < n + 1 → Dec (a ≡ n) → slice_index (slice_set rows (from + n) word) (from + a) ≡ joined leads 0 1 (bit_and after (slice_index enter a))
    go a h (yes e) = rw e (get_or-set_same rows (from + n) word 0 l)
    go a h (no e) = get_or-set_other rows (from + n) (from + a) word 0 (λ d. e (omega arith)) ∙ r.here a (omega arith)

pub rows_none : (follow enter : List ℕ) (labels : ℕ) (leads rows : List ℕ) → RowsFilled follow enter labels leads 0 rows
rows_none follow enter labels leads rows = record { row = λ p a h. absurd (omega arith) }

pub rows_more : {follow enter : List ℕ} {labels n : ℕ} {leads before rows : List ℕ} → RowsFilled follow enter labels leads n before
    → RowPlaced leads (slice_index follow n) enter labels (labels * n) before rows → RowsFilled follow enter labels leads (n + 1) rows
rows_more {follow} {enter} {labels} {n} {leads} {before} {rows} all r = record { row = λ p a h b. go p a h b (ℕ_discrete p n) }
  where
    go : (p a : ℕ) → p < n + 1 → a < labels → Dec (p ≡ n)
        → slice_index rows (labels * p + a) ≡ joined leads 0 1 (bit_and (slice_index follow p) (slice_index enter a))
    go p a h b (yes e) = rw e (r.here a b)
    go p a h b (no e) = r.others (labels * p + a) (node-below labels n (omega arith) b) ∙ all.row p a (omega arith) b

-- What the rows give.

pub rows-placed : {follow enter : List ℕ} {accepting labels : ℕ} {leads rows : List ℕ} → FewPlaces follow
    → LeadPlaces follow accepting (length follow) leads → RowsFilled follow enter labels leads (length follow) rows
    → RowsPlaced follow enter accepting labels rows
rows-placed {follow} {enter} {accepting} {labels} {leads} {rows} few led filled = record { sound = there; complete = back }
  where
    word : ℕ → ℕ
    word x = slice_index leads (1 * x + 0)

    at : (x : ℕ) → word x ≡ slice_index leads x
    at x = let e : 1 * x + 0 ≡ x = let p = one-mul x in omega arith in ap (λ (i : ℕ). slice_index leads i) e

    inside : (p x : ℕ) → Member x (slice_index follow p) → x < length follow
    inside p x m = member_below (length follow) (slice_index follow p) x (few.below p) m

    there : (p a t : ℕ) → p < length follow → a < labels → t < 64 → Steps rows labels 1 p a t
        → (x : ℕ) × (x < 64) × PlaceStep follow enter p a x × LeadOf follow accepting x t
    there p a t h b l m =
        let n = subst (Member t) (filled.row p a h b) ((has_word rows (labels * p + a) t l).0 m) in
        let (x, k, i, w) = (member-union_over word 64 (bit_and (slice_index follow p) (slice_index enter a)) t).0 n in
        let (f, e) = (member-intersection x (slice_index follow p) (slice_index enter a)).0 i in
        let (q, lead, o) = led.lead x (inside p x f) in
        let same : t ≡ q = (member-one t q).0 (subst (Member t) (at x ∙ o) w) in
        (x, k, (f, e), subst (LeadOf follow accepting x) (sym same) lead)

    back : (p a x : ℕ) → p < length follow → a < labels → PlaceStep follow enter p a x
        → (t : ℕ) × (t < 64) × Steps rows labels 1 p a t × LeadOf follow accepting x t
    back p a x h b (f, e) =
        let k = inside p x f in
        let (q, lead, o) = led.lead x k in
        let l : q < 64 = let c = lead.before in let d = few.few in omega arith in
        let i = (member-intersection x (slice_index follow p) (slice_index enter a)).1 (f, e) in
        let w = subst (Member q) (sym (at x ∙ o)) ((member-one q q).1 refl) in
        let z : x < 64 = let d = few.few in omega arith in
        let n = (member-union_over word 64 (bit_and (slice_index follow p) (slice_index enter a)) q).1 (x, z, i, w) in
        (q, l, (has_word rows (labels * p + a) q l).1 (subst (Member q) (sym (filled.row p a h b)) n), lead)

-- The search over rows finds places that stand for those that the search over places finds.

module _ {follow enter : List ℕ} {accepting labels : ℕ} {rows : List ℕ} (r : RowsPlaced follow enter accepting labels rows)
    {table : Table} {N start : ℕ} where
  row-found : {y p : ℕ} → SetFound (PlaceStep follow enter) labels 1 (length follow) table N start y p
      → (t : ℕ) × SetFound (Steps rows labels 1) labels 1 (length follow) table N start y t × LeadOf follow accepting p t
  row-found begins = (0, begins, lead-self follow accepting 0)
  row-found (onward {s = s} {a = a} {t = t} f h l b d i (n, e)) =
      let (q, g, lead) = row-found f in
      let m : Member t (slice_index follow q) = subst (Member t) (sym lead.next) n in
      let k = entry-within follow q t m in
      let (u, c, o, w) = r.complete q a t k b (m, e) in
      (u, onward {t = u} g k l b d (omega arith) o, w)

  place_found : {y t : ℕ} → SetFound (Steps rows labels 1) labels 1 (length follow) table N start y t
      → (p : ℕ) × SetFound (PlaceStep follow enter) labels 1 (length follow) table N start y p × LeadOf follow accepting p t
  place_found begins = (0, begins, lead-self follow accepting 0)
  place_found (onward {s = s} {a = a} {t = t} f h l b d i m) =
      let (p, g, lead) = place_found f in
      let (x, c, (n, e), w) = r.sound s a t h b (omega arith) m in
      let o : Member x (slice_index follow p) = subst (Member x) lead.next n in
      (x, onward {t = x} g (entry-within follow p x o) l b d (omega arith) (o, e), w)

-- All of few places are searched.
pub few-count : {follow : List ℕ} → FewPlaces follow → PlaceCount follow (length follow)
few-count f = record { most = let h = f.few in omega arith; fits = omega arith; all = λ p l b. l }

pub rows-searched : {follow enter : List ℕ} {accepting labels : ℕ} {rows : List ℕ} {table : Table} {N start : ℕ}
    {before cleared after : List ℕ} → FewPlaces follow → PlacesSearchable enter labels N start before
    → RowsPlaced follow enter accepting labels rows → Cleared N before cleared → length after ≡ length before
    → SetAllFound 1 (Steps rows labels 1) labels (length follow) table N start cleared after
    → PlacesSearched follow enter accepting labels table N start before after
rows-searched {follow} few fit r d long all = record {
  places = length follow;
  count = few-count few;
  sound = λ f y t h l m. let (p, g, lead) = place_found r (all.sound y t h l m) in (p, g, lead.alike);
  complete = λ f sorted y p m.
      let (t, g, lead) = row-found r m in
      (t, found_below g, all.complete sorted y t g, lead.alike);
  beyond = λ f. all.beyond ∙ places-beyond (few-count few) fit d;
  same_length = long;
}
