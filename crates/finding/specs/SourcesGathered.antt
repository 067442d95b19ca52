-- The gains at one place are gathered, and put into the search at once (Sources, gathered): a step on the way, and what is put in at the end.
use Rattle.std.specs.Prelude.{◌≡◌, ℕ, ◌+◌, ◌*◌, ◌%◌, ◌^◌, ◌<◌, ◌≢◌, List, length, set, slice_index, slice_index_or, slice_set}
use Rattle.std.proofs.Common.{inr, sym, ap, ap₂, ◌∙◌, subst, zero-mul, one-mul, arith, length-set, shl_exact, get_or-set_same, set-set, eq-eqb, ne_eqb}
use Rattle.std.specs.Prelude.{refl}
use Rattle.std.proofs.Math.Decide.{ℕ_discrete}
use Rattle.std.specs.Int.Bits.{or_zero_r, or_self}
use Rattle.std.proofs.lemmas.List.{set-get_or}
use Rattle.theory.specs.Places.{Member, one, union}
use Rattle.theory.specs.PlacesLaws.{member-none, member-one, member_union, one_below, union-below}
use Rattle.places.specs.UnionLaws.{union_assoc}
use Rattle.finding.specs.Sources.{Sources, sources, gain_of, gathered, Gained, At}
use Rattle.finding.specs.SourcesLaws.{sources-as, gained-none, gained-more}

-- A gain, moved up to a place.

pub gain-none : (old all : ℕ) → all ≡ old → gain_of old all ≡ 0
unfolding gain_of
gain-none old all e = rw (eq-eqb all old e, gain_of)

pub gain-some : (old all : ℕ) → all ≢ old → gain_of old all ≡ 1
unfolding gain_of
gain-some old all d = rw (ne_eqb all old d, gain_of)

gain-bit : (old all : ℕ) → gain_of old all < 2
gain-bit old all = go (ℕ_discrete all old)
  where
    go : Dec (all ≡ old) → gain_of old all < 2
    go (yes e) = omega (arith, gain-none old all e)
    go (no d) = omega (arith, gain-some old all d)

pub gain-up : (old all k : ℕ) → k < 64 → gain_of old all * 2 ^ k % 2 ^ 64 ≡ gain_of old all * 2 ^ k
gain-up old all k h = shl_exact 1 k 64 (gain-bit old all) (omega arith)

up_none : (old all k : ℕ) → all ≡ old → gain_of old all * 2 ^ k ≡ 0
up_none old all k e = ap (◌* 2 ^ k) (gain-none old all e) ∙ zero-mul (2 ^ k)

up-some : (old all k : ℕ) → all ≢ old → gain_of old all * 2 ^ k ≡ one k
up-some old all k d = ap (◌* 2 ^ k) (gain-some old all d) ∙ one-mul (2 ^ k)

-- Nothing is gathered at first.
pub gathered_none : (from pending : List ℕ) (waiting next : ℕ) → gathered from pending waiting next 0 ≡ sources from pending waiting
gathered_none from pending waiting next =
    ap₂ (sources from) (ap (set pending next) (or_zero_r (slice_index pending next)) ∙ set-get_or pending next 0)
    (ap (union waiting) (up_none 0 0 next refl) ∙ or_zero_r waiting)

-- What is gathered may be named otherwise.
pub gathered-as : (P : Sources → Type 0) {from from' : List ℕ} {added added' : ℕ} (pending : List ℕ) (waiting next : ℕ)
    → from' ≡ from → added' ≡ added → P (gathered from pending waiting next added) → P (gathered from' pending waiting next added')
gathered-as P pending waiting next e f r = subst P (λ k. gathered (sym e k) pending waiting next (sym f k)) r

-- Sources come to one pair: with what they add, the search gains as if that were put in at once.
module _ (w next to x : ℕ) (from pending : List ℕ) (waiting added : ℕ) (narrow : to < w)
    (word : slice_index_or from (w * next + to) 0 < 2 ^ 64) (room₁ : w * next + to < length from) (room₂ : next < length pending) (low : next < 64)
    (few : waiting < 2 ^ 64) where
  abbrev k : ℕ
  k = w * next + to

  abbrev all : ℕ
  all = union (slice_index from k) x

  abbrev held : Sources
  held = gathered from pending waiting next added

  abbrev more : ℕ
  more = union added (gain_of (slice_index from k) all * 2 ^ to)

  without : all ≡ slice_index from k → Gained w (At next to x) held (gathered (slice_set from k all) pending waiting next more)
  without e =
      let f : more ≡ added = ap (union added) (up_none (slice_index from k) all to e) ∙ or_zero_r added in
      sources-as (Gained _ _ _) (ap (set from k) e ∙ set-get_or from k 0) (ap (λ z. set pending next (union (slice_index pending next) z)) f)
      (ap (λ z. union waiting (gain_of 0 z * 2 ^ next)) f) (gained-none w next to x held narrow e)

  module _ (d : all ≢ slice_index from k) where
    adds : more ≡ union added (one to)
    adds = ap (union added) (up-some (slice_index from k) all to d)

    some : more ≢ 0
    some e =
        member-none to
        (subst (Member to) (sym adds ∙ e) ((member_union to added (one to)).1 (inr ((member-one to to).1 refl))))

    abbrev waits : ℕ
    waits = union waiting (gain_of 0 more * 2 ^ next)

    here : waits ≡ union waiting (one next)
    here = ap (union waiting) (up-some 0 more next some)

    grows : waits ≡ union held.waiting (one next)
    grows = here ∙ sym (go (ℕ_discrete added 0))
      where
        go : Dec (added ≡ 0) → union held.waiting (one next) ≡ union waiting (one next)
        go (yes e) = ap (λ z. union z (one next)) (ap (union waiting) (up_none 0 added next e) ∙ or_zero_r waiting)
        go (no e) =
            ap (λ z. union (union waiting z) (one next)) (up-some 0 added next e)
            ∙ union_assoc waiting (one next) (one next)
            ∙ ap (union waiting) (or_self (one next))

    slot : set pending next (union (slice_index pending next) more)
        ≡ slice_set held.pending next (union (slice_index held.pending next) (one to))
    slot =
        ap (λ z. set pending next (union (slice_index pending next) z)) adds
        ∙ ap (set pending next) (sym (union_assoc (slice_index pending next) added (one to)))
        ∙ sym (set-set pending next (union (slice_index pending next) added) (union (union (slice_index pending next) added) (one to)))
        ∙ ap (λ z. set held.pending next (union z (one to)))
        (sym (get_or-set_same pending next (union (slice_index pending next) added) 0 room₂))

    with : Gained w (At next to x) held (gathered (slice_set from k all) pending waiting next more)
    with =
        sources-as (Gained _ _ _) refl slot refl
        (gained-more w next to x held narrow word room₁
        (omega (arith, room₂, length-set pending next (union (slice_index pending next) added))) waits
        (subst (◌< 2 ^ 64) (sym here) (union-below 64 waiting (one next) few (one_below 64 next low))) grows d)

  pub gathered-more : Gained w (At next to x) (gathered from pending waiting next added)
      (gathered
      (slice_set from (w * next + to) (union (slice_index from (w * next + to)) x)) pending waiting next
      (union added
      (gain_of (slice_index from (w * next + to)) (union (slice_index from (w * next + to)) x) * 2 ^ to)))
  gathered-more = go (ℕ_discrete all (slice_index from k))
    where
      go : Dec (all ≡ slice_index from k) → Gained w (At next to x) held (gathered (slice_set from k all) pending waiting next more)
      go (yes e) = without e
      go (no d) = with d
