-- What the code for the images of a list promises, and that the sources found by the search give it.
use Rattle.std.specs.Prelude.{◌≡◌, ℕ, ◌<◌, ◌≤◌, List, length, take, drop, slice_index}
use Rattle.std.proofs.Common.{arith}
use Rattle.theory.specs.Places.{Member}
use Rattle.theory.specs.Automaton.{Automaton}
use Rattle.theory.specs.Closure.{Reaches}
use Rattle.theory.specs.ClosureLaws.{closed-under}
use Rattle.finding.specs.ListImage.{images_from}
use Rattle.finding.specs.Plain.{plain}
use Rattle.finding.specs.ImageSearch.{Tables, Fitting, Onward}
use Rattle.finding.specs.ImageNodes.{Holds, images-found, entered_below}
use Rattle.finding.specs.Sources.{Searched}
use Rattle.finding.specs.SourcesLaws.{reaches-map}
use Rattle.finding.specs.ImagesTurned.{Turned}

-- Where there is room, the first numbers of `out` are the images of the standings, whichever automaton they are of; what lies beyond stays.
pub record ImagesTold (D : Tables) (accepting : ℕ) (out out' : List ℕ) : Type 0 where
  pub kept : drop D.count out' ≡ drop D.count out
  pub images : Fitting D → D.count ≤ length out → (A : Automaton) (found : List ℕ) → Holds A found D
      → take D.count out' ≡ images_from A found D.labels (plain D.follow D.enter accepting) D.count 0

module _ (D : Tables) (accepting : ℕ) (from out : List ℕ) where
  -- The images that are read off the sources that the search has found.
  pub images-told : (out' : List ℕ) → Searched D (length D.follow) from
      → Turned D.count (length D.follow) accepting from D.count out out' → ImagesTold D accepting out out'
  images-told out' s t =
      record {
        kept = t.kept;
        images = λ f room A found h.
            images-found A found D h accepting out' (omega (arith, t.size))
            (λ i l. record { exactly = λ j. (there i j l, back A found h i j l) });
      }
    where
      there : (i j : ℕ) → i < D.count → Member j (slice_index out' i)
          → (j < D.count) × (y : ℕ) × Member y accepting × Reaches (Onward D) (i, 0) (j, y)
      there i j l m =
          let (k, y, o, b, r) = (t.exactly i j l).0 m in
          (k, y, b, (s.sound (j, y) i k o r).1)

      back : (A : Automaton) (found : List ℕ) → Holds A found D → (i j : ℕ) → i < D.count
          → (j < D.count) × (y : ℕ) × Member y accepting × Reaches (Onward D) (i, 0) (j, y) → Member j (slice_index out' i)
      back A found h i j l (k, y, b, r) =
          (t.exactly i j l).1 (
            k,
            y,
            closed-under (λ (v : ℕ × ℕ). v.1 < length D.follow) (λ u v _ o. below u v o) {x = (i, 0)} {y = (j, y)} h.start r,
            b,
            s.complete i (j, y) l (reaches-map (λ u v o. (o, below u v o)) r),
          )
        where
          below : (u v : ℕ × ℕ) → Onward D u v → v.1 < length D.follow
          below u v o = entered_below A found D h accepting o.label v.1 (slice_index D.follow u.1) o.below o.enters
