-- What Find's answer means (Finds) determines it: of one job there are not two greatest rewritings, in document 01's numbering. The table is
-- the only one that accepts the words of the job, its states being apart and numbered by first words (FindsCanonical).
use Rattle.std.specs.Prelude.{◌≡◌, ℕ, suc, ◌<◌, ◌≤◌, ◌↔◌, [], slice_index_or}
use Rattle.std.proofs.Math.Logic.Iff
use Rattle.std.proofs.Math.Option.{Option, some, none}
use Rattle.std.specs.Prelude.{refl}
use Rattle.std.proofs.Common.{ap, arith}
use Rattle.theory.specs.PathOrder.{first-both}
use Rattle.theory.specs.Counting.{pigeonhole}
use Rattle.theory.specs.Expression.{Expression}
use Rattle.theory.specs.Word.{Word}
use Rattle.theory.specs.Job.{Job, IsWord}
use Rattle.theory.specs.Rewriting.{Accepted}
use Rattle.finding.specs.Find.{Rewriting}
use Rattle.finding.specs.Finds.{DistinctStandings, CountsStandings, Finds}
use Rattle.finding.specs.FindsCanonical.{same-states, same-table, same_flags}

-- Among more paths than there are standings, two have one standing.
pub counts-distinct : {e : Expression} {k m n : ℕ} → CountsStandings e k n → DistinctStandings e k m → m ≤ n
counts-distinct {e} {k} {m} {n} C D =
    pigeonhole m n (λ i h. (C.all (slice_index_or D.paths i []) (D.below i h)).0)
    (λ i h. (C.all (slice_index_or D.paths i []) (D.below i h)).1) injective
  where
    injective : (i j : ℕ) (h : i < m) (l : j < m)
        → (C.all (slice_index_or D.paths i []) (D.below i h)).0 ≡ (C.all (slice_index_or D.paths j []) (D.below j l)).0 → i ≡ j
    injective i j h l q =
        let (s, a, f) = C.all (slice_index_or D.paths i []) (D.below i h) in
        let (t, b, g) = C.all (slice_index_or D.paths j []) (D.below j l) in
        D.distinct i j h l (λ x. Iff.trans (f x) (Iff.symm (rw q (g x))))

-- There are not two numbers of standings, nor more standings than are counted.
pub counts-once : {e : Expression} {k m n : ℕ} → CountsStandings e k m → CountsStandings e k n → m ≡ n
counts-once C D = omega (arith, counts-distinct C D.some, counts-distinct D C.some)

pub counts-exclude : {e : Expression} {k n a : ℕ} → CountsStandings e k n → n ≤ a → ¬ DistinctStandings e k (suc a)
counts-exclude C h D = omega (arith, counts-distinct C D)

module _ (J : Job) {R S : Rewriting} (F : Finds J R) (G : Finds J S) where
  same_first : R.first ≡ S.first
  same_first = side R.first S.first refl refl
    where
      side : (v w : Option Word) → R.first ≡ v → S.first ≡ w → v ≡ w
      side none none e d = refl
      side none (some w) e d = absurd (F.nothing e w (G.first w d).0)
      side (some v) none e d = absurd (G.nothing d v (F.first v e).0)
      side (some v) (some w) e d =
          let (a, f) = F.first v e in
          let (b, g) = G.first w d in
          ap some (first-both (f w b) (g v a))

  same-words : (w : Word) → IsWord J w → Accepted J w ↔ Accepted J w
  same-words w b = (λ a. a, λ a. a)

  pub finds-unique : R ≡ S
  finds-unique =
      λ i. record {
        standings = counts-once F.standings G.standings i;
        states = same-states J J F G refl same-words i;
        table = same-table J J F G refl same-words i;
        flags = same_flags J J F G refl same-words i;
        first = same_first i;
      }
