-- The standings found, as the states of a machine: following a path over the labels gives the number of its standing.
use Rattle.std.specs.Prelude.{◌≡◌, ℕ, ◌<◌, ◌↔◌, List, length, slice_index}
use Rattle.std.specs.Prelude.{refl}
use Rattle.std.proofs.Common.{sym, ◌∙◌}
use Rattle.std.proofs.Math.Path.{ap}
use Rattle.theory.specs.Path.{Path, Below, nothing, next}
use Rattle.theory.specs.Automaton.{Automaton, standing_from, standing}
use Rattle.finding.specs.Standings.{move}
use Rattle.finding.specs.Numbering.{Numbering}
use Rattle.answering.specs.Answer.{link_machine}
use Rattle.answering.specs.ProductLaws.{ends_at}

module _ (A : Automaton) (k : ℕ) (found : List ℕ) (N : Numbering A k found) where
  -- Following a path from a standing gives the number of the standing that it leads to.
  pub moves-exactly : {p : Path} → Below k p → (i : ℕ) → i < length found
      → (ends_at (link_machine A found) i p < length found)
      × (slice_index found (ends_at (link_machine A found) i p) ≡ standing_from A (slice_index found i) p)
  unfolding ends_at standing_from
  moves-exactly nothing i h = (h, refl)
  moves-exactly (next {a = a} {p = p} b more) i h =
      let (g, e) = N.moves i a h b in
      let (f, d) = moves-exactly more (move A found i a) g in
      (f, d ∙ ap (λ s. standing_from A s p) e)

  -- The state after a path is the number of its standing.
  pub state-exactly : {p : Path} → Below k p
      → (ends_at (link_machine A found) 0 p < length found) × (slice_index found (ends_at (link_machine A found) 0 p) ≡ standing A p)
  unfolding standing
  state-exactly {p} b =
      let (h, e) = N.start in
      let (f, d) = moves-exactly b 0 h in
      (f, d ∙ ap (λ s. standing_from A s p) e)

  -- And it is the only number of that standing.
  pub state-number : {p : Path} → Below k p → (i : ℕ) → i < length found
      → (ends_at (link_machine A found) 0 p ≡ i) ↔ (standing A p ≡ slice_index found i)
  state-number {p} b i h =
      let (f, d) = state-exactly b in
      (λ e. sym d ∙ ap (λ i. slice_index found i) e, λ e. N.distinct (ends_at (link_machine A found) 0 p) i f h (d ∙ e))
