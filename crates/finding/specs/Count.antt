-- How many standings there are, as the code counts them: it has room for 64 standings, and a row holds 32 labels.
use Rattle.std.specs.Prelude.{◌≡◌, ℕ, ◌<◌, ◌≤◌, Bool, true, false, ◌&&◌, List, length, nat_le, Option, Some, None}
use Rattle.std.specs.Prelude.{refl}
use Rattle.std.proofs.Math.Path.{sym, ap, ap₂}
use Rattle.std.proofs.Common.{◌∙◌, le-leb}
use Rattle.std.proofs.lemmas.Bool.{lt-leb}
use Rattle.theory.specs.Exploration.{Exploration, all, over}
use Rattle.finding.specs.Standings.{standings}
use Rattle.finding.specs.Plain.{plain}
use Rattle.finding.specs.StandingsTold.{StandingsTold}

-- What an exploration tells, without its entries.
abbrev pub counted : Exploration ℕ → Option ℕ
counted (all l) = Some (length l)
counted over = None

-- There is room for as many standings as the limit, and for the labels, whose places are given.
abbrev pub countable : List ℕ → ℕ → ℕ → Bool
countable enter labels limit = nat_le limit 64 && (nat_le labels 32 && nat_le labels (length enter))

-- The standings of the automaton of the plain data, at most `limit` of them; its accepting places play no role. What there is no room for
-- is not explored.
unfoldable pub count_standings : List ℕ → List ℕ → ℕ → ℕ → Option ℕ
count_standings follow enter labels limit =
    elim (countable enter labels limit) [
      | false ↦ None
      | true ↦ counted (standings (plain follow enter 0) labels limit)
    ]

module _ (follow enter : List ℕ) (labels limit : ℕ) where
  chosen : Bool → Option ℕ
  chosen b = elim b [ false ↦ None | true ↦ counted (standings (plain follow enter 0) labels limit) ]

  pub high-limit : 64 < limit → None ≡ count_standings follow enter labels limit
  unfolding count_standings chosen
  high-limit h = sym (ap (λ b. chosen (b && (nat_le labels 32 && nat_le labels (length enter)))) (lt-leb limit 64 h))

  module _ (few : limit ≤ 64) where
    pub many-labels : 32 < labels → None ≡ count_standings follow enter labels limit
    unfolding count_standings chosen
    many-labels h = sym (ap₂ (λ a b. chosen (a && (b && nat_le labels (length enter)))) (le-leb limit 64 few) (lt-leb labels 32 h))

    module _ (narrow : labels ≤ 32) where
      tests : (b : Bool) → nat_le labels (length enter) ≡ b → count_standings follow enter labels limit ≡ chosen b
      unfolding count_standings chosen
      tests b e =
          ap₂ (λ a c. chosen (a && (c && nat_le labels (length enter)))) (le-leb limit 64 few) (le-leb labels 32 narrow) ∙ ap chosen e

      pub few-enters : length enter < labels → None ≡ count_standings follow enter labels limit
      unfolding chosen
      few-enters h = sym (tests false (lt-leb labels (length enter) h))

      pub count-all : labels ≤ length enter
          → count_standings follow enter labels limit ≡ counted (standings (plain follow enter 0) labels limit)
      unfolding chosen
      count-all h = tests true (le-leb labels (length enter) h)

      pub count-told : {r : Option ℕ} {found moves : List ℕ} → labels ≤ length enter → StandingsTold follow enter labels limit r found moves
          → r ≡ count_standings follow enter labels limit
      count-told {r} h t = there (standings (plain follow enter 0) labels limit) refl ∙ sym (count-all h)
        where
          there : (x : Exploration ℕ) → standings (plain follow enter 0) labels limit ≡ x → r ≡ counted x
          there (all l) e = t.count l e
          there over e = t.is_over.1 e
