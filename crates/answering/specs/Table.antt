-- Lent tables of links or of lists (document 01): triples (from, label, to), strictly rising in that order, at most 16,384 of them, with
-- every end below N and every label below k.
use Rattle.std.specs.Prelude.{◌≡◌, ℕ, ◌*◌, ◌<◌, ◌≤◌, Bool, true, false, ◌&&◌, ◌||◌, ◌⊎◌, [], ◌∷◌, length, ◌==◌, nat_le, nat_lt}
use Rattle.theory.specs.Graph.{Table}

abbrev pub most_links : ℕ
most_links = 16384

-- The order of triples: by from, then by label, then by to.
abbrev pub Rises : ℕ → ℕ → ℕ → ℕ → ℕ → ℕ → Type 0
Rises x a y u b v = (x < u) ⊎ ((x ≡ u) × ((a < b) ⊎ ((a ≡ b) × (y < v))))

-- The numbers are triples within range, each after the one before, which was (x, a, y).
pub data RisingAfter (N k : ℕ) : ℕ → ℕ → ℕ → Table → Type 0 where
  last : {x a y : ℕ} → RisingAfter N k x a y []
  next : {x a y u b v : ℕ} {t : Table} → u < N → b < k → v < N → Rises x a y u b v → RisingAfter N k u b v t
      → RisingAfter N k x a y (u ∷ (b ∷ (v ∷ t)))

pub data Rising (N k : ℕ) : Table → Type 0 where
  none : Rising N k []
  some : {u b v : ℕ} {t : Table} → u < N → b < k → v < N → RisingAfter N k u b v t → Rising N k (u ∷ (b ∷ (v ∷ t)))

-- A table of recordings below N and labels below k.
abbrev pub IsTable : ℕ → ℕ → Table → Type 0
IsTable N k t = (length t ≤ 3 * most_links) × Rising N k t

unfoldable pub rises : ℕ → ℕ → ℕ → ℕ → ℕ → ℕ → Bool
rises x a y u b v = nat_lt x u || (x == u && (nat_lt a b || (a == b && nat_lt y v)))

unfoldable pub rising_after : ℕ → ℕ → ℕ → ℕ → ℕ → Table → Bool
rising_after N k x a y [] = true
rising_after N k x a y (u ∷ []) = false
rising_after N k x a y (u ∷ (b ∷ [])) = false
rising_after N k x a y (u ∷ (b ∷ (v ∷ t))) =
    (nat_lt u N && (nat_lt b k && nat_lt v N)) && (rises x a y u b v && rising_after N k u b v t)

unfoldable pub rising : ℕ → ℕ → Table → Bool
rising N k [] = true
rising N k (u ∷ []) = false
rising N k (u ∷ (b ∷ [])) = false
rising N k (u ∷ (b ∷ (v ∷ t))) = (nat_lt u N && (nat_lt b k && nat_lt v N)) && rising_after N k u b v t

unfoldable pub is_table : ℕ → ℕ → Table → Bool
is_table N k t = nat_le (length t) (3 * most_links) && rising N k t
