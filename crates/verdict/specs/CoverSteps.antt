-- The cover's functions (Cover) over automata in tables (Tables), one list at a time, as loops over the lists go: v is the number of the
-- next list, m + 1 lists are left.
use Rattle.std.specs.Prelude.{◌≡◌, ℕ, suc, ◌+◌, ◌-◌, ◌*◌, ◌%◌, ◌^◌, ◌<◌, ◌≤◌, List, length, slice_index}
use Rattle.std.proofs.Common.{sym, ap, ◌∙◌, mul_assoc, add_comm, add-one, arith, pow-add}
use Rattle.std.proofs.Math.Path.{ap₂}
use Rattle.std.proofs.lemmas.Nat.{or_mod}
use borrow.Author.Tests.{le-leb, lt-leb}
use Rattle.theory.specs.Places.{member, one, union, intersection, when}
use Rattle.places.specs.UnionLaws.{union_assoc}
use Rattle.finding.specs.Rewritten.{Rewritten, next_state}
use Rattle.verdict.specs.Cover.{occurrences, entered, moved_within, passed, finished}
use Rattle.verdict.specs.Tables.{automaton_at, automata_from, Counted}
use Rattle.verdict.specs.TablesLaws.{occurrences-at, follow-at, enter-at}

-- A set moved up twice.
pub twice-up : (s b f : ℕ) → s * 2 ^ b * 2 ^ f ≡ s * 2 ^ (f + b)
twice-up s b f = mul_assoc s (2 ^ b) (2 ^ f) ∙ ap (λ n. s * n) (sym (pow-add 2 b f) ∙ ap (λ n. 2 ^ n) (add_comm b f))

-- A union is joined to a set part by part, cut at w.
pub joined-parts : (w s x y : ℕ) → union s (union x y % 2 ^ w) ≡ union (union s (x % 2 ^ w)) (y % 2 ^ w)
joined-parts w s x y = ap (union s) (or_mod x y w) ∙ sym (union_assoc s (x % 2 ^ w) (y % 2 ^ w))

-- The set of places that a label leads to from the place o of list v.
abbrev pub step_at : List ℕ → List ℕ → ℕ → ℕ → ℕ → ℕ
step_at follow enter v o a = intersection (slice_index follow (64 * (v + 1) + o)) (slice_index enter (32 * (v + 1) + a))

module _ (follow enter sizes accepting : List ℕ) (n : ℕ) (counted : Counted n sizes)
    (room : 64 * n + 64 ≤ length follow) where
  stepped : (v o a : ℕ) → v < n → o ≤ slice_index sizes (v + 1) → a < 32
      → intersection (slice_index (automaton_at follow enter sizes accepting (v + 1)).follow o) ((automaton_at follow enter sizes accepting (v + 1)).enter a)
      ≡ step_at follow enter v o a
  stepped v o a h k l = ap₂ intersection (follow-at follow enter sizes accepting (v + 1) o k) (enter-at follow enter sizes accepting (v + 1) a l)

  sized-at : (v : ℕ) → v < n → occurrences (automaton_at follow enter sizes accepting (v + 1)) ≡ slice_index sizes (v + 1)
  sized-at v h = occurrences-at follow enter sizes accepting (v + 1) (omega arith) (counted.small v h)

  pub entered-next : (v m base a : ℕ) → v < n → a < 32
      → entered (automata_from follow enter sizes accepting v (suc m)) base a ≡ union (step_at follow enter v 0 a * 2 ^ base) (entered (automata_from follow enter sizes accepting (v + 1) m) (base + slice_index sizes (v + 1)) a)
  unfolding entered automata_from
  entered-next v m base a h l =
      ap₂ (λ x y. union (x * 2 ^ base) (entered (automata_from follow enter sizes accepting (v + 1) m) (base + y) a))
      (stepped v 0 a h (omega arith) l) (sized-at v h)

  pub moved_here : (v m base o a : ℕ) → v < n → a < 32 → o ≤ slice_index sizes (v + 1)
      → moved_within (automata_from follow enter sizes accepting v (suc m)) base o a ≡ step_at follow enter v o a * 2 ^ base
  unfolding moved_within automata_from
  moved_here v m base o a h l k =
      rw (sized-at v h, le-leb o (slice_index sizes (v + 1)) k, moved_within) (ap (λ x. x * 2 ^ base) (stepped v o a h k l))

  pub moved-next : (v m base o a : ℕ) → v < n → slice_index sizes (v + 1) < o
      → moved_within (automata_from follow enter sizes accepting v (suc m)) base o a ≡ moved_within (automata_from follow enter sizes accepting (v + 1) m) (base + slice_index sizes (v + 1)) (o - slice_index sizes (v + 1)) a
  unfolding moved_within automata_from
  moved-next v m base o a h k = rw (sized-at v h, lt-leb o (slice_index sizes (v + 1)) k, moved_within) (rw (sized-at v h))

  pub finished-here : (R : Rewritten) (w v m o q : ℕ) → v < n → o ≤ slice_index sizes (v + 1)
      → finished R w (automata_from follow enter sizes accepting v (suc m)) v o q ≡ when (member o (slice_index accepting (v + 1))) (one (w * next_state R q v))
  unfolding finished automata_from
  finished-here R w v m o q h k = rw (sized-at v h, le-leb o (slice_index sizes (v + 1)) k, finished)

  pub finished-next : (R : Rewritten) (w v m o q : ℕ) → v < n → slice_index sizes (v + 1) < o
      → finished R w (automata_from follow enter sizes accepting v (suc m)) v o q ≡ finished R w (automata_from follow enter sizes accepting (v + 1) m) (v + 1) (o - slice_index sizes (v + 1)) q
  unfolding finished automata_from
  finished-next R w v m o q h k = rw (sized-at v h, lt-leb o (slice_index sizes (v + 1)) k, finished) (rw (sized-at v h, add-one))

pub passed-next : (follow enter sizes accepting : List ℕ) (R : Rewritten) (w v m q : ℕ)
    → passed R w (automata_from follow enter sizes accepting v (suc m)) v q
    ≡ union (when (member 0 (slice_index accepting (v + 1))) (one (w * next_state R q v))) (passed R w (automata_from follow enter sizes accepting (v + 1) m) (v + 1) q)
unfolding passed automata_from
passed-next follow enter sizes accepting R w v m q = rw add-one
