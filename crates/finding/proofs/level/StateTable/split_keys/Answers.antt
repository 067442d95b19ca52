use Rattle.std.specs.Prelude.{Bool, true, false, ◌||◌, leb, ◌≡◌, ◌⊎◌, refl, ℕ, ◌+◌, ◌<◌, ◌≤◌, List, length, set}
use Rattle.std.proofs.Common.{inl, inr, ⊎_elim}
use Rattle.std.proofs.lemmas.Bool.{or_parts, leb-true, leb-false}
use mathlib.Core.Bool.{false≢true}
use mathlib.Core.Path.{◌∙◌}
use lib.ListN.{length-set}
use lib.Seq.{get_or-set_same, get_or-set_other}
use Rattle.theory.specs.Refinement.{class_at}
use Rattle.finding.specs.ClassesTold.{key_at, SplitKey}
use Rattle.finding.specs.ClassesLaws.{rows_alike, split-keyed, key-keeps, key-leaves}
use Rattle.finding.specs.Filling.{filled_more}
use native.Mathlib.Omega.{arith}
use Rattle.finding.proofs.level.StateTable.split_keys.Invariants.{Leaving}
use Rattle.finding.proofs.level.StateTable.split_keys.Goals as goal

leaving-here : (keys : List ℕ) (s key : ℕ) → s < length keys → 256 ≤ key → Leaving (set keys s key) (s + 1)
leaving-here keys s key h k = (s, omega arith, omega (arith, get_or-set_same keys s key 0 h))

leaving-more : (keys : List ℕ) (s key : ℕ) → Leaving keys s → Leaving (set keys s key) (s + 1)
leaving-more keys s key (q, h, k) = (q, omega arith, omega (arith, get_or-set_other keys s q key 0 (λ e. omega arith)))

pub loop-s-init : goal.loop-s-init
loop-s-init c = (
  c.requires.1,
  λ q h. absurd (omega arith),
  λ f. absurd (false≢true f),
  λ f q h. absurd (omega arith),
)

pub split_key-key-requires : goal.split_key-key-requires
split_key-key-requires c =
    let more = c.loop-s-test.true in
    (more, omega (arith, c.requires.0.at_most c.loop-s.s more))

one-true : (a b : Bool) → (a || b) ≡ true → (a ≡ true) ⊎ (b ≡ true)
one-true true b e = inl refl
one-true false b e = inr e

pub loop-s-preserved : goal.loop-s-preserved
loop-s-preserved c =
    let a = c.args in
    let l = c.loop-s in
    let key = c.split_key-key.result in
    let room : l.s < length l.keys = omega (arith, l.invariant.0, c.loop-s-test.true, a.self.now.lent.rows.most) in (
      length-set l.keys l.s key ∙ l.invariant.0,
      filled_more (SplitKey a.self.now.table.now a.self.now.flags.now a.self.now.lists a.classes.now) l.keys l.s key room l.invariant.1
          c.split_key-key.ensures,
      λ f. ⊎_elim (λ e. leaving-more l.keys l.s key (l.invariant.2 e)) (λ e. leaving-here l.keys l.s key room (leb-true 256 key e))
          (one-true l.leaves (leb 256 key) f),
      λ f.
          let (before, here) = or_parts l.leaves (leb 256 key) f in
          filled_more (λ q n. n < 256) l.keys l.s key room (l.invariant.3 before) (leb-false 256 key here),
    )

pub returns : goal.returns
returns c =
    let a = c.args in
    let i = c.loop-s.invariant in
    let T = a.self.now.lent in
    let L = c.requires.0 in
    let keys = c.loop-s.keys in
    let all : (q : ℕ) → q < a.self.now.states → SplitKey a.self.now.table.now a.self.now.flags.now a.self.now.lists a.classes.now q (key_at keys q) =
    λ q h. i.1 q (omega arith) in
    record {
      sized = i.0;
      keyed = split-keyed T a.classes.now keys L all;
      leaves = λ f. let (q, h, k) = i.2 f in
          (q, omega arith, key-leaves (i.1 q h) (omega (arith, L.at_most q (omega arith), T.rows.most)) k);
      stays = λ f q h. rows_alike T a.classes.now (class_at a.classes.now q) q (key-keeps (all q h) (i.3 f q (omega arith)));
    }
