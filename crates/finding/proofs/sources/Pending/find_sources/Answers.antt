use Rattle.std.specs.Prelude.{ℕ, List, length, set}
use mathlib.Core.Path.{refl, sym, ap, ◌∙◌, subst}
use lib.Count.{count_trailing_zeros, trailing_le}
use lib.ListN.{length-set}
use Rattle.places.specs.Followed.{least-small}
use Rattle.finding.specs.ListTables.{tables_of}
use Rattle.finding.specs.Sources.{sources, Searching}
use Rattle.finding.specs.SourcesSearch.{searching-first, searching-turn, searching-less, taken-below, taken-standings, none-pending, searched}
use native.Mathlib.Omega.{arith}
use Rattle.finding.proofs.sources.Pending.find_sources.Goals as goal

pub loop-self-init : goal.loop-self-init
loop-self-init c =
    let x = c.args in
    let D = tables_of x.list in
    let b = c.begin in (
      length-set x.self.now.at 0 _ ∙ ap length c.requires.3,
      refl,
      subst (λ (z : List ℕ). Searching D (length x.list.follow.now) (sources b.new.from (set z 0 b.result) 1)) (sym c.requires.3)
          (searching-first D (length x.list.follow.now) 64 _ b.result c.requires.1 (omega arith) b.ensures),
    )

pub overflow_cast-p : goal.overflow_cast-p
overflow_cast-p c = omega (arith, trailing_le 64 c.loop-self.self.waiting)

pub offset_bounds-self-p : goal.offset_bounds-self-p
offset_bounds-self-p c = omega (arith, trailing_le 64 c.loop-self.self.waiting)

pub bounds-self-p : goal.bounds-self-p
bounds-self-p c =
    let l = c.loop-self in
    let small = least-small l.self.waiting c.loop-self-test.true (omega arith) in omega (arith, l.invariant.0)

pub follow_labels-requires : goal.follow_labels-requires
follow_labels-requires c =
    let l = c.loop-self in
    let x = c.args in
    let D = tables_of x.list in
    let X = sources l.from l.self.at l.self.waiting in (
      c.requires.0,
      taken-below D (length x.list.follow.now) X c.loop-self-test.true (omega arith) l.invariant.2,
      taken-standings D (length x.list.follow.now) X l.invariant.2 (count_trailing_zeros 64 l.self.waiting),
      omega (arith, l.invariant.1, c.begin.auto.from, c.requires.2),
    )

pub loop-self-smaller : goal.loop-self-smaller
loop-self-smaller c =
    let l = c.loop-self in
    let x = c.args in
    let D = tables_of x.list in
    let d = c.loop-self-test.true in
    let h = least-small l.self.waiting d (omega arith) in
    searching-less D (length x.list.follow.now) (sources l.from l.self.at l.self.waiting) _ d (omega arith) (omega (arith, h, l.invariant.0))
    l.invariant.2 c.follow_labels.ensures

pub loop-self-preserved : goal.loop-self-preserved
loop-self-preserved c =
    let l = c.loop-self in
    let x = c.args in
    let D = tables_of x.list in
    let d = c.loop-self-test.true in
    let h = least-small l.self.waiting d (omega arith) in
    let f = c.follow_labels in (
      f.ensures.grown.slots ∙ length-set l.self.at (count_trailing_zeros 64 l.self.waiting) 0 ∙ l.invariant.0,
      f.ensures.grown.words ∙ l.invariant.1,
      searching-turn D (length x.list.follow.now) (sources l.from l.self.at l.self.waiting) _ d (omega arith) (omega (arith, h, l.invariant.0))
          l.invariant.2 f.ensures,
    )

pub returns : goal.returns
returns c =
    let l = c.loop-self in
    let x = c.args in
    let D = tables_of x.list in
    let X = sources l.from l.self.at l.self.waiting in
    record {
      searched = searched D (length x.list.follow.now) X c.requires.1 c.loop-self-test.false l.invariant.2;
      cleared = none-pending D (length x.list.follow.now) 64 X l.invariant.0 c.loop-self-test.false l.invariant.2;
    }
