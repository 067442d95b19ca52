use Rattle.std.specs.Prelude.{◌-◌}
use Rattle.finding.specs.BucketsLaws.{walk_start, walk_turn, walk-less}
use Rattle.verdict.specs.PairTable.{pair_at}
use Rattle.verdict.specs.Workspace.{pair}
use Rattle.verdict.specs.PairIndex.{bucket_of}
use Rattle.verdict.specs.PairIndexLaws.{bucket-below, walk-found, walk_end}
use native.Mathlib.Omega.{arith}
use Rattle.verdict.proofs.index.Index.seen.Goals as goal

pub offset_bounds-self-at : goal.offset_bounds-self-at
offset_bounds-self-at c = omega (arith, bucket-below (pair c.args.standing c.args.cover.now), c.requires.2)

pub bounds-self-at : goal.bounds-self-at
bounds-self-at c = omega (arith, bucket-below (pair c.args.standing c.args.cover.now), c.requires.2)

pub overflow_cast-next : goal.overflow_cast-next
overflow_cast-next c =
    let s = c in
    let b = bucket-below (pair s.args.standing s.args.cover.now) in
    omega (arith, (s.requires.3.chained.head s.args.at (omega (arith, b, s.requires.2))).within, s.requires.1)

pub loop-next-init : goal.loop-next-init
loop-next-init c =
    let s = c in
    walk_start bucket_of 4093 4096 (pair_at s.args.workspace.now) s.args.n s.args.self.now.heads s.args.self.now.nexts
    s.requires.3.chained (pair s.args.standing s.args.cover.now) s.args.at s.requires.2
    (omega (arith, bucket-below (pair s.args.standing s.args.cover.now), s.requires.2))

pub is_pair-requires : goal.is_pair-requires
is_pair-requires c =
    let s = c in
    let l = c.loop-next in
    let some = c.loop-next-test.true in
    (omega (arith, l.invariant.within, some, s.requires.0), s.requires.4, s.requires.5, s.requires.6.below (l.next - 1) (omega (arith, l.invariant.within, some)))

pub returns-then-is_pair : goal.returns-then-is_pair
returns-then-is_pair c =
    let s = c in
    let l = c.loop-next in
    walk-found s.args.workspace.now s.args.n (pair s.args.standing s.args.cover.now) l.next l.invariant
    c.loop-next-test.true (c.is_pair.ensures.same c.if-is_pair.true)

pub offset_bounds-self-i : goal.offset_bounds-self-i
offset_bounds-self-i c = omega (arith, c.loop-next.invariant.within, c.requires.1)

pub bounds-self-i : goal.bounds-self-i
bounds-self-i c =
    let l = c in
    omega (arith, l.loop-next.invariant.within, c.loop-next-test.true, l.requires.1)

pub overflow_cast-next-in-loop-next : goal.overflow_cast-next-in-loop-next
overflow_cast-next-in-loop-next c =
    let s = c in
    let l = c.loop-next in
    omega (
      arith,
      (s.requires.3.chained.next (l.next - 1) (omega (arith, l.invariant.within, c.loop-next-test.true))).within,
      l.invariant.within,
      s.requires.1,
    )

pub loop-next-smaller : goal.loop-next-smaller
loop-next-smaller c =
    let s = c in
    let l = c.loop-next in
    walk-less bucket_of 4093 4096 (pair_at s.args.workspace.now) s.args.n s.args.self.now.heads s.args.self.now.nexts
    s.requires.3.chained (pair s.args.standing s.args.cover.now) l.next l.invariant c.loop-next-test.true

pub loop-next-preserved : goal.loop-next-preserved
loop-next-preserved c =
    let s = c in
    let l = c.loop-next in
    walk_turn bucket_of 4093 4096 (pair_at s.args.workspace.now) s.args.n s.args.self.now.heads s.args.self.now.nexts
    s.requires.3.chained (pair s.args.standing s.args.cover.now) l.next l.invariant
    c.loop-next-test.true (c.is_pair.ensures.differs c.if-is_pair.false)

pub returns : goal.returns
returns c =
    let s = c in
    let l = c.loop-next in
    walk_end s.args.workspace.now s.args.n (pair s.args.standing s.args.cover.now) l.next l.invariant
    c.loop-next-test.false
