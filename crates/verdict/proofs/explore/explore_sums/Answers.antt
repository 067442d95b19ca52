-- The sums are put down, so that steps by classes are ready; where they have no room, nothing is done.
use Rattle.std.specs.Prelude.{◌≡◌, true, length}
use mathlib.Core.Path.{refl}
use Rattle.verdict.specs.Searches.{told-search}
use native.Mathlib.Omega.{arith}
use borrow.Author.Rules.{rules}
use Rattle.verdict.proofs.explore.explore_sums.Goals as goal

pub prepare_classes-requires : goal.prepare_classes-requires
prepare_classes-requires g c =
    let s = c in
    let m = s.requires.given.0 in (
      s.requires.given.1,
      s.requires.given.2,
      m.ready.counted.few,
      m.ready.accepting-room,
      m.ready.table-room,
      m.few-classes,
      omega arith,
      λ v d h. ((m.ending.exact v d).0 h).0,
    )

pub returns-then-not-prepare_classes : goal.returns-then-not-prepare_classes
returns-then-not-prepare_classes g c = refl

pub pairs-found-requires : goal.pairs-found-requires
pairs-found-requires g c =
    let s = c in
    let m = s.requires.given.0 in
    let p = c.prepare_classes.ensures c.if-not-prepare_classes.false in
    let room : length s.args.merged.now ≡ 128 = search rules in (
      record {
        apart = λ h e. cc;
        classed = λ h e. record {
          ready = m.ready;
          some = s.requires.given.1;
          few = s.requires.given.2;
          some-class = m.some-class;
          few-classes = m.few-classes;
          few-places = m.few-places;
          few-labels = m.few-labels;
          before = m.before;
          leading = m.leading;
          stable = m.stable;
          merged-room = omega (arith, room);
          sums = p.0 _ _ m.ending;
        };
      },
      λ h. p.1,
      s.requires.given.3,
      λ h. elim h [ ],
    )

pub returns : goal.returns
returns g c = told-search _ true _ c.pairs-found.ensures
