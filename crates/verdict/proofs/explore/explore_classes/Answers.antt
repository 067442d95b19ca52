-- There is room for what the classes need, of four lists or of sixteen.
use Rattle.verdict.specs.TablesLaws.{occupied-few}
use native.Mathlib.Omega.{arith}
use Rattle.verdict.proofs.explore.explore_classes.Goals as goal

pub explore_with-requires : goal.explore_with-requires
explore_with-requires c =
    let s = c in
    let few = occupied-few s.args.tables.sizes.now s.args.tables.lists 0 s.args.tables.lists (omega arith) s.requires.0 in
    let four = c.if-tables-le4.true in
    record {
      given = s.requires;
      room = (omega (arith, four), omega (arith, few, four), omega (arith, few, four));
      small = (omega arith, omega arith);
    }

pub explore_with-requires-else-tables-le4 : goal.explore_with-requires-else-tables-le4
explore_with-requires-else-tables-le4 c =
    let s = c in
    let few = occupied-few s.args.tables.sizes.now s.args.tables.lists 0 s.args.tables.lists (omega arith) s.requires.0 in
    let most = s.requires.0.few in
    record {
      given = s.requires;
      room = (omega (arith, most), omega (arith, few, most), omega (arith, few, most));
      small = (omega arith, omega arith);
    }
