-- Each of the three ways is a step of the exploration (StatesExploring), and keeps the index (NumberIndex).
use mathlib.Core.Path.{refl}
use lib.ListN.{length-set}
use native.Mathlib.Omega.{arith}
use Rattle.finding.specs.StatesExploring.{memory_of, same-sizes, extended-known, extended-over, extended-new}
use Rattle.finding.specs.NumberIndexLaws.{indexed-more, indexed-all, indexed-over}
use Rattle.finding.proofs.states.States.extend.Goals as goal

pub find_place-place-requires : goal.find_place-place-requires
find_place-place-requires c =
    let room = c.requires.3 in
    (omega (arith, room.states), omega (arith, room.most), c.bucket-at.ensures, c.requires.4)

pub returns-then-place-n : goal.returns-then-place-n
returns-then-place-n c =
    let a = c.args in
    record {
      extended = extended-known a.images.rows.now a.images.standings a.limit a.s a.list a.n c.next_state-next.result c.find_place-place.result
          (memory_of a.self.now a.table.now) c.requires.3 (omega (arith, c.requires.0, a.images.fit.1)) c.requires.1
          c.requires.2 c.next_state-next.ensures c.find_place-place.ensures c.if-place-n.true;
      kept = record { states = refl; origins = refl; steps = refl; rows = length-set _ _ _ };
      indexed = indexed-all c.requires.4;
    }

pub returns-then-n-limit : goal.returns-then-n-limit
returns-then-n-limit c =
    let a = c.args in
    record {
      extended = extended-over a.images.rows.now a.images.standings a.limit a.s a.list a.n c.next_state-next.result c.find_place-place.result
          (memory_of a.self.now a.table.now) c.requires.3 (omega (arith, c.requires.0, a.images.fit.1)) c.requires.1
          c.requires.2 c.next_state-next.ensures c.find_place-place.ensures c.if-place-n.false c.if-n-limit.true;
      kept = same-sizes _;
      indexed = indexed-over;
    }

pub returns : goal.returns
returns c =
    let a = c.args in
    let below = c.if-n-limit.false in
    let new = c.if-place-n.false in
    record {
      extended = extended-new a.images.rows.now a.images.standings a.limit a.s a.list a.n c.next_state-next.result c.find_place-place.result
          (memory_of a.self.now a.table.now) c.requires.3 (omega (arith, c.requires.0, a.images.fit.1)) c.requires.1
          c.requires.2 c.next_state-next.ensures c.find_place-place.ensures new below;
      kept = record { states = length-set _ _ _; origins = length-set _ _ _; steps = length-set _ _ _; rows = length-set _ _ _ };
      indexed = indexed-all (indexed-more a.self.now.found a.n c.next_state-next.result _ _ _ _ _
          c.bucket-at.ensures
          (omega (arith, below, c.requires.3.most)) (omega (arith, below, c.requires.3.states))
          (omega (arith, c.find_place-place.ensures, new)) c.requires.4 c.note.ensures);
    }
