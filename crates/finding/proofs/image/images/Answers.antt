-- `images` meets its contract: the images are read off the sources that the search has found.
use Rattle.finding.specs.ListTables.{tables_of}
use Rattle.finding.specs.ImagesTold.{images-told}
use native.Mathlib.Omega.{arith}
use Rattle.finding.proofs.image.images.Goals as goal

pub find_sources-requires : goal.find_sources-requires
find_sources-requires c = let p = c.requires in (p.0, p.1, p.2, p.4)

pub turn-requires : goal.turn-requires
turn-requires c =
    let p = c.requires in
    let f = c.find_sources in (
      p.0.standings,
      omega (arith, p.2, f.auto.from),
      p.3,
      λ j y i h l m. (f.ensures.searched.sound (j, y) i h l m).0,
    )

pub returns : goal.returns
returns c =
    let x = c.args in
    let D = tables_of x.list in
    let f = c.find_sources in
    record {
      images_told = images-told D x.accepting.0 _ x.out.now _ f.ensures.searched c.turn.ensures;
      cleared = f.ensures.cleared;
    }
