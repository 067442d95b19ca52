-- The set is below the numbers of one word, of four, of eight, or of all sixteen.
use Rattle.std.specs.Prelude.{◌*◌}
use Rattle.theory.specs.PlacesLaws.{wider}
use Rattle.places.specs.Words.{number_of}
use native.Mathlib.Omega.{arith}
use Rattle.verdict.proofs.index.bucket.Goals as goal

pub remainder-requires : goal.remainder-requires
remainder-requires c =
    let s = c in
    (omega arith, wider (64 * s.args.used) 64 (number_of s.args.cover.now) (omega (arith, c.if-used-le1.true)) s.requires.1)

pub remainder-requires-then-used-le4 : goal.remainder-requires-then-used-le4
remainder-requires-then-used-le4 c =
    let s = c in
    (omega arith, wider (64 * s.args.used) 256 (number_of s.args.cover.now) (omega (arith, c.if-used-le4.true)) s.requires.1)

pub remainder-requires-then-used-le8 : goal.remainder-requires-then-used-le8
remainder-requires-then-used-le8 c =
    let s = c in
    (omega arith, wider (64 * s.args.used) 512 (number_of s.args.cover.now) (omega (arith, c.if-used-le8.true)) s.requires.1)

pub remainder-requires-2 : goal.remainder-requires-2
remainder-requires-2 c =
    let s = c in
    (omega arith, wider (64 * s.args.used) 1024 (number_of s.args.cover.now) (omega (arith, s.requires.0)) s.requires.1)
