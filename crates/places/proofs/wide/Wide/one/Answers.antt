-- The first place, moved up.
use mathlib.Core.Path.{◌∙◌}
use lib.Bits.{or_zero_l}
use Rattle.places.specs.Words.{number_of}
use Rattle.places.specs.WordsShift.{one-cut}
use Rattle.places.proofs.wide.Wide.one.Goals as goal

pub returns : goal.returns
unfolding number_of
returns c = c.with_shifted.ensures ∙ or_zero_l _ ∙ one-cut 1024 c.args.place
