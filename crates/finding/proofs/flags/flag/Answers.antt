use Rattle.std.specs.Prelude.{◌≡◌, Bool, true, false, refl}
use Rattle.std.proofs.Common.{◌∙◌}
use mir.Val.{bool_byte}
use Rattle.finding.specs.Find.{flag}
use Rattle.finding.proofs.flags.flag.Goals as goal

flag_byte : (b : Bool) → bool_byte b ≡ flag b
unfolding flag
flag_byte true = refl
flag_byte false = refl

pub returns : goal.returns
returns c = c.from.ensures ∙ flag_byte c.args.accepts
