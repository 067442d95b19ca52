-- The table's entry at a byte is the byte's kind: one computed test.
use Rattle.std.proofs.Common.{◌≡◌, ℕ, ◌<◌, List, map, refl, sym, ◌∙◌, get_or, arith}
use Rattle.std.proofs.Math.ListN.{get_or-map}
use Rattle.syntax.specs.declared.kind.Kind.{Kind}
use Rattle.syntax.specs.declared.kind.Kind.TheVariants.{Letter}
use Rattle.syntax.specs.declared.kind.TheConstants.{KINDS}
use Rattle.syntax.specs.Byte.{kind}
use Rattle.syntax.specs.KindTable.{kind_number, kind_table, kind_at}
use Rattle.syntax.proofs.kind.Kind.of.Goals as goal

entry : (t : List Kind) → map kind_number t ≡ kind_table → (b : ℕ) → b < 256 → kind_number (get_or t b Letter) ≡ kind b
entry t e b h = sym (get_or-map kind_number t b Letter) ∙ kind_at (map kind_number t) e b h

pub returns : goal.returns
unfolding kind_table kind
returns c = entry KINDS refl c.args.b (omega arith)
