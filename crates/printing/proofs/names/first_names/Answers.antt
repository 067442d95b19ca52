-- `first_names` meets its contract: a table with fewer names is lent as a whole.
use Rattle.std.proofs.Common.{ℕ, take, ap, ◌∙◌}
use Rattle.std.proofs.lemmas.List.{take_min}
use Rattle.printing.proofs.names.first_names.Goals as goal

pub returns : goal.returns
returns c = ap (λ (k : ℕ). take k c.args.names.now) c.min.ensures ∙ take_min c.args.count c.args.names.now
