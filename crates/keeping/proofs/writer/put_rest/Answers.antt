-- `put_rest` meets its contract.
use Rattle.std.proofs.Common.{ℕ, replicate, ap}
use Rattle.output.specs.Writer.{puts_same}
use Rattle.keeping.proofs.writer.put_rest.Goals as goal

pub returns : goal.returns
returns c = puts_same (ap (λ (n : ℕ). replicate n 0) c.saturating_sub.ensures) c.put_zeros.ensures
