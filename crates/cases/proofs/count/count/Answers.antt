-- `count` meets its contract: reading refuses more labels and lists than there is room for.
use Rattle.finding.specs.Operation.{read-few}
use Rattle.cases.proofs.count.count.Goals as goal

pub count_in-requires : goal.count_in-requires
count_in-requires c = read-few c.args.text.now c.load-told.ensures c.in-Ok.is
