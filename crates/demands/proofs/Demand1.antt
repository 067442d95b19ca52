-- `Demand1` holds.
use Rattle.demands.proofs.ReadListed.{read-listed}
use Rattle.demands.proofs.FindListed.{find-listed}
use Rattle.demands.proofs.VerdictListed.{verdict-listed}
use Rattle.demands.proofs.AnswersListed.{links-listed, lists-listed}
use Rattle.demands.proofs.KeepListed.{keep-listed}
use Rattle.demands.specs.Demand1.{Demand1}

pub demand-1 : Demand1
demand-1 =
    record {
      read = read-listed;
      find = find-listed;
      verdict = verdict-listed;
      links = links-listed;
      lists = lists-listed;
      keep = keep-listed;
    }
