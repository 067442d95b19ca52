-- The loop's invariant: `next` stands for a pair of the bucket, and the pairs from there on are others (finding: Buckets, Walk).
use Rattle.finding.specs.Buckets.{Walk}
use Rattle.verdict.specs.PairTable.{pair_at}
use Rattle.verdict.specs.Workspace.{pair}
use Rattle.verdict.specs.PairIndex.{bucket_of}
use Rattle.verdict.proofs.index.Index.seen.Given as goal

abbrev pub invariant-loop-next : goal.invariant-loop-next
invariant-loop-next l = Walk bucket_of (pair_at l.workspace) l.n (pair l.standing l.cover) l.next

abbrev pub decreases-loop-next : goal.decreases-loop-next
decreases-loop-next l = l.next
