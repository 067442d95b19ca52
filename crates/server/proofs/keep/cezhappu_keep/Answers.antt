-- What is told is small, so that it fits into the number.
use Rattle.std.proofs.Common.{ap, ◌∙◌, get_or, arith}
use Rattle.keeping.specs.KeepOperationLaws.{keep-small}
use Rattle.server.specs.Packed.{one_number}
use Rattle.server.specs.LeftLaws.{keep_left_lem}
use Rattle.server.proofs.keep.cezhappu_keep.Goals as goal

pub one-requires : goal.one-requires
one-requires c =
    let a = c.args in
    let s = keep-small a.job.now a.out.now in
    let e = ap (λ o. o.reply) c.keep.ensures in
    record {
      line = omega (arith, s.line, ap (λ r. r.line) e);
      value = omega (arith, s.size, ap (λ r. get_or r.values 0 0) e);
    }

pub returns : goal.returns
returns c = keep_left_lem c.keep.ensures (c.one.ensures ∙ ap (λ o. one_number o.reply) c.keep.ensures)
