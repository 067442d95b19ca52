-- What is told is small, so that it fits into the number.
use Rattle.std.proofs.Common.{ap, ◌∙◌, get_or, arith}
use Rattle.answering.specs.AnswersSmall.{links-small}
use Rattle.server.specs.Packed.{one_number}
use Rattle.server.specs.LeftLaws.{answer-left}
use Rattle.server.proofs.links.cezhappu_answer_from_links.Goals as goal

pub one-requires : goal.one-requires
one-requires c =
    let a = c.args in
    let s = links-small a.job.now a.recordings a.chosen a.links.now a.start a.marks.now a.workspace.now in
    let e = ap (λ o. o.reply) c.answer_from_links.ensures in
    record {
      line = omega (arith, s.line, ap (λ r. r.line) e);
      value = omega (arith, s.ones, ap (λ r. get_or r.values 0 0) e);
    }

pub returns : goal.returns
returns c = answer-left c.answer_from_links.ensures (c.one.ensures ∙ ap (λ o. one_number o.reply) c.answer_from_links.ensures)
