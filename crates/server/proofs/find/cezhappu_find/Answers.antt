-- Find's answer is small, so that it fits into the number; its first word goes to the lent word.
use Rattle.server.specs.FindLeftLaws.{no_room, small, all_told}
use Rattle.std.proofs.Common.{ap, ◌∙◌, arith}
use Rattle.syntax.specs.Reply.{refusing}
use Rattle.reading.specs.declared.answer.Refused.{Refused}
use Rattle.server.specs.Packed.{packed}
use Rattle.server.proofs.find.cezhappu_find.Goals as goal

pub returns-then-word-lt256 : goal.returns-then-word-lt256
returns-then-word-lt256 c =
    let a = c.args in
    no_room a.job.now a.table.now a.flags.now a.word.now c.refused.result c.if-word-lt256.true (c.refused.ensures ∙ ap (λ (e : Refused). packed (refusing e.refusal e.line) 0) c.from.ensures)

pub put_word-requires : goal.put_word-requires
put_word-requires c = omega (arith, c.if-word-lt256.false)

pub find_number-requires : goal.find_number-requires
find_number-requires c =
    let called = c in
    let tested = called in
    let a = tested.args in
    let f = called.find-told in
    small a.job.now a.table.now a.flags.now a.word.now f.result f.new.table f.new.marks f.ensures

pub returns : goal.returns
returns c =
    let put = c in
    let called = c in
    let tested = called in
    let a = tested.args in
    let f = called.find-told in
    all_told a.job.now a.table.now a.flags.now a.word.now f.result f.new.table f.new.marks f.ensures
    tested.if-word-lt256.false c.find_number.result put.put_word.new.word c.find_number.ensures put.put_word.ensures
