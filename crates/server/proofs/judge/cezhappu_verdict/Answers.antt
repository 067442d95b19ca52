-- What Verdict tells is small, so that it fits into the number.
use Rattle.std.specs.Prelude.{Ok}
use Rattle.std.proofs.Common.{ap, ◌∙◌}
use lib.ListN.{get_or}
use Rattle.verdict.specs.VerdictOperation.{verdict_reply}
use Rattle.verdict.specs.VerdictSmall.{verdict-small}
use Rattle.server.specs.Packed.{verdict_number}
use Rattle.server.specs.SameReply.{same-reply}
use Rattle.server.specs.LeftLaws.{verdict-left}
use native.Mathlib.Omega.{arith}
use Rattle.server.proofs.judge.cezhappu_verdict.Goals as goal

pub answered-requires : goal.answered-requires
answered-requires c =
    let called = c in
    let a = called.args in
    let e = same-reply verdict_reply (ap (λ o. o.reply) called.judge.ensures) (c.in-Ok.is ∙ ap Ok c.in-Complete.is) in
    let s = verdict-small a.job.now a.allowance a.table.now a.flags.now a.path.now a.workspace.now in
    omega (arith, s.pairs, ap (λ r. get_or r.values 0 0) e)

pub overflow_add-length : goal.overflow_add-length
overflow_add-length c =
    let called = c in
    let a = called.args in
    let e = same-reply verdict_reply (ap (λ o. o.reply) called.judge.ensures) (c.in-Ok.is ∙ ap Ok c.in-Missed.is) in
    let s = verdict-small a.job.now a.allowance a.table.now a.flags.now a.path.now a.workspace.now in
    omega (arith, s.pairs, s.short, ap (λ r. get_or r.values 0 0) e, ap (λ r. get_or r.values 1 0) e)

pub overflow_mul-length : goal.overflow_mul-length
overflow_mul-length c =
    let called = c in
    let a = called.args in
    let e = same-reply verdict_reply (ap (λ o. o.reply) called.judge.ensures) (c.in-Ok.is ∙ ap Ok c.in-Missed.is) in
    let s = verdict-small a.job.now a.allowance a.table.now a.flags.now a.path.now a.workspace.now in
    omega (arith, s.pairs, s.short, ap (λ r. get_or r.values 0 0) e, ap (λ r. get_or r.values 1 0) e)

pub overflow_add-pairs : goal.overflow_add-pairs
overflow_add-pairs c =
    let called = c in
    let a = called.args in
    let e = same-reply verdict_reply (ap (λ o. o.reply) called.judge.ensures) (c.in-Ok.is ∙ ap Ok c.in-Missed.is) in
    let s = verdict-small a.job.now a.allowance a.table.now a.flags.now a.path.now a.workspace.now in
    omega (arith, s.pairs, s.short, ap (λ r. get_or r.values 0 0) e, ap (λ r. get_or r.values 1 0) e)

pub answered-requires-in-Missed : goal.answered-requires-in-Missed
answered-requires-in-Missed c =
    let called = c in
    let a = called.args in
    let e = same-reply verdict_reply (ap (λ o. o.reply) called.judge.ensures) (c.in-Ok.is ∙ ap Ok c.in-Missed.is) in
    let s = verdict-small a.job.now a.allowance a.table.now a.flags.now a.path.now a.workspace.now in
    omega (arith, s.pairs, s.short, ap (λ r. get_or r.values 0 0) e, ap (λ r. get_or r.values 1 0) e)

pub refused-requires : goal.refused-requires
refused-requires c =
    let called = c in
    let a = called.args in
    let e = same-reply verdict_reply (ap (λ o. o.reply) called.judge.ensures) c.in-Err.is in
    let s = verdict-small a.job.now a.allowance a.table.now a.flags.now a.path.now a.workspace.now in
    omega (arith, s.line, ap (λ r. r.line) e)

pub returns-in-Complete : goal.returns-in-Complete
returns-in-Complete c =
    let f = c.judge in
    let e = same-reply verdict_reply (ap (λ o. o.reply) f.ensures) (c.in-Ok.is ∙ ap Ok c.in-Complete.is) in
    verdict-left f.ensures
    (omega (arith, c.answered.ensures) ∙ ap verdict_number e)

pub returns-in-Missed : goal.returns-in-Missed
returns-in-Missed c =
    let f = c.judge in
    let e = same-reply verdict_reply (ap (λ o. o.reply) f.ensures) (c.in-Ok.is ∙ ap Ok c.in-Missed.is) in
    verdict-left f.ensures
    (omega (arith, c.answered-in-Missed.ensures) ∙ ap verdict_number e)

pub returns-in-Err : goal.returns-in-Err
returns-in-Err c =
    let f = c.judge in
    let e = same-reply verdict_reply (ap (λ o. o.reply) f.ensures) c.in-Err.is in
    verdict-left f.ensures
    (omega (arith, c.refused.ensures) ∙ ap verdict_number e)
