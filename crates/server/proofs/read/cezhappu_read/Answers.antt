-- What Read tells fits into the returned number.
use mathlib.Core.Path.{ap, ◌∙◌}
use lib.ListN.{get_or}
use Rattle.reading.specs.Answering.{read_reply}
use Rattle.server.specs.Packed.{read_number}
use Rattle.server.specs.SameReply.{same-reply}
use Rattle.server.specs.ReadSmall.{read_small}
use native.Mathlib.Omega.{arith}
use Rattle.server.proofs.read.cezhappu_read.Goals as goal

pub overflow_mul-counts : goal.overflow_mul-counts
overflow_mul-counts c =
    let a = c.args in
    let r = c.read in
    let e = same-reply read_reply r.ensures c.in-Ok.is in
    let s = read_small a.job.now in
    omega (arith, s.labels, s.lists, ap (λ r. get_or r.values 0 0) e, ap (λ r. get_or r.values 1 0) e)

pub overflow_add-counts : goal.overflow_add-counts
overflow_add-counts c =
    let a = c.args in
    let r = c.read in
    let e = same-reply read_reply r.ensures c.in-Ok.is in
    let s = read_small a.job.now in
    omega (arith, s.labels, s.lists, ap (λ r. get_or r.values 0 0) e, ap (λ r. get_or r.values 1 0) e)

pub answered-requires : goal.answered-requires
answered-requires c =
    let a = c.args in
    let r = c.read in
    let e = same-reply read_reply r.ensures c.in-Ok.is in
    let s = read_small a.job.now in
    omega (arith, s.labels, s.lists, ap (λ r. get_or r.values 0 0) e, ap (λ r. get_or r.values 1 0) e)

pub refused-requires : goal.refused-requires
refused-requires c =
    let a = c.args in
    let r = c.read in
    let e = same-reply read_reply r.ensures c.in-Err.is in
    let s = read_small a.job.now in
    omega (arith, s.line, ap (λ r. r.line) e)

pub returns-in-Ok : goal.returns-in-Ok
returns-in-Ok c =
    let r = c.read in
    c.answered.ensures ∙ ap read_number (same-reply read_reply r.ensures c.in-Ok.is)

pub returns-in-Err : goal.returns-in-Err
returns-in-Err c =
    let r = c.read in
    c.refused.ensures ∙ ap read_number (same-reply read_reply r.ensures c.in-Err.is)
