-- An operation's outcome, with the number of its reply, is what is left at the boundary.
use Rattle.std.specs.Prelude.{ℕ, ◌≡◌}
use Rattle.std.proofs.Common.{ap, ◌∙◌}
use Rattle.verdict.specs.VerdictOperation as judging
use Rattle.answering.specs.LinksOperation as answering
use Rattle.keeping.specs.KeepOperation as keeping
use Rattle.server.specs.Packed.{verdict_number, one_number}
use Rattle.server.specs.VerdictLeft as verdict_left
use Rattle.server.specs.AnswersLeft as answers_left
use Rattle.server.specs.KeepLeft as keep_left

pub verdict-left : {q o : judging.Outcome} {n : ℕ} → q ≡ o → n ≡ verdict_number o.reply
    → verdict_left.left n q.table q.flags q.path q.workspace ≡ verdict_left.left_by o
verdict-left {q} {o} told e =
    ap (λ m. verdict_left.left m q.table q.flags q.path q.workspace) e
    ∙ ap (λ p. verdict_left.left (verdict_number o.reply) p.table p.flags p.path p.workspace) told

pub answer-left : {q o : answering.Outcome} {n : ℕ} → q ≡ o → n ≡ one_number o.reply
    → answers_left.left n q.marks q.workspace ≡ answers_left.left_by o
answer-left {q} {o} told e =
    ap (λ m. answers_left.left m q.marks q.workspace) e
    ∙ ap (λ p. answers_left.left (one_number o.reply) p.marks p.workspace) told

pub keep_left_lem : {q o : keeping.Outcome} {n : ℕ} → q ≡ o → n ≡ one_number o.reply → keep_left.left n q.out ≡ keep_left.left_by o
keep_left_lem {q} {o} told e =
    ap (λ m. keep_left.left m q.out) e ∙ ap (λ p. keep_left.left (one_number o.reply) p.out) told
