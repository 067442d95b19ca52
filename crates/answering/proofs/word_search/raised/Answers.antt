-- `raised` meets its contract: the tests say which case holds.
use Rattle.std.proofs.Common.{refl}
use Rattle.answering.proofs.word_search.raised.Goals as goal
use Rattle.answering.proofs.word_search.raised.Goals.{else-waited-eq0-via-then-waited-eq0+else-new-ne0, else-waited-eq0-via-else-waited-eq0}

pub returns-then-new-ne0 : goal.returns-then-new-ne0
returns-then-new-ne0 c =
    record { up = λ e d. refl; on = λ d. absurd (d c.if-waited-eq0.true); same = λ e. absurd (c.if-new-ne0.true e) }

pub returns-else-waited-eq0 : goal.returns-else-waited-eq0
returns-else-waited-eq0 c =
    elim c.else-waited-eq0.branch [
      | else-waited-eq0-via-then-waited-eq0+else-new-ne0 w ↦
          record { up = λ e d. absurd (d w.if-new-ne0.false); on = λ d. refl; same = λ e. refl }
      | else-waited-eq0-via-else-waited-eq0 w ↦
          record { up = λ e d. absurd (w.if-waited-eq0.false e); on = λ d. refl; same = λ e. refl }
    ]
