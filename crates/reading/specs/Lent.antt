-- The tables as the code has them lent, and what they hold.
use Rattle.std.specs.Prelude.{◌+◌, ◌≤◌, ◌≡◌, length}
use Rattle.std.proofs.Common.{◌∙◌}
use Rattle.reading.specs.declared.progress.Progress.{Progress as Numbers}
use Rattle.reading.specs.declared.tables.Tables.{Tables as Lent}
use Rattle.reading.specs.Text.{most_labels}
use Rattle.reading.specs.Tables.{Tables}
use Rattle.reading.specs.Loading.{tables}
use Rattle.reading.specs.RowRoom.{HasRows}

abbrev pub held : Lent → Tables
held t = tables t.names.now t.follow.now t.enter.now t.sizes.now t.accepting.now

-- The tables of fixed length are whole.
pub record Whole (t : Lent) : Type 0 where
  pub names : length t.names.now ≡ 48
  pub sizes : length t.sizes.now ≡ 17
  pub accepting : length t.accepting.now ≡ 17

-- Room for what the next line may give.
pub record Ready (p : Numbers) (t : Lent) : Type 0 where
  pub few-labels : p.labels ≤ most_labels
  pub rows : HasRows (p.lists + 1) t.follow.now t.enter.now
  pub whole : Whole t

-- The same memory is lent, which is as long as it was.
abbrev pub SameMemory : Lent → Lent → Type 0
SameMemory t t' =
    (t'.names.ghost_name ≡ t.names.ghost_name) × (t'.follow.ghost_name ≡ t.follow.ghost_name)
    × (t'.enter.ghost_name ≡ t.enter.ghost_name) × (t'.sizes.ghost_name ≡ t.sizes.ghost_name)
    × (t'.accepting.ghost_name ≡ t.accepting.ghost_name) × (length t'.names.now ≡ length t.names.now)
    × (length t'.follow.now ≡ length t.follow.now) × (length t'.enter.now ≡ length t.enter.now)
    × (length t'.sizes.now ≡ length t.sizes.now) × (length t'.accepting.now ≡ length t.accepting.now)

-- The rows are as they were: all that the tables hold beside the names.
abbrev pub SameRows : Lent → Lent → Type 0
SameRows t t' =
    (t'.follow.now ≡ t.follow.now) × (t'.enter.now ≡ t.enter.now) × (t'.sizes.now ≡ t.sizes.now) × (t'.accepting.now ≡ t.accepting.now)

-- The names are as they were.
abbrev pub SameNames : Lent → Lent → Type 0
SameNames t t' = t'.names.now ≡ t.names.now

pub same-whole : {t : Lent} (u : Lent) → SameMemory t u → Whole t → Whole u
same-whole u s w = record { names = s.5 ∙ w.names; sizes = s.8 ∙ w.sizes; accepting = s.9 ∙ w.accepting }
