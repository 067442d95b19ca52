-- What an answer of Find says of its job (demand 2), read off what is told and off the buffers as they are left.
use Rattle.std.specs.Prelude.{ℕ, ◌*◌, ◌<◌, List, [], ◌∷◌, ◌↔◌, ◌⊎◌, ◌≡◌, get_or, take}
use Rattle.theory.specs.Word.{Word}
use Rattle.theory.specs.Job.{Job, IsWord}
use Rattle.theory.specs.Rewriting.{Sound}
use Rattle.syntax.specs.Reply.{given}
use Rattle.finding.specs.Find.{Rewriting}
use Rattle.finding.specs.Finds.{followed, Finds}
use Rattle.finding.specs.WordTold.{first_word, word_of}
use Rattle.finding.specs.Outcome.{Outcome}
use Rattle.finding.specs.Named.{written}

-- The rewriting that a caller holds: the two numbers told, a row of 16 numbers and a flag for each state, and the first word.
abbrev pub held : Outcome → Rewriting
held o =
    let states = get_or o.reply.values 1 0 in
    record {
      standings = get_or o.reply.values 0 0;
      states = states;
      table = take (16 * states) o.table;
      flags = take states o.flags;
      first = word_of o.first;
    }

pub record FindSays (J : Job) (lent_table lent_flags : List ℕ) (o : Outcome) : Type 0 where
  -- the table, followed from state 0 by list numbers, ends at flag 1 exactly for the sound words
  pub sound : (w : Word) → IsWord J w → (get_or o.flags (followed o.table 0 w) 0 ≡ 1) ↔ Sound J w
  -- every flag is 0 or 1
  pub bits : (s : ℕ) → s < 256 → (get_or o.flags s 0 ≡ 0) ⊎ (get_or o.flags s 0 ≡ 1)
  -- the counts, the numbers of the states and the first word are those of document 01
  pub finds : Finds J (held o)
  -- nothing else is told
  pub told : o.reply ≡ given ((held o).standings ∷ ((held o).states ∷ []))
  pub word : o.first ≡ first_word (held o).first
  -- unused places are zero, and what lies beyond the named parts is as it was lent
  pub table : o.table ≡ written 4096 (held o).table lent_table
  pub flags : o.flags ≡ written 256 (held o).flags lent_flags
