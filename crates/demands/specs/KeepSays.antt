-- What an answer of Keep says of its job (demand 2, of a kept file), read off what is told and off the bytes as they are left.
use Rattle.std.specs.Prelude.{ℕ, ◌<◌, [], ◌∷◌, ◌↔◌, ◌≡◌, length, get_or}
use Rattle.theory.specs.Word.{Word}
use Rattle.theory.specs.Job.{IsWord}
use Rattle.theory.specs.Rewriting.{Sound}
use Rattle.syntax.specs.Byte.{Bytes}
use Rattle.syntax.specs.Reply.{given}
use Rattle.reading.specs.JobText.{NamedJob, job_of}
use Rattle.finding.specs.Find.{Rewriting}
use Rattle.finding.specs.Finds.{Finds}
use Rattle.keeping.specs.Kept.{kept}
use Rattle.keeping.specs.KeptFile.{file_lists, file_states, file_name, file_flag, file_followed}
use Rattle.keeping.specs.KeepOperation.{Outcome, written}

pub record KeepSays (J : NamedJob) (lent_out : Bytes) (o : Outcome) : Type 0 where
  -- followed by document 01's layout from state 0, the bytes end at flag 1 exactly for the sound words
  pub sound : (w : Word) → IsWord (job_of J) w → (file_flag o.out (file_followed o.out 0 w) ≡ 1) ↔ Sound (job_of J) w
  -- the lists by their names, and as many states as Find tells
  pub rewriting : Rewriting
  pub finds : Finds (job_of J) rewriting
  pub lists : file_lists o.out ≡ length J.list_names
  pub names : (v : ℕ) → v < length J.list_names → file_name o.out v ≡ get_or J.list_names v []
  pub states : file_states o.out ≡ rewriting.states
  -- the bytes are those of the rewriting, with zeros behind them, and their number is told
  pub bytes : o.out ≡ written (kept J.list_names rewriting) lent_out
  pub told : o.reply ≡ given (length (kept J.list_names rewriting) ∷ [])
