-- There is room for the images of the lists: of at most two, of four, or of sixteen.
use native.Mathlib.Omega.{arith}
use Rattle.finding.proofs.job_rows.find_states.Goals as goal

pub states_with-requires-else-job-le4 : goal.states_with-requires-else-job-le4
states_with-requires-else-job-le4 c = record { enough = omega (arith, c.args.job.held.few-lists); small = omega arith; few = c.requires }
