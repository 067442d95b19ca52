-- The cases P1 to P8 hold of the definitions (T10): computed by the prover from the texts' bytes.
use Rattle.std.specs.Prelude.{ℕ, zero, suc, Bool, true, false, List, [], ◌∷◌, ◌++◌, map, ◌≡◌, refl, length, take, drop}
use Rattle.std.proofs.Math.Option.{Option, some, none}
use Rattle.theory.specs.Path.{Path}
use Rattle.theory.specs.Job.{Job}
use Rattle.theory.specs.Places
use Rattle.theory.specs.Automaton
use Rattle.theory.specs.Exploration
use Rattle.theory.specs.Closure
use Rattle.theory.specs.NumberLists
use Rattle.theory.specs.FirstBelow
use Rattle.theory.specs.Leader
use Rattle.theory.specs.Leaders
use Rattle.theory.specs.Refinement
use Rattle.theory.specs.Quotient
use Rattle.theory.specs.Minimized
use Rattle.syntax.specs.Byte
use Rattle.syntax.specs.Name
use Rattle.syntax.specs.Parser
use Rattle.syntax.specs.Limits
use Rattle.syntax.specs.Resolve
use Rattle.syntax.specs.Check
use Rattle.syntax.specs.Number.{number}
use Rattle.reading.specs.Read
use Rattle.reading.specs.JobText.{job_of}
use Rattle.finding.specs.Standings
use Rattle.finding.specs.ListImage
use Rattle.finding.specs.States
use Rattle.finding.specs.Find
use Rattle.verdict.specs.Cover
use Rattle.verdict.specs.Pairs
use Rattle.verdict.specs.Verdict
use Rattle.verdict.specs.VerdictJob.{verdict_job}
use Rattle.answering.specs.Table
use Rattle.answering.specs.Marked
use Rattle.answering.specs.Product
use Rattle.answering.specs.AnswerJob
use Rattle.listed.specs.Cases.{Claim, standings, states, standings-within, states-within, next-states, flags, first}
use Rattle.listed.specs.Cases.{merged-states, merged-next-states, merged-flags}
use Rattle.listed.specs.Cases.{complete, missed, pairs, refused, links, lists, Case, cases}

-- A part of what Find gives.
abbrev part : {A : Type 0} → (Find.Rewriting → A) → Find.Found → Option A
part f (Find.found R) = some (f R)
part f (Find.Found.refused r) = none

abbrev told : {A : Type 0} → (Find.Rewriting → A) → Job → Option A
told f J = part f (Find.find J)

-- The same before states are merged.
abbrev explored : {A : Type 0} → (Find.Rewriting → A) → Job → Option A
explored f J = part f (Find.unmerged J)

-- What is explored with another limit of states.
abbrev explored_within : Job → ℕ → Find.Found
explored_within J most =
    Find.explore_automata (Automaton.glushkov J.query) J.labels (map Automaton.glushkov J.lists) Find.most_standings most

-- How many values an exploration finds.
abbrev counted : {A : Type 0} → Exploration.Exploration A → Option ℕ
counted (Exploration.all l) = some (length l)
counted Exploration.over = none

-- The first n numbers of each row of 16, m rows.
abbrev rows_of : ℕ → ℕ → List ℕ → List ℕ
rows_of n zero t = []
rows_of n (suc m) t = take n t ++ rows_of n m (drop 16 t)

abbrev is_complete : Verdict.Verdict → Bool
is_complete (Verdict.complete n) = true
is_complete (Verdict.missed p n) = false
is_complete (Verdict.refused r) = false

abbrev missed_path : Verdict.Verdict → Option Path
missed_path (Verdict.complete n) = none
missed_path (Verdict.missed p n) = some p
missed_path (Verdict.refused r) = none

abbrev pair_count : Verdict.Verdict → ℕ
pair_count (Verdict.complete n) = n
pair_count (Verdict.missed p n) = n
pair_count (Verdict.refused r) = 0

abbrev refusal_of : Verdict.Verdict → ℕ
refusal_of (Verdict.complete n) = 0
refusal_of (Verdict.missed p n) = 0
refusal_of (Verdict.refused r) = number r

-- A claim of a job.
abbrev pub Holds : Job → Claim → Type 0
Holds J (standings n) = told (λ R. R.standings) J ≡ some n
Holds J (states n) = explored (λ R. R.states) J ≡ some n
Holds J (standings-within m n) = counted (Standings.standings (Automaton.glushkov J.query) J.labels m) ≡ some n
Holds J (states-within m n) = part (λ R. R.states) (explored_within J m) ≡ some n
Holds J (next-states l) = explored (λ R. rows_of (length J.lists) R.states R.table) J ≡ some l
Holds J (flags l) = explored (λ R. R.flags) J ≡ some l
Holds J (merged-states n) = told (λ R. R.states) J ≡ some n
Holds J (merged-next-states l) = told (λ R. rows_of (length J.lists) R.states R.table) J ≡ some l
Holds J (merged-flags l) = told (λ R. R.flags) J ≡ some l
Holds J (first w) = told (λ R. R.first) J ≡ some w
Holds J (complete a) = is_complete (verdict_job J a) ≡ true
Holds J (missed a p) = missed_path (verdict_job J a) ≡ some p
Holds J (pairs a n) = pair_count (verdict_job J a) ≡ n
Holds J (refused a n) = refusal_of (verdict_job J a) ≡ n
Holds J (links N c t x m) = AnswerJob.links_job J N c t x ≡ AnswerJob.marked m
Holds J (lists N t x m) = AnswerJob.lists_job J N t x ≡ AnswerJob.marked m

abbrev pub AllHold : Job → List Claim → Type 0
AllHold J [] = Unit {0}
AllHold J (c ∷ l) = Holds J c × AllHold J l

-- The text is read as a job, and every claim holds of it.
abbrev pub ReadHolds : Read.Reading → List Claim → Type 0
ReadHolds (Read.job J) l = AllHold (job_of J) l
ReadHolds (Read.refused r n) l = ⊥

abbrev pub CasesHold : List Case → Type 0
CasesHold [] = Unit {0}
CasesHold (c ∷ l) = ReadHolds (Read.read c.text) c.claims × CasesHold l

pub cases-hold : CasesHold cases
unfolding Places.collect Places.union_over Automaton.nullable Automaton.first Automaton.last Automaton.link Automaton.follows Automaton.labelled Automaton.glushkov Automaton.nexts Automaton.step Automaton.standing_from Automaton.standing Automaton.accepts Exploration.run Exploration.known Exploration.grow Exploration.extend Exploration.row Exploration.sweep Exploration.explore Closure.closure Byte.kind Name.name_bytes Name.is_name Name.same_name Name.find Parser.run Parser.past_run Parser.past_mark Parser.suffixes Parser.named Parser.suffixed Parser.closed Parser.joined Parser.parse Parser.alternatives Limits.balance Limits.nesting Limits.leaves Limits.runs Resolve.numbered Resolve.known Resolve.names_at Check.check_tree Check.check Read.cut_at Read.after Read.fresh Read.given_label Read.given_query Read.given_list Read.early Read.late Read.given Read.ended Read.read_lines Read.read Standings.standings Standings.values Standings.place_from Standings.place_of Standings.move ListImage.onwards ListImage.next_nodes ListImage.reached_nodes ListImage.places_at ListImage.image ListImage.images_from ListImage.image_table States.state_step States.states States.accepting_standings States.state_accepts States.first_accepted Find.row Find.rows Find.flag Find.find_states Find.explore_automata Find.entry_of Find.table_of Find.flags_of Find.merged_found Find.unmerged Find.find_automata Find.find NumberLists.tabulate NumberLists.equal FirstBelow.first_below Leader.leader Leaders.leaders Refinement.flag_number Refinement.signature Refinement.round Refinement.rounds Refinement.classes Quotient.quotient Minimized.class_number Minimized.first_member Minimized.merged Minimized.minimized Cover.all_occurrences Cover.width Cover.places Cover.entered Cover.moved_within Cover.moves Cover.passed Cover.finished Cover.ends Cover.settled Cover.cover_start Cover.cover_step Cover.yielding Pairs.same_pair Pairs.pairs Pairs.misses Pairs.first_missed Verdict.verdict Table.rises Table.rising_after Table.rising Table.is_table Product.along Product.next_nodes Product.reached_nodes Product.marked Product.marks_from Product.marks Marked.ones AnswerJob.chosen AnswerJob.links_job AnswerJob.lists_job verdict_job
cases-hold = (
  (refl, (refl, (refl, (refl, (refl, (refl, (refl, (refl, (refl, (refl, (refl, tt))))))))))),
  (
    (refl, (refl, (refl, (refl, (refl, (refl, (refl, tt))))))),
    (
      (refl, (refl, (refl, (refl, tt)))),
      (
        (refl, (refl, (refl, (refl, (refl, (refl, tt)))))),
        (
          (refl, (refl, (refl, (refl, tt)))),
          (
            (refl, (refl, (refl, (refl, tt)))),
            (
              (refl, (refl, (refl, tt))),
              (
                (refl, (refl, tt)),
                tt,
              ),
            ),
          ),
        ),
      ),
    ),
  ),
)
