-- Document 01's example: what is printed for its job, computed by the prover from the job's bytes.
use Rattle.std.specs.Prelude.{[], ◌∷◌, ◌++◌, ◌≡◌, refl}
use Rattle.theory.specs.Places
use Rattle.theory.specs.Automaton
use Rattle.theory.specs.Exploration
use Rattle.theory.specs.Closure
use Rattle.theory.specs.NumberLists
use Rattle.theory.specs.FirstBelow
use Rattle.theory.specs.Leader
use Rattle.theory.specs.Leaders
use Rattle.theory.specs.Refinement
use Rattle.theory.specs.Quotient
use Rattle.theory.specs.Minimized
use Rattle.syntax.specs.Byte
use Rattle.syntax.specs.Name
use Rattle.syntax.specs.Parser
use Rattle.syntax.specs.Limits
use Rattle.syntax.specs.Resolve
use Rattle.syntax.specs.Check
use Rattle.reading.specs.Read
use Rattle.finding.specs.Standings
use Rattle.finding.specs.ListImage
use Rattle.finding.specs.States
use Rattle.finding.specs.Find
use Rattle.verdict.specs.Cover
use Rattle.verdict.specs.Pairs
use Rattle.verdict.specs.Verdict
use Rattle.output.specs.Decimal
use Rattle.verdict.specs.VerdictJob.{verdict_job}
use Rattle.syntax.specs.Byte.{Bytes}
use Rattle.printing.specs.Lines
use Rattle.printing.specs.Printed

-- The lines of the job.
abbrev pub example_job : Bytes
example_job =
    (108 ∷ (97 ∷ (98 ∷ (101 ∷ (108 ∷ (32 ∷ (101 ∷ (112 ∷ (105 ∷ (115 ∷ (111 ∷ (100 ∷ (101 ∷ (10 ∷ []))))))))))))))
    ++ ((108 ∷ (97 ∷ (98 ∷ (101 ∷ (108 ∷ (32 ∷ (109 ∷ (105 ∷ (120 ∷ (10 ∷ []))))))))))
    ++ ((108 ∷ (97 ∷ (98 ∷ (101 ∷ (108 ∷ (32 ∷ (109 ∷ (97 ∷ (115 ∷ (116 ∷ (101 ∷ (114 ∷ (10 ∷ [])))))))))))))
    ++ ((113 ∷ (117 ∷ (101 ∷ (114 ∷ (121 ∷ (32 ∷ (101 ∷ (112 ∷ (105 ∷ (115 ∷ (111 ∷ (100 ∷ (101 ∷ (46 ∷ (40 ∷ (109 ∷ (105 ∷ (120 ∷ (124 ∷ (109 ∷ (97 ∷ (115 ∷ (116 ∷ (101 ∷ (114 ∷ (41 ∷ (10 ∷ [])))))))))))))))))))))))))))
    ++ ((108 ∷ (105 ∷ (115 ∷ (116 ∷ (32 ∷ (101 ∷ (112 ∷ (105 ∷ (115 ∷ (111 ∷ (100 ∷ (101 ∷ (115 ∷ (32 ∷ (101 ∷ (112 ∷ (105 ∷ (115 ∷ (111 ∷ (100 ∷ (101 ∷ (10 ∷ []))))))))))))))))))))))
    ++ ((108 ∷ (105 ∷ (115 ∷ (116 ∷ (32 ∷ (109 ∷ (105 ∷ (120 ∷ (101 ∷ (115 ∷ (32 ∷ (109 ∷ (105 ∷ (120 ∷ (10 ∷ []))))))))))))))))))))

-- The lines that are printed.
abbrev pub example_printed : Bytes
example_printed =
    (113 ∷ (117 ∷ (101 ∷ (114 ∷ (121 ∷ (32 ∷ (53 ∷ (10 ∷ []))))))))
    ++ ((115 ∷ (116 ∷ (97 ∷ (116 ∷ (101 ∷ (115 ∷ (32 ∷ (52 ∷ (10 ∷ [])))))))))
    ++ ((48 ∷ (32 ∷ (45 ∷ (32 ∷ (49 ∷ (32 ∷ (50 ∷ (10 ∷ []))))))))
    ++ ((49 ∷ (32 ∷ (45 ∷ (32 ∷ (50 ∷ (32 ∷ (51 ∷ (10 ∷ []))))))))
    ++ ((50 ∷ (32 ∷ (45 ∷ (32 ∷ (50 ∷ (32 ∷ (50 ∷ (10 ∷ []))))))))
    ++ ((51 ∷ (32 ∷ (43 ∷ (32 ∷ (50 ∷ (32 ∷ (50 ∷ (10 ∷ []))))))))
    ++ ((102 ∷ (105 ∷ (114 ∷ (115 ∷ (116 ∷ (32 ∷ (101 ∷ (112 ∷ (105 ∷ (115 ∷ (111 ∷ (100 ∷ (101 ∷ (115 ∷ (32 ∷ (109 ∷ (105 ∷ (120 ∷ (101 ∷ (115 ∷ (10 ∷ [])))))))))))))))))))))
    ++ ((109 ∷ (105 ∷ (115 ∷ (115 ∷ (101 ∷ (100 ∷ (32 ∷ (101 ∷ (112 ∷ (105 ∷ (115 ∷ (111 ∷ (100 ∷ (101 ∷ (32 ∷ (109 ∷ (97 ∷ (115 ∷ (116 ∷ (101 ∷ (114 ∷ (10 ∷ []))))))))))))))))))))))
    ++ ((112 ∷ (97 ∷ (105 ∷ (114 ∷ (115 ∷ (32 ∷ (49 ∷ (49 ∷ (10 ∷ [])))))))))))))))))

pub example : Printed.printed example_job ≡ example_printed
unfolding Places.collect Places.union_over Automaton.nullable Automaton.first Automaton.last Automaton.link Automaton.follows Automaton.labelled Automaton.glushkov Automaton.nexts Automaton.step Automaton.standing_from Automaton.standing Automaton.accepts Exploration.run Exploration.known Exploration.grow Exploration.extend Exploration.row Exploration.sweep Exploration.explore Closure.closure Byte.kind Name.name_bytes Name.is_name Name.same_name Name.find Parser.run Parser.past_run Parser.past_mark Parser.suffixes Parser.named Parser.suffixed Parser.closed Parser.joined Parser.parse Parser.alternatives Limits.balance Limits.nesting Limits.leaves Limits.runs Resolve.numbered Resolve.known Resolve.names_at Check.check_tree Check.check Read.cut_at Read.after Read.fresh Read.given_label Read.given_query Read.given_list Read.early Read.late Read.given Read.ended Read.read_lines Read.read Standings.standings Standings.values Standings.place_from Standings.place_of Standings.move ListImage.onwards ListImage.next_nodes ListImage.reached_nodes ListImage.places_at ListImage.image ListImage.images_from ListImage.image_table States.state_step States.states States.accepting_standings States.state_accepts States.first_accepted Find.row Find.rows Find.flag Find.find_states Find.explore_automata Find.entry_of Find.table_of Find.flags_of Find.merged_found Find.find_automata Find.find NumberLists.tabulate NumberLists.equal FirstBelow.first_below Leader.leader Leaders.leaders Refinement.flag_number Refinement.signature Refinement.round Refinement.rounds Refinement.classes Quotient.quotient Minimized.class_number Minimized.first_member Minimized.merged Minimized.minimized Cover.all_occurrences Cover.width Cover.places Cover.entered Cover.moved_within Cover.moves Cover.passed Cover.finished Cover.ends Cover.settled Cover.cover_start Cover.cover_step Cover.yielding Pairs.same_pair Pairs.pairs Pairs.misses Pairs.first_missed Verdict.verdict verdict_job Decimal.digits Decimal.decimal Lines.in_line Lines.refusal_line Lines.count_line Lines.spelled Lines.named_line Lines.nexts Lines.row Lines.rows Lines.first_line Lines.rewriting_lines Printed.verdict_lines Printed.printed_found Printed.printed_reading Printed.printed_at
example = refl
