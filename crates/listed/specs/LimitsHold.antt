-- Document 01's other cases at the limits of standings, of states and of occurrences hold of the definitions: computed by the prover from
-- the texts' bytes. The two at the limit of cover places take too many steps to compute; the program `cases` runs them.
use Rattle.std.specs.Prelude.{List, [], ◌∷◌, ◌≡◌, refl}
use Rattle.theory.specs.Places
use Rattle.theory.specs.Automaton
use Rattle.theory.specs.Exploration
use Rattle.theory.specs.Closure
use Rattle.syntax.specs.declared.refusal.Refusal.TheVariants.{TooManyOccurrences}
use Rattle.syntax.specs.Byte
use Rattle.syntax.specs.Name
use Rattle.syntax.specs.Parser
use Rattle.syntax.specs.Limits
use Rattle.syntax.specs.Resolve
use Rattle.syntax.specs.Check
use Rattle.reading.specs.Read
use Rattle.finding.specs.Standings
use Rattle.finding.specs.ListImage
use Rattle.finding.specs.States
use Rattle.finding.specs.Find
use Rattle.verdict.specs.VerdictJob.{verdict_job}
use Rattle.listed.specs.Cases.{standings, states, standings-within, states-within, refused, Case}
use Rattle.listed.specs.CasesHold.{CasesHold}
use Rattle.listed.specs.Texts

-- So many a's in sequence; `(a|b)*.a` followed by so many `.(a|b)`; so many a's with the lists `a` and `a?`.
abbrev pub limits : List Case
limits =
    (record { text = Texts.sequence_text 62; claims = standings 64 ∷ [] })
    ∷ ((record { text = Texts.sequence_text 63; claims = standings-within 128 65 ∷ (refused 4096 9 ∷ []) })
    ∷ ((record { text = Texts.followed_text 4; claims = standings 33 ∷ [] })
    ∷ ((record { text = Texts.followed_text 5; claims = standings-within 128 65 ∷ (refused 4096 9 ∷ []) })
    ∷ ((record { text = Texts.optional_text 20; claims = states 253 ∷ [] })
    ∷ ((record { text = Texts.optional_text 21; claims = states-within 512 276 ∷ (refused 4096 10 ∷ []) })
    ∷ [])))))

pub limits-hold : CasesHold limits
unfolding Places.collect Places.union_over Automaton.nullable Automaton.first Automaton.last Automaton.link Automaton.follows Automaton.labelled Automaton.glushkov Automaton.nexts Automaton.step Automaton.accepts Exploration.known Exploration.grow Exploration.extend Exploration.row Exploration.sweep Exploration.explore Closure.closure Byte.kind Name.name_bytes Name.is_name Name.same_name Name.find Parser.run Parser.past_run Parser.past_mark Parser.suffixes Parser.named Parser.suffixed Parser.closed Parser.joined Parser.parse Parser.alternatives Limits.balance Limits.nesting Limits.leaves Limits.runs Resolve.numbered Resolve.known Resolve.names_at Check.check_tree Check.check Read.cut_at Read.after Read.fresh Read.given_label Read.given_query Read.given_list Read.early Read.late Read.given Read.ended Read.read_lines Read.read Standings.standings Standings.values Standings.place_from Standings.place_of Standings.move ListImage.onwards ListImage.next_nodes ListImage.reached_nodes ListImage.places_at ListImage.image ListImage.images_from ListImage.image_table States.state_step States.states Find.find_states Find.explore_automata Find.merged_found Find.unmerged Find.find_automata Find.find verdict_job Texts.repeated Texts.sequence_of Texts.sequence_text Texts.followed_text Texts.optional_text
limits-hold = ((refl, tt), ((refl, (refl, tt)), ((refl, tt), ((refl, (refl, tt)), ((refl, tt), ((refl, (refl, tt)), tt))))))

-- 64 a's are refusal 7, in line 2.
pub sequence-refused : Read.read (Texts.sequence_text 64) ≡ Read.refused TooManyOccurrences 2
unfolding Byte.kind Name.name_bytes Name.is_name Name.same_name Name.find Parser.run Parser.past_run Parser.past_mark Parser.suffixes Parser.named Parser.suffixed Parser.closed Parser.joined Parser.parse Parser.alternatives Limits.balance Limits.nesting Limits.leaves Limits.runs Resolve.numbered Resolve.known Resolve.names_at Check.check_tree Check.check Read.cut_at Read.after Read.fresh Read.given_label Read.given_query Read.given_list Read.early Read.late Read.given Read.ended Read.read_lines Read.read Texts.repeated Texts.sequence_of Texts.sequence_text
sequence-refused = refl
