-- The greatest rewriting (document 001, section 2): a list word is accepted exactly when it is sound, so the accepted words are a
-- rewriting and hold every other. What any set of sound words spells is yielded (demand 3, first part).
use Rattle.std.specs.Prelude.{◌↔◌}
use Rattle.std.proofs.Math.Logic.Iff
use Rattle.theory.specs.Path.{Path, nothing, next}
use Rattle.theory.specs.Word as W
use Rattle.theory.specs.Word.{Word}
use Rattle.theory.specs.Job.{Job, QueryPath, IsWord, SpelledBy}
use Rattle.theory.proofs.GlushkovRelations.{accepts-exactly-path}
use Rattle.theory.specs.Rewriting.{Sound, SameState, Accepted, IsRewriting, AcceptedWord, Yielded, Complete, Exact}

-- A word that spells a path is a word of the job's lists.
pub spells-word : (J : Job) {w : Word} {p : Path} → SpelledBy J w p → IsWord J w
spells-word J W.nothing = nothing
spells-word J (W.name u r e (v, l) s) = next v (spells-word J s)

pub accepted-sound : (J : Job) (w : Word) → Accepted J w → Sound J w
accepted-sound J w a p s = a p s p (λ x. Iff.rfl)

pub sound-accepted : (J : Job) (w : Word) → Sound J w → Accepted J w
sound-accepted J w sound p s = (accepts-exactly-path J.query p).1 (sound p s)

-- Demand 2, for every job: a word is accepted exactly when it is sound.
pub accepted-exactly-sound : (J : Job) (w : Word) → Accepted J w ↔ Sound J w
accepted-exactly-sound J w = (accepted-sound J w, sound-accepted J w)

-- Words with one state are accepted together.
pub state-accepted : (J : Job) (v w : Word) → SameState J v w → Accepted J v → Accepted J w
state-accepted J v w same a p s q h =
    let (r, t, k) = same.1 p s in
    a r t q (λ x. Iff.trans (Iff.symm (k x)) (h x))

-- The accepted words are a rewriting (Definition 1), and every rewriting is within them: they are the greatest.
pub accepted-rewriting : (J : Job) → IsRewriting J (AcceptedWord J)
accepted-rewriting J w (k, a) = (k, accepted-sound J w a)

pub accepted-greatest : (J : Job) (R : Word → Type 0) → IsRewriting J R → (w : Word) → R w → AcceptedWord J w
accepted-greatest J R rewriting w r = let (k, s) = rewriting w r in (k, sound-accepted J w s)

-- Demand 3, first part: every path that any set of sound words spells is yielded. Nothing is asked of the job.
pub sound-yielded : (J : Job) (R : Word → Type 0) → ((w : Word) → R w → Sound J w) → (w : Word) (p : Path) → R w → SpelledBy J w p → Yielded J p
sound-yielded J R sound w p r s = (w, (spells-word J s, sound-accepted J w (sound w r)), s)

-- A yielded path is a query path, so a complete verdict says that the greatest rewriting is exact (Definition 3).
pub yielded-query : (J : Job) (p : Path) → Yielded J p → QueryPath J p
yielded-query J p (w, (k, a), s) = accepted-sound J w a p s

pub complete-exact : (J : Job) → Complete J ↔ Exact J (AcceptedWord J)
complete-exact J = (λ c p. (yielded-query J p, c p), λ e p. (e p).1)
