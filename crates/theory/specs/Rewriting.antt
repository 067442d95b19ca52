-- Rewritings of a job's query in terms of its lists (document 001, Definitions 1 to 3; document 01, "State" and "Yielded"). A set of list
-- words is a predicate on words.
use Rattle.std.specs.Prelude.{◌++◌, ◌↔◌, ◌⊎◌, ◌≡◌}
use Rattle.theory.specs.Path.{Path, Language, Before}
use Rattle.theory.specs.Standing.{SameStanding, Accepts}
use Rattle.theory.specs.Word.{Word}
use Rattle.theory.specs.Job.{Job, QueryPath, IsWord, SpelledBy}

-- A sound word: every path that it spells is a query path.
abbrev pub Sound : Job → Word → Type 0
Sound J w = (p : Path) → SpelledBy J w p → QueryPath J p

-- The state of the word v holds that of the word w: each query standing after a path that w spells is one after a path that v spells.
abbrev pub StateWithin : Job → Word → Word → Type 0
StateWithin J w v = (p : Path) → SpelledBy J w p → (q : Path) × SpelledBy J v q × SameStanding J.query p q

-- Two words have one state: the same set of query standings.
abbrev pub SameState : Job → Word → Word → Type 0
SameState J v w = StateWithin J v w × StateWithin J w v

-- An accepted word: all query standings after the paths that it spells accept.
abbrev pub Accepted : Job → Word → Type 0
Accepted J w = (p : Path) → SpelledBy J w p → Accepts J.query p

-- Two words have the same continuations: behind both the same words are accepted.
abbrev pub SameContinuations : Job → Word → Word → Type 0
SameContinuations J v w = (u : Word) → IsWord J u → Accepted J (v ++ u) ↔ Accepted J (w ++ u)

-- Definition 1: a set of list words is a rewriting if all its words are sound.
abbrev pub IsRewriting : Job → (Word → Type 0) → Type 0
IsRewriting J R = (w : Word) → R w → IsWord J w × Sound J w

-- The expansion of a set of list words: the paths that its words spell.
abbrev pub Expansion : Job → (Word → Type 0) → Language
Expansion J R p = (w : Word) × R w × SpelledBy J w p

-- The accepted list words of a job. They are its greatest rewriting (GreatestRewriting).
abbrev pub AcceptedWord : Job → Word → Type 0
AcceptedWord J w = IsWord J w × Accepted J w

-- A yielded path: an accepted list word spells it.
abbrev pub Yielded : Job → Language
Yielded J = Expansion J (AcceptedWord J)

-- A missed path: a query path that is not yielded.
abbrev pub Missed : Job → Language
Missed J p = QueryPath J p × (¬ Yielded J p)

-- The first missed path: every other one comes after it.
abbrev pub FirstMissed : Job → Path → Type 0
FirstMissed J p = Missed J p × ((q : Path) → Missed J q → (p ≡ q) ⊎ Before p q)

-- A complete verdict: every query path is yielded. With what holds of every job, that the yielded paths are query paths, it says that
-- the greatest rewriting is exact (Definition 3).
abbrev pub Complete : Job → Type 0
Complete J = (p : Path) → QueryPath J p → Yielded J p

-- Definition 3: a rewriting is exact if its expansion is the query.
abbrev pub Exact : Job → (Word → Type 0) → Type 0
Exact J R = (p : Path) → Expansion J R p ↔ QueryPath J p
