-- What Read answers, and what it tells thereby (document 01, "Read"): the numbers of labels and lists, or the refusal with its line.
use Rattle.std.specs.Prelude.{ℕ, List, [], ◌∷◌, ◌≡◌, refl, length}
use Rattle.std.specs.declared.result.Result.{Result}
use Rattle.std.specs.declared.result.Result.TheVariants.{Ok, Err}
use Rattle.syntax.specs.declared.refusal.Refusal.{Refusal}
use Rattle.syntax.specs.Reply.{Reply, given, refusing}
use Rattle.reading.specs.declared.answer.Job.{Job}
use Rattle.reading.specs.declared.answer.Refused.{Refused}
use Rattle.reading.specs.Read.{Reading, job, refused}

abbrev pub counts : ℕ → ℕ → Job
counts labels lists = record { labels = labels; lists = lists }

abbrev pub refused_at : Refusal → ℕ → Refused
refused_at r n = record { refusal = r; line = n }

-- A refusal that is not met in reading the text.
abbrev pub unlined : Refusal → Refused
unlined r = refused_at r 0

-- The reply that an operation's answer is, where its values are those.
abbrev pub reply : {A : Type 0} → (A → List ℕ) → Result A Refused → Reply
reply values (Ok a) = given (values a)
reply values (Err e) = refusing e.refusal e.line

-- The same of an answer of one value.
abbrev pub value_reply : Result ℕ Refused → Reply
value_reply = reply (λ n. n ∷ [])

abbrev pub answer_of : Reading → Result Job Refused
answer_of (job J) = Ok (counts (length J.labels) (length J.list_names))
answer_of (refused r n) = Err (refused_at r n)

-- The reply that an answer of Read is.
abbrev pub read_reply : Result Job Refused → Reply
read_reply = reply (λ j. j.labels ∷ (j.lists ∷ []))

-- The reply to a text, by what reading it gives.
abbrev pub reply_of : Reading → Reply
reply_of (job J) = given (length J.labels ∷ (length J.list_names ∷ []))
reply_of (refused r n) = refusing r n

pub reply-answered : (z : Reading) → read_reply (answer_of z) ≡ reply_of z
reply-answered (job J) = refl
reply-answered (refused r n) = refl
