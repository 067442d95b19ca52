-- What the header's functions make of a returned number is what the operation tells, for every text and all numbers and buffers: so the
-- refusal that is read off is 0 exactly where nothing is refused.
use Rattle.std.specs.Prelude.{ℕ, ◌+◌, ◌*◌, ◌≤◌, ◌<◌, Bool, true, false, ◌||◌, List, [], ◌∷◌, ◌≡◌, length, get_or}
use Rattle.std.proofs.Math.Path.{refl}
use native.Mathlib.Omega.{arith}
use Rattle.std.proofs.Math.Dec.{ltb}
use Rattle.theory.specs.Graph.{Table}
use Rattle.syntax.specs.Byte.{Bytes}
use Rattle.syntax.specs.Reply.{Reply}
use Rattle.syntax.specs.declared.refusal.Refusal.TheVariants.{BufferTooShort}
use Rattle.reading.specs.JobText.{job_of}
use Rattle.reading.specs.Read.{Reading, job, refused, read}
use Rattle.reading.specs.Answering.{reply_of}
use Rattle.finding.specs.WordTold.{first_word}
use Rattle.finding.specs.Find.{Found, found, find, refused as unfound}
use Rattle.finding.specs.Outcome.{Leaving, Outcome, told, left, left_by, refused_with}
use Rattle.finding.specs.Named.{table_part, flags_part}
use Rattle.finding.specs.Operation.{leaving, left_by_reading, outcome}
use Rattle.finding.specs.FindSmall.{find-small}
use Rattle.verdict.specs.VerdictOperation as judging
use Rattle.verdict.specs.VerdictSmall.{verdict-small}
use Rattle.answering.specs.LinksOperation.{links_answer}
use Rattle.answering.specs.ListsOperation.{lists_answer}
use Rattle.answering.specs.AnswersSmall.{links-small, lists-small}
use Rattle.keeping.specs.KeepOperation as keeping
use Rattle.keeping.specs.KeepOperationLaws.{keep-small}
use Rattle.server.specs.Packed.{packed, read_number, word_number, find_values, find_number, missed_number, verdict_number, one_number}
use Rattle.server.specs.ReadSmall.{read_small}
use Rattle.server.specs.FindLeftLaws.{word-few}
use Rattle.server.specs.ReplyNumbers.{find-few, verdict-few, links-few, lists-few, keep-few}
use Rattle.server.specs.Decoded.{refusal_of, line_of, labels_of, lists_of, standings_of, states_of, word_of}
use Rattle.server.specs.Decoded.{pairs_of, missed_of, ones_of, kept_of}

-- The refusal and its line.
pub record Decodes (n : ℕ) (r : Reply) : Type 0 where
  pub refusal : refusal_of n ≡ r.number
  pub line : line_of n ≡ r.line

decodes : (r : Reply) (values : ℕ) → r.number ≤ 17 → r.line ≤ 8193 → Decodes (packed r values) r
decodes r values h k = record { refusal = omega arith; line = omega arith }

pub record ReadDecodes (n : ℕ) (r : Reply) : Type 0 where
  pub refused : Decodes n r
  pub labels : labels_of n ≡ get_or r.values 0 0
  pub lists : lists_of n ≡ get_or r.values 1 0

pub read-decodes : (text : Bytes) → ReadDecodes (read_number (reply_of (read text))) (reply_of (read text))
read-decodes text =
    let s = read_small text in
    record {
      refused = decodes (reply_of (read text)) _ s.number s.line;
      labels = omega (arith, s.number, s.line, s.labels, s.lists);
      lists = omega (arith, s.number, s.line, s.labels, s.lists);
    }

pub record FindDecodes (n : ℕ) (o : Outcome) : Type 0 where
  pub refused : Decodes n o.reply
  pub standings : standings_of n ≡ get_or o.reply.values 0 0
  pub states : states_of n ≡ get_or o.reply.values 1 0
  pub word : word_of n ≡ word_number o.first

module _ (text : Bytes) (table flags : List ℕ) where
  -- There is no first word with a refusal, so that its number is 0 then.
  abbrev Worded : Outcome → Type 0
  Worded o =
      find_values o.reply.values o.first
      ≡ get_or o.reply.values 0 0 + 256 * get_or o.reply.values 1 0 + 1048576 * word_number o.first

  finds-word : Worded (outcome text table flags)
  unfolding leaving left_by_reading left_by find first_word
  finds-word = measured (ltb (length table) table_part || ltb (length flags) flags_part)
    where
      by-find : (x : Found) → Worded (told (left_by x table flags))
      by-find (unfound r) = omega arith
      by-find (found R) = refl

      by-reading : (x : Reading) → Worded (told (left_by_reading x table flags))
      by-reading (refused r n) = omega arith
      by-reading (job J) = by-find (find (job_of J))

      measured : (b : Bool) → Worded (told (elim b as (λ b. Leaving) [
        | true ↦ left (refused_with BufferTooShort 0) table flags
        | false ↦ left_by_reading (read text) table flags
      ]))
      measured true = omega arith
      measured false = by-reading (read text)

  pub find-decodes : FindDecodes (find_number (outcome text table flags).reply (outcome text table flags).first) (outcome text table flags)
  find-decodes =
      let s = find-small text table flags in
      let f = find-few (leaving text table flags).answer in
      let w = word-few (outcome text table flags).first s.short in
      record {
        refused = decodes (outcome text table flags).reply _ f s.line;
        standings = omega (arith, f, finds-word, w, s.line, s.standings, s.states);
        states = omega (arith, f, finds-word, w, s.line, s.standings, s.states);
        word = omega (arith, f, finds-word, w, s.line, s.standings, s.states);
      }

pub record VerdictDecodes (n : ℕ) (r : Reply) : Type 0 where
  pub refused : Decodes n r
  pub pairs : pairs_of n ≡ get_or r.values 0 0
  pub missed : missed_of n ≡ missed_number r.values

missed-few : (values : List ℕ) → get_or values 1 0 < 4096 → missed_number values ≤ 4096
missed-few [] h = omega arith
missed-few (pairs ∷ []) h = omega arith
missed-few (pairs ∷ (size ∷ more)) h = omega arith

pub verdict-decodes : (text : Bytes) (allowance : ℕ) (table flags path workspace : List ℕ)
    → VerdictDecodes (verdict_number (judging.outcome text allowance table flags path workspace).reply)
    (judging.outcome text allowance table flags path workspace).reply
verdict-decodes text allowance table flags path workspace =
    let r = (judging.outcome text allowance table flags path workspace).reply in
    let s = verdict-small text allowance table flags path workspace in
    let f = verdict-few text allowance table flags path workspace in
    let m = missed-few r.values s.short in
    record {
      refused = decodes r _ f s.line;
      pairs = omega (arith, f, m, s.line, s.pairs);
      missed = omega (arith, f, m, s.line, s.pairs);
    }

-- Both answers and Keep tell one value.
pub record AnswerDecodes (n : ℕ) (r : Reply) : Type 0 where
  pub refused : Decodes n r
  pub ones : ones_of n ≡ get_or r.values 0 0

pub links-decodes : (text : Bytes) (N c : ℕ) (t : Table) (x : ℕ) (marks workspace : List ℕ)
    → AnswerDecodes (one_number (links_answer text N c t x marks workspace).reply) (links_answer text N c t x marks workspace).reply
links-decodes text N c t x marks workspace =
    let s = links-small text N c t x marks workspace in
    let f = links-few text N c t x marks workspace in
    record { refused = decodes _ _ f s.line; ones = omega (arith, f, s.line) }

pub lists-decodes : (text : Bytes) (N : ℕ) (t : Table) (x : ℕ) (marks workspace : List ℕ)
    → AnswerDecodes (one_number (lists_answer text N t x marks workspace).reply) (lists_answer text N t x marks workspace).reply
lists-decodes text N t x marks workspace =
    let s = lists-small text N t x marks workspace in
    let f = lists-few text N t x marks workspace in
    record { refused = decodes _ _ f s.line; ones = omega (arith, f, s.line) }

pub record KeepDecodes (n : ℕ) (r : Reply) : Type 0 where
  pub refused : Decodes n r
  pub kept : kept_of n ≡ get_or r.values 0 0

pub keep-decodes : (text out : Bytes) → KeepDecodes (one_number (keeping.outcome text out).reply) (keeping.outcome text out).reply
keep-decodes text out =
    let s = keep-small text out in
    let f = keep-few text out in
    record { refused = decodes _ _ f s.line; kept = omega (arith, f, s.line) }
