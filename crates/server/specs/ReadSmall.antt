-- What Read tells is small.
use Rattle.std.specs.Prelude.{suc, ◌≤◌, ◌≡◌, refl, get_or}
use Rattle.std.proofs.Common.{arith}
use Rattle.syntax.specs.Byte.{Bytes}
use Rattle.syntax.specs.NumberLaws.{number-few}
use Rattle.syntax.specs.Reply.{Reply}
use Rattle.reading.specs.Text.{most_text, most_labels, most_lists}
use Rattle.reading.specs.Read.{Reading, job, refused, read}
use Rattle.reading.specs.ReadFacts.{read-facts}
use Rattle.reading.specs.ReadLaws.{read-line}
use Rattle.reading.specs.Answering.{reply_of}

pub record Small (r : Reply) : Type 0 where
  pub number : r.number ≤ 17
  pub line : r.line ≤ suc most_text
  pub labels : get_or r.values 0 0 ≤ most_labels
  pub lists : get_or r.values 1 0 ≤ most_lists

pub read_small : (text : Bytes) → Small (reply_of (read text))
read_small text = by (read text) refl
  where
    by : (x : Reading) → read text ≡ x → Small (reply_of x)
    by (job J) e =
        let facts = read-facts text e in
        record { number = omega arith; line = omega arith; labels = facts.few-labels; lists = facts.few-lists }
    by (refused r n) e =
        record { number = number-few r; line = read-line text r n e; labels = omega arith; lists = omega arith }
