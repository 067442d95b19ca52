-- The lent word is written by what is told, at its front.
use Rattle.std.proofs.Common.{◌≡◌, List, ℕ, ◌++◌, drop, length, ap, sym, ◌∙◌, rules}
use Rattle.std.proofs.lemmas.List.{length-take-le}
use Rattle.finding.specs.Outcome.{find_reply, first_told}
use Rattle.server.specs.FindLeftLaws.{word-written, word_same}
use Rattle.server.proofs.find.put_word.Goals as goal

pub copy_from_slice-requires : goal.copy_from_slice-requires
copy_from_slice-requires c =
    let size : length c.letters.result ≡ 256 = search rules in
    length-take-le 256 c.args.word.now c.requires ∙ sym size

pub returns-then-writes_word : goal.returns-then-writes_word
returns-then-writes_word c =
    let told = c.args.told in
    ap (λ (l : List ℕ). l ++ drop 256 c.args.word.now) (c.copy_from_slice.ensures.after ∙ c.letters.ensures)
    ∙ word-written (find_reply told) (first_told told) c.args.word.now c.writes_word.ensures c.if-writes_word.true

pub returns-else-writes_word : goal.returns-else-writes_word
returns-else-writes_word c =
    let told = c.args.told in
    word_same (find_reply told) (first_told told) c.args.word.now c.writes_word.ensures c.if-writes_word.false
