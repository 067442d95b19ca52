-- `put_first` meets its contract: a word is put by its names, and `empty` where there is none.
use Rattle.std.proofs.Common.{List, Option, sym, ap, ◌∙◌}
use Rattle.syntax.specs.Byte.{Bytes}
use Rattle.syntax.specs.Resolve.{names_at}
use Rattle.finding.specs.declared.first.FirstWord.{FirstWord}
use Rattle.finding.specs.WordTold.{word_of}
use Rattle.output.specs.Writer.{puts_same}
use Rattle.printing.specs.Lines.{first_word, named_line, first_line}
use Rattle.printing.proofs.found.put_first.Goals as goal

pub returns-in-Some : goal.returns-in-Some
unfolding first_line
returns-in-Some c =
    let N : List Bytes = names_at c.args.names.text.now c.args.names.spans.now in
    puts_same (ap (named_line first_word N) c.of.ensures ∙ ap (λ (o : Option FirstWord). first_line N (word_of o)) (sym c.in-Some.is))
    c.put_named_line.ensures

pub returns-in-None : goal.returns-in-None
unfolding first_line
returns-in-None c =
    let N : List Bytes = names_at c.args.names.text.now c.args.names.spans.now in
    puts_same (ap (λ (o : Option FirstWord). first_line N (word_of o)) (sym c.in-None.is)) c.put_part.ensures
