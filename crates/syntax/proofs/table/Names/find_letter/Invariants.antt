-- `Names::find_letter` meets its contract. The loop's invariant: what has been found is what a search over the names looked at gives.
use Rattle.std.specs.Prelude.{◌≡◌, [], ◌∷◌}
use Rattle.syntax.specs.TableLaws.{find_from}
use Rattle.syntax.proofs.table.Names.find_letter.Given as goal

abbrev pub invariant-loop-i : goal.invariant-loop-i
invariant-loop-i l = l.found ≡ find_from l.self.text.now l.self.spans.now (l.letter ∷ []) l.i
