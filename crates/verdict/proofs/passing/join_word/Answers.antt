-- The one word that is written gains the places of the other.
use mathlib.Core.Path.{◌∙◌}
use Rattle.std.specs.Prelude.{get_or}
use borrow.Author.Tests.{eqb-true, not-false}
use lib.Seq.{get_or-set_same, get_or-set_other}
use Rattle.theory.specs.Places.{union}
use Rattle.verdict.proofs.passing.join_word.Goals as goal

pub returns : goal.returns
returns c =
    let s = c in
    let l = s.args.passes.now in
    let all = union (get_or l s.args.x 0) (get_or l s.args.y 0) in
    record {
      joined = get_or-set_same l s.args.x all 0 s.requires.0;
      others = λ i d. get_or-set_other l s.args.x i all 0 d;
      unchanged = λ e. get_or-set_same l s.args.x all 0 s.requires.0 ∙ eqb-true all (get_or l s.args.x 0) (not-false _ e);
    }
