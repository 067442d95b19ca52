-- `Span::of` meets its contract: a place beyond the text's end is its end.
use Rattle.std.proofs.Common.{refl, ◌≡◌, ◌-◌, min, ℕ, List, length, drop, take, ap, ◌∙◌, arith, length-drop}
use Rattle.std.proofs.Math.Seq.{take_all}
use Rattle.std.proofs.lemmas.List.{take_min, drop_min}
use Rattle.syntax.proofs.table.Span.of.Goals as goal

of : (t rest : List ℕ) (start size m n : ℕ) → m ≡ min start (length t) → rest ≡ take (length t - m) (drop m t) → n ≡ min size (length rest)
    → take n rest ≡ take size (drop start t)
of t rest start size m n first left second =
    let all : rest ≡ drop start t = left ∙ take_all (length t - m) (drop m t) (omega (arith, length-drop m t)) ∙ ap (λ k. drop k t) first ∙ drop_min start t in
    ap (λ k. take k rest) second ∙ take_min size rest ∙ ap (take size) all

pub returns : goal.returns
returns c = of c.args.text.now _ c.args.self.start c.args.self.size _ _ c.min.ensures refl c.min-2.ensures
