use Rattle.std.proofs.Common.{ℕ, ◌≡◌, ◌%◌, [], ◌∷◌, sym, ap, ◌∙◌, arith}
use Rattle.output.specs.Decimal.{digit, decimal-last, decimal-more}
use Rattle.output.specs.Writer.{puts_both, puts_same}
use Rattle.output.proofs.writer.Writer.+put_number.Goals as goal
use Rattle.output.proofs.writer.Writer.+put_number.Goals.{then-n-ge10, else-n-ge10}

pub returns : goal.returns
returns t c =
    let n = c.args.n in
    elim c.if-n-ge10.branch [
      | then-n-ge10 w ↦
          puts_same (sym (decimal-more n w.if-n-ge10.true)) (puts_both w.put_number.ensures (rw w.self-is at c.put.ensures))
      | else-n-ge10 w ↦
          let e : n % 10 ≡ n = omega arith in
          puts_same (ap (λ (d : ℕ). digit d ∷ []) e ∙ sym (decimal-last n w.if-n-ge10.false)) (rw w.self-is at c.put.ensures)
    ]
