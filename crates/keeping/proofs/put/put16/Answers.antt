-- `put16` meets its contract: the high byte is put, and then the low one.
use Rattle.std.proofs.Common.{ℕ, ◌≡◌, ◌/◌, ◌%◌, [], ◌∷◌, ap, ◌∙◌, arith}
use Rattle.output.specs.Writer.{puts_same}
use Rattle.keeping.proofs.put.put16.Goals as goal

pub returns : goal.returns
returns c =
    let n = c.args.n in
    let e : n / 256 % 256 ≡ n / 256 = omega arith in
    puts_same (c.to_be_bytes.ensures ∙ ap (λ (k : ℕ). k ∷ (n % 256) ∷ []) e) c.put_part.ensures
