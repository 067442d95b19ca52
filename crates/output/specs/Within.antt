-- A writer's place lies within its buffer, whose length no call changes.
use Rattle.std.specs.Prelude.{ℕ, ◌≤◌, List, ◌≡◌, length}
use Rattle.std.proofs.Common.{ap, ◌∙◌, arith}
use Rattle.output.specs.declared.writer.Writer.{Writer}
use Rattle.output.specs.Put.{Writing, writing, puts-within, length-puts}
use Rattle.output.specs.Writer.{written, Puts, puts_started}

pub stays_within : {u v : Writer} {bytes : List ℕ} → Puts u bytes v → u.at ≤ length u.out.now → v.at ≤ length v.out.now
stays_within {u} {bytes = bytes} p h =
    omega (arith, puts-within (written u) bytes h, ap (λ (x : Writing). x.at) p.puts, ap (λ (x : Writing). length x.out) p.puts)

pub same_length : {u v : Writer} {bytes : List ℕ} → Puts u bytes v → length v.out.now ≡ length u.out.now
same_length {u} {bytes = bytes} p = ap (λ (x : Writing). length x.out) p.puts ∙ length-puts (written u) bytes

-- A writer that started at the front.
pub started_within : {u v : Writer} {out bytes : List ℕ} → written u ≡ writing out 0 → Puts u bytes v → v.at ≤ length out
started_within {out = out} {bytes = bytes} e p =
    let w = puts_started e p in
    omega (arith, puts-within (writing out 0) bytes (omega arith), length-puts (writing out 0) bytes, ap (λ (x : Writing). x.at) w)
