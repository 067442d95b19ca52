-- What a call of a writer puts, and the laws of it.
use Rattle.std.specs.Prelude.{ℕ, List, [], ◌++◌, ◌≡◌, refl}
use Rattle.std.proofs.Common.{sym, ap, ◌∙◌}
use Rattle.output.specs.declared.writer.Writer.{Writer}
use Rattle.output.specs.Put.{Writing, writing, puts, puts-append}

abbrev pub written : Writer → Writing
written w = writing w.out.now w.at

-- The lent buffer stays the same, and these bytes are put.
pub record Puts (old : Writer) (bytes : List ℕ) (new : Writer) : Type 0 where
  pub same_reference : new.out.ghost_name ≡ old.out.ghost_name
  pub puts : written new ≡ puts (written old) bytes

pub puts_nothing : (w : Writer) → Puts w [] w
unfolding puts
puts_nothing w = record { same_reference = refl; puts = refl }

-- One part, and then another.
pub puts_both : {u v w : Writer} {a b : List ℕ} → Puts u a v → Puts v b w → Puts u (a ++ b) w
puts_both {u} {v} {w} {a} {b} p q =
    record {
      same_reference = q.same_reference ∙ p.same_reference;
      puts = q.puts ∙ ap (λ (x : Writing). puts x b) p.puts ∙ sym (puts-append (written u) a b);
    }

pub puts_same : {u v : Writer} {a b : List ℕ} → a ≡ b → Puts u a v → Puts u b v
puts_same {u} {v} e p = record { same_reference = p.same_reference; puts = p.puts ∙ ap (puts (written u)) e }

-- What stands in a buffer in which a writer started at the front.
pub puts_started : {u v : Writer} {out bytes : List ℕ} → written u ≡ writing out 0 → Puts u bytes v → written v ≡ puts (writing out 0) bytes
puts_started {bytes = bytes} e p = p.puts ∙ ap (λ (x : Writing). puts x bytes) e
