-- An answer whose case is known is the reply that is told.
use Rattle.std.specs.Prelude.{◌≡◌}
use Rattle.std.proofs.Common.{sym, ap, ◌∙◌}
use Rattle.syntax.specs.Reply.{Reply}

pub same-reply : {A : Type 0} (reply : A → Reply) {a b : A} {o : Reply} → reply a ≡ o → a ≡ b → reply b ≡ o
same-reply reply told e = ap reply (sym e) ∙ told
