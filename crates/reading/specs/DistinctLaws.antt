-- Tables of distinct names: a fresh name may be added at the end, and in a table with distinct names an entry is not among those before it.
use Rattle.std.specs.Prelude.{ℕ, ◌<◌, List, [], ◌∷◌, ◌++◌, ◌≡◌, length, get_or}
use Rattle.std.proofs.Common.{sym, ◌∙◌, arith, length-append}
use Rattle.std.proofs.Math.Decide.{dec_lt}
use Rattle.std.proofs.Math.ListN.{get_or-append}
use Rattle.std.proofs.Math.Seq.{get_or-append_seam}
use Rattle.syntax.specs.Byte.{Bytes}
use Rattle.syntax.specs.Name.{SameName}
use Rattle.syntax.specs.Check.{Distinct}

pub distinct_nil : Distinct []
distinct_nil i j h k same = absurd (omega arith)

-- Where an entry of the longer table is.
data Entry (names : List Bytes) (n : Bytes) (i : ℕ) : Type 0 where
  before : i < length names → get_or (names ++ (n ∷ [])) i [] ≡ get_or names i [] → Entry names n i
  last : i ≡ length names → get_or (names ++ (n ∷ [])) i [] ≡ n → Entry names n i

entry : (names : List Bytes) (n : Bytes) (i : ℕ) → i < length (names ++ (n ∷ [])) → Entry names n i
entry names n i l = go (dec_lt i (length names))
  where
    go : Dec (i < length names) → Entry names n i
    go (yes h) = before h (get_or-append names (n ∷ []) [] i h)
    go (no h) =
        let e : i ≡ length names = omega (arith, simp length-append at l) in
        last e (rw e (get_or-append_seam names n [] []))

pub distinct_more : (names : List Bytes) (n : Bytes) → Distinct names → ((i : ℕ) → i < length names → ¬ SameName (get_or names i []) n)
    → Distinct (names ++ (n ∷ []))
distinct_more names n d f i j l m same = go (entry names n i l) (entry names n j m)
  where
    go : Entry names n i → Entry names n j → i ≡ j
    go (before h e) (before k g) = d i j h k (sym e ∙ same ∙ g)
    go (before h e) (last k g) = absurd (f i h (sym e ∙ same ∙ g))
    go (last h e) (before k g) = absurd (f j k (sym g ∙ sym same ∙ e))
    go (last h e) (last k g) = h ∙ sym k

pub distinct-before : (names : List Bytes) (n : Bytes) (others : List Bytes) → Distinct (names ++ (n ∷ others)) → (i : ℕ)
    → i < length names → ¬ SameName (get_or names i []) n
distinct-before names n others d i l same =
    let h = length-append names (n ∷ others) in
    let e = d i (length names) (omega arith) (omega arith)
    (get_or-append names (n ∷ others) [] i l ∙ same ∙ sym (get_or-append_seam names n others [])) in
    omega arith
