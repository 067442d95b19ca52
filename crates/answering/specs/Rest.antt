-- The rest of a list, from a place on, is lent and comes back.
use Rattle.std.specs.Prelude.{◌≡◌, ℕ, ◌-◌, ◌≤◌, List, [], ◌++◌, length, take, drop}
use Rattle.std.proofs.Common.{append-nil, ap, ◌∙◌, arith, length-append, length-drop, drop_of_length-le, take_all, drop_at, length-take-le}

-- The part that is lent: so many numbers as there are from the place on ..
abbrev pub rest_of : ℕ → List ℕ → List ℕ
rest_of a S = take (length S - a) (drop a S)

-- .. and the whole when the part, now Y, is back.
abbrev pub rest_back : ℕ → List ℕ → List ℕ → List ℕ
rest_back a S Y = take a S ++ (Y ++ drop (length S - a) (drop a S))

pub rest_all : (a : ℕ) (S : List ℕ) → rest_of a S ≡ drop a S
rest_all a S = take_all (length S - a) (drop a S) (omega (arith, length-drop a S))

-- Nothing stands behind it.
pub rest_back_lem : (a : ℕ) (S Y : List ℕ) → rest_back a S Y ≡ take a S ++ Y
rest_back_lem a S Y = ap (λ Z. take a S ++ Z) (ap (λ Z. Y ++ Z) none ∙ append-nil Y)
  where
    none : drop (length S - a) (drop a S) ≡ []
    none = drop_of_length-le (drop a S) {i = length S - a} (omega (arith, length-drop a S))

pub back-length : (a : ℕ) (S Y : List ℕ) → a ≤ length S → length Y ≡ length (rest_of a S) → length (rest_back a S Y) ≡ length S
back-length a S Y h e =
    ap length (rest_back_lem a S Y) ∙ length-append (take a S) Y
    ∙ omega (arith, length-take-le a S h, e, ap length (rest_all a S), length-drop a S)

pub back-drop : (a : ℕ) (S Y : List ℕ) → a ≤ length S → drop a (rest_back a S Y) ≡ Y
back-drop a S Y h = ap (drop a) (rest_back_lem a S Y) ∙ drop_at (take a S) Y a (length-take-le a S h)
