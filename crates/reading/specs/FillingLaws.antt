-- An automaton built in a row stands there, and leaves the other rows as they are.
use Prim.Native.Nat.{ℕ, zero, suc, ◌+◌, ◌*◌, ◌≤◌, ◌<◌}
use Rattle.std.specs.Prelude.{◌⊎◌, ◌≢◌, ◌≡◌, Option, Some, None, Result, Ok, drop, set}
use Rattle.std.specs.Option.{is_some}
use Rattle.std.proofs.lemmas.Bool.{false≢true}
use mathlib.Core.List.{List, [], ◌∷◌, ◌++◌}
use Rattle.std.proofs.Common.{inl, inr, sym, ◌∙◌, zero-add, add-zero, arith, length-append, length-take, length-drop, take-take, get_or-take, get_or-drop, get_or-set_same, get_or-set_other}
use Rattle.std.proofs.Math.Path.{refl, ap}
use Rattle.std.proofs.Math.Decide.{dec_lt}
use Rattle.std.proofs.Math.ListN.{length, get_or, take, replicate, length-replicate}
use Rattle.std.proofs.lemmas.List.{get_or-replicate}
use Rattle.std.proofs.Math.Seq.{take_at}
use Rattle.theory.specs.Expression.{Expression}
use Rattle.theory.specs.Standing.{size}
use Rattle.theory.specs.Places.{union}
use Rattle.theory.specs.Automaton.{glushkov, labelled}
use Rattle.theory.proofs.AutomatonLaws.{length-follows}
use Rattle.syntax.specs.declared.build.Automaton.{Automaton}
use Rattle.syntax.specs.declared.refusal.Refusal.{Refusal}
use Rattle.syntax.specs.declared.table.Span.{Span}
use Rattle.syntax.specs.Byte.{Bytes}
use Rattle.syntax.specs.Limits.{most_occurrences}
use Rattle.syntax.specs.Check.{Checked, fine, faulty, check}
use Rattle.syntax.specs.FineLaws.{fine-cases}
use Rattle.syntax.specs.Verdict.{verdict, is_fine}
use Rattle.syntax.specs.VerdictLaws.{fine-verdict}
use Rattle.syntax.specs.Entered.{entered, length-entered}
use Rattle.syntax.specs.Build.{outcome, automaton, building}
use Rattle.reading.specs.Tables.{Row, follow_width, enter_width}
use Rattle.reading.specs.Loading.{tables}
use Rattle.reading.specs.Filling.{InRow, FillsRow, Fills, Reads}
use Rattle.reading.specs.RowLaws.{put, length-put, row_put, other-put, put_back, take-agree}

-- The entries of a table with the places of an expression added.
get_or-entered : (k : ℕ) (e : Expression) (b : ℕ) (t : List ℕ) (a : ℕ) → a < length t
    → get_or (entered k e b t) a 0 ≡ union (get_or t a 0) (labelled k e (b + a))
unfolding entered
get_or-entered k e b [] a h = absurd (omega arith)
get_or-entered k e b (s ∷ t) zero h = ap (λ n. union s (labelled k e n)) (sym (add-zero b))
get_or-entered k e b (s ∷ t) (suc a) h =
    get_or-entered k e (suc b) t a (omega arith) ∙ ap (λ n. union (get_or t a 0) (labelled k e n)) (omega arith)

get_or-cleared : (e : Expression) (n a : ℕ) → a < n → get_or (entered 1 e 0 (replicate n 0)) a 0 ≡ labelled 1 e a
get_or-cleared e n a h =
    get_or-entered 1 e 0 (replicate n 0) a (rw (length-replicate {A = ℕ} n 0) h)
    ∙ ap (λ x. union x (labelled 1 e (0 + a))) (get_or-replicate n a 0 0 h) ∙ ap (labelled 1 e) (zero-add a)

length-follow : (e : Expression) → length (glushkov e).follow ≡ suc (size e)
unfolding glushkov
length-follow e = ap suc (length-follows 1 e)

row-there : (a w : ℕ) (r t : List ℕ) → length r ≡ w → a + length r ≤ length t → take w (drop a (put a r t)) ≡ r
row-there a w r t e room = ap (λ n. take n (drop a (put a r t))) (sym e) ∙ row_put a r t room

-- Building leaves both tables as long as they are, and tells whether the text is fine.
same-follow : (labels : List Bytes) (s : Bytes) (c : Checked) (follow enter : List ℕ) → check labels s ≡ c → 64 ≤ length follow
    → length (building c follow enter).follow ≡ length follow
same-follow labels s (fine e) follow enter h room =
    omega (
      arith,
      length-append (glushkov e).follow (drop (suc (size e)) follow),
      length-follow e,
      length-drop (suc (size e)) follow,
      (fine-cases labels s e h).few,
    )
same-follow labels s (faulty r) follow enter h room = length-replicate {A = ℕ} (length follow) 0

same-enter : (c : Checked) (follow enter : List ℕ) → length (building c follow enter).enter ≡ length enter
same-enter (fine e) follow enter = length-entered 1 e 0 enter
same-enter (faulty r) follow enter = length-replicate {A = ℕ} (length enter) 0

told : (c : Checked) (follow enter : List ℕ) → (building c follow enter).fine ≡ is_fine c
told (fine e) follow enter = refl
told (faulty r) follow enter = refl

fine-built : (r : Option Automaton) (follow enter : List ℕ) → (outcome r follow enter).fine ≡ is_some r
fine-built (Some a) follow enter = refl
fine-built None follow enter = refl

same-tables : (r : Option Automaton) (follow enter : List ℕ)
    → ((outcome r follow enter).follow ≡ follow) × ((outcome r follow enter).enter ≡ enter)
same-tables (Some a) follow enter = (refl, refl)
same-tables None follow enter = (refl, refl)

module _ (labels : List Bytes) (s : Bytes) where
  -- What is built in a row, its enter sets cleared before.
  pub row-built : (follow enter : List ℕ) (r : Option Automaton) (follow' enter' : List ℕ) → 64 ≤ length follow
      → outcome r follow' enter' ≡ building (check labels s) follow (replicate (length enter) 0)
      → FillsRow labels s follow enter r follow' enter'
  unfolding glushkov
  row-built follow enter r follow' enter' room m =
      let none : List ℕ = replicate (length enter) 0 in
      let long : length enter' ≡ length enter =
      ap length (sym (same-tables r follow' enter').1) ∙ ap (λ o. length o.enter) m ∙ same-enter (check labels s) follow none
      ∙ length-replicate {A = ℕ} (length enter) 0 in
      record {
        same-follow =
            ap length (sym (same-tables r follow' enter').0) ∙ ap (λ o. length o.follow) m
            ∙ same-follow labels s (check labels s) follow none refl room;
        same-enter = long;
        fills = λ e a c d.
            let b : outcome (Some a) follow' enter' ≡ automaton e follow none =
            ap (λ x. outcome x follow' enter') (sym d) ∙ m ∙ ap (λ x. building x follow none) c in
            record {
              places = ap (λ o. o.size) b;
              accepts = ap (λ o. o.accepting) b;
              follows =
                  ap (λ o. take (suc (size e)) o.follow) b
                  ∙ take_at (glushkov e).follow (drop (suc (size e)) follow) (suc (size e)) (length-follow e);
              enters = λ a l. ap (λ o. get_or o.enter a 0) b ∙ get_or-cleared e (length enter) a (rw long at l);
            };
        told = sym (fine-built r follow' enter') ∙ ap (λ o. o.fine) m ∙ told (check labels s) follow none;
      }

  -- What is built in the rows x.
  pub rows-built : (x : ℕ) (follow enter : List ℕ) (r : Option Automaton) (row row' : List ℕ)
      → follow_width * x + follow_width ≤ length follow → enter_width * x + enter_width ≤ length enter
      → FillsRow labels s (take follow_width (drop (follow_width * x) follow)) (take enter_width (drop (enter_width * x) enter)) r row row'
      → Fills labels s x follow enter r (put (follow_width * x) row follow) (put (enter_width * x) row' enter)
  rows-built x follow enter r row row' room room' m =
      let n : length (take follow_width (drop (follow_width * x) follow)) ≡ 64 = simp (length-take, length-drop) (omega arith) in
      let n' : length (take enter_width (drop (enter_width * x) enter)) ≡ 32 = simp (length-take, length-drop) (omega arith) in
      let l : length row ≡ 64 = m.same-follow ∙ n in
      let l' : length row' ≡ 32 = m.same-enter ∙ n' in
      let f : follow_width * x + length row ≤ length follow = omega arith in
      let f' : enter_width * x + length row' ≤ length enter = omega arith in
      record {
        same-follow = length-put (follow_width * x) row follow f;
        same-enter = length-put (enter_width * x) row' enter f';
        other-follow = λ i h. other-put (follow_width * x) row follow f i (rw l h);
        other-enter = λ i h. other-put (enter_width * x) row' enter f' i (rw l' h);
        fills = λ e a c d.
            rw (row-there (follow_width * x) follow_width row follow l f, row-there (enter_width * x) enter_width row' enter l' f')
            (m.fills e a c d);
        told = m.told;
      }

  -- The same with the rows as they come back from being lent.
  pub rows-lent : (x : ℕ) (follow enter : List ℕ) (r : Option Automaton) (row row' : List ℕ) (k k' : ℕ) → k ≡ follow_width → k' ≡ enter_width
      → follow_width * x + follow_width ≤ length follow → enter_width * x + enter_width ≤ length enter
      → FillsRow labels s (take k (drop (follow_width * x) follow)) (take k' (drop (enter_width * x) enter)) r row row'
      → Fills labels s x follow enter r (take (follow_width * x) follow ++ (row ++ drop k (drop (follow_width * x) follow)))
      (take (enter_width * x) enter ++ (row' ++ drop k' (drop (enter_width * x) enter)))
  rows-lent x follow enter r row row' k k' e e' room room' m =
      let n : length (take k (drop (follow_width * x) follow)) ≡ k = simp (length-take, length-drop) (omega arith) in
      let n' : length (take k' (drop (enter_width * x) enter)) ≡ k' = simp (length-take, length-drop) (omega arith) in
      rw (put_back (follow_width * x) k row follow (m.same-follow ∙ n), put_back (enter_width * x) k' row' enter (m.same-enter ∙ n'))
      (rows-built x follow enter r row row' room room' (rw (e, e') at m))

-- The rows x hold the automaton.
module _ (x : ℕ) (e : Expression) (r : Automaton) (names : List Span) (follow enter sizes accepting : List ℕ) where
  row-held : size e ≤ most_occurrences → enter_width * x + enter_width ≤ length enter → x < length sizes → x < length accepting
      → InRow e r (take follow_width (drop (follow_width * x) follow)) (take enter_width (drop (enter_width * x) enter))
      → Row e x (tables names follow enter (set sizes x r.size) (set accepting x r.accepting.0))
  row-held few room within within' h = record {
    follow = sym (take-take (suc (size e)) follow_width (drop (follow_width * x) follow) (omega arith)) ∙ h.follows;
    enter = λ a l.
        let n : length (take enter_width (drop (enter_width * x) enter)) ≡ 32 = simp (length-take, length-drop) (omega arith) in
        sym (get_or-take enter_width (drop (enter_width * x) enter) a 0 l ∙ get_or-drop (enter_width * x) enter a 0) ∙ h.enters a (omega arith);
    size = get_or-set_same sizes x r.size 0 within ∙ h.places;
    accepting = get_or-set_same accepting x r.accepting.0 0 within' ∙ h.accepts;
  }

-- An entry of another row.
apart : (w x y i : ℕ) → (w * y + w ≤ w * x) ⊎ (w * x + w ≤ w * y) → i < w → (w * y + i < w * x) ⊎ (w * x + w ≤ w * y + i)
apart w x y i (inl h) l = inl (omega arith)
apart w x y i (inr h) l = inr (omega arith)

module _ (x y : ℕ) (other : y ≢ x) where
  apart-follow : (follow_width * y + follow_width ≤ follow_width * x) ⊎ (follow_width * x + follow_width ≤ follow_width * y)
  apart-follow = go (dec_lt y x)
    where
      go : Dec (y < x) → (follow_width * y + follow_width ≤ follow_width * x) ⊎ (follow_width * x + follow_width ≤ follow_width * y)
      go (yes h) = inl (omega arith)
      go (no n) = inr (omega arith)

  apart-enter : (enter_width * y + enter_width ≤ enter_width * x) ⊎ (enter_width * x + enter_width ≤ enter_width * y)
  apart-enter = go (dec_lt y x)
    where
      go : Dec (y < x) → (enter_width * y + enter_width ≤ enter_width * x) ⊎ (enter_width * x + enter_width ≤ enter_width * y)
      go (yes h) = inl (omega arith)
      go (no n) = inr (omega arith)

module _ (labels : List Bytes) (s : Bytes) (x : ℕ) (follow enter : List ℕ) (r : Option Automaton) (follow' enter' : List ℕ)
    (filled : Fills labels s x follow enter r follow' enter') where
  -- The other rows stay, whatever is stored in the entries x of the two small tables.
  module _ (sizes accepting sizes' accepting' : List ℕ) (same-sizes : (y : ℕ) → y ≢ x → get_or sizes' y 0 ≡ get_or sizes y 0)
      (same-accepting : (y : ℕ) → y ≢ x → get_or accepting' y 0 ≡ get_or accepting y 0) where
    other-held : (names : List Span) (e : Expression) (y : ℕ) → y ≢ x → size e ≤ most_occurrences
        → Row e y (tables names follow enter sizes accepting) → Row e y (tables names follow' enter' sizes' accepting')
    other-held names e y n few h = record {
      follow =
          take-agree (suc (size e)) (follow_width * y) follow' follow filled.same-follow
          (λ i l. filled.other-follow (follow_width * y + i) (apart follow_width x y i (apart-follow x y n) (omega arith)))
          ∙ h.follow;
      enter = λ a l.
          filled.other-enter (enter_width * y + a) (apart enter_width x y a (apart-enter x y n) l) ∙ h.enter a l;
      size = same-sizes y n ∙ h.size;
      accepting = same-accepting y n ∙ h.accepting;
    }

  module _ (names : List Span) (sizes accepting : List ℕ) where
    -- Nothing is built of a text with a fault, which the check tells.
    pub reads-told : r ≡ None → (v : Result (Unit {0}) Refusal) → v ≡ verdict (check labels s)
        → Reads labels s x (tables names follow enter sizes accepting) v (tables names follow' enter' sizes accepting)
    reads-told none v told = record {
      told = told;
      same-names = refl;
      row = λ e c. absurd (false≢true (sym (ap is_some none) ∙ filled.told ∙ ap is_fine c));
      others = other-held sizes accepting sizes accepting (λ y n. refl) (λ y n. refl) names;
    }

    pub reads-fine : (a : Automaton) → r ≡ Some a → enter_width * x + enter_width ≤ length enter → x < length sizes → x < length accepting
        → Reads labels s x (tables names follow enter sizes accepting) (Ok tt)
        (tables names follow' enter' (set sizes x a.size) (set accepting x a.accepting.0))
    reads-fine a is room within within' = record {
      told = fine-verdict (check labels s) (sym filled.told ∙ ap is_some is);
      same-names = refl;
      row = λ e c.
          row-held x e a names follow' enter' sizes accepting (fine-cases labels s e c).few (omega (arith, filled.same-enter)) within
          within' (filled.fills e a c is);
      others =
          other-held sizes accepting (set sizes x a.size) (set accepting x a.accepting.0)
          (λ y n. get_or-set_other sizes x y a.size 0 n) (λ y n. get_or-set_other accepting x y a.accepting.0 0 n) names;
    }
