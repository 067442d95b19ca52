-- The laws of pairs in a workspace (PairTable): reading and storing a pair, and how the entries held grow by one.
use Rattle.std.specs.Prelude.{◌≡◌, ℕ, zero, suc, ◌+◌, ◌-◌, ◌*◌, ◌/◌, ◌%◌, ◌^◌, ◌<◌, ◌≤◌, Bool, true, false, ◌||◌, List, [], ◌∷◌, ◌++◌, length, take, drop, ◌≢◌, slice_index, slice_index_or}
use Rattle.std.proofs.Math.Path.{refl, ap}
use Rattle.std.proofs.Common.{sym, ap₂, ◌∙◌, subst, subst₂, arith, length-append, length-take, length-drop, pow_pos, ext_get_or, get_or-take, get_or-drop}
use Rattle.std.proofs.Math.Decide.{ℕ_discrete}
use Rattle.std.proofs.Math.ListN.{get_or-append}
use Rattle.std.proofs.Math.Seq.{get_or-append_seam}
use Rattle.theory.specs.Exploration.{System, Entry, known}
use Rattle.theory.specs.Explored.{Tests, entry_at}
use Rattle.places.specs.Words.{number_of}
use Rattle.verdict.specs.Pairs.{Pair}
use Rattle.verdict.specs.Coded.{Layout, Coded}
use Rattle.verdict.specs.CodedLaws.{pair_path, coded-from, coded-to}
use Rattle.verdict.specs.PairTable.{words_at, pair_at, parent_at, label_at, Holds, Stored, Seen}

pub length-words : (space : List ℕ) (x n : ℕ) → length (words_at space x n) ≡ n
unfolding words_at
length-words space x zero = refl
length-words space x (suc n) = ap suc (length-words space (suc x) n)

pub word_at : (space : List ℕ) (x n j : ℕ) → j < n → slice_index (words_at space x n) j ≡ slice_index space (x + j)
unfolding words_at
word_at space x zero j h = absurd (omega arith)
word_at space x (suc n) zero h = ap (λ y. slice_index space y) (let e : x ≡ x + 0 = omega arith in e)
word_at space x (suc n) (suc j) h = word_at space (suc x) n j (omega arith) ∙ ap (λ y. slice_index space y) (let e : suc x + j ≡ x + suc j = omega arith in e)

pub words-below : (space : List ℕ) → ((k : ℕ) → slice_index space k < 2 ^ 64) → (x n j : ℕ) → slice_index (words_at space x n) j < 2 ^ 64
unfolding words_at
words-below space h x zero j = pow_pos 64
words-below space h x (suc n) zero = h x
words-below space h x (suc n) (suc j) = words-below space h (suc x) n j

-- The words are known one by one.
pub words-known : (space : List ℕ) (x n : ℕ) (l : List ℕ) → length l ≡ n → ((j : ℕ) → j < n → slice_index space (x + j) ≡ slice_index l j) → words_at space x n ≡ l
words-known space x n l e h =
    ext_get_or 0 (words_at space x n) l (length-words space x n ∙ sym e)
    (λ j k. let b : j < n = omega (arith, length-words space x n) in word_at space x n j b ∙ h j b)

-- They are a part of the workspace.
pub words-part : (space : List ℕ) (x n : ℕ) → x + n ≤ length space → words_at space x n ≡ take n (drop x space)
words-part space x n h =
    words-known space x n (take n (drop x space)) (simp (length-take, length-drop) (omega arith))
    (λ j k. sym (get_or-take n (drop x space) j 0 k ∙ get_or-drop x space j 0))

-- The part that is lent as the set of the pair number i.
pub set-part : (space : List ℕ) (i : ℕ) → 18 * i + 18 ≤ length space
    → take (18 * i + 1 + 16 - (18 * i + 1)) (drop (18 * i + 1) space) ≡ words_at space (18 * i + 1) 16
set-part space i room =
    let count : 18 * i + 1 + 16 - (18 * i + 1) ≡ 16 = omega arith in
    ap (λ k. take k (drop (18 * i + 1) space)) count ∙ sym (words-part space (18 * i + 1) 16 (omega arith))

pub same-words : (space space' : List ℕ) (x n : ℕ) → ((j : ℕ) → j < n → slice_index space' (x + j) ≡ slice_index space (x + j))
    → words_at space' x n ≡ words_at space x n
same-words space space' x n h =
    words-known space' x n (words_at space x n) (length-words space x n) (λ j k. h j k ∙ sym (word_at space x n j k))

-- What is stored is read again, and the other pairs are as they were.

module _ {space : List ℕ} {m standing : ℕ} {cover : List ℕ} {link : ℕ} {space' : List ℕ} (s : Stored space m standing cover link space') where
  pub stored-pair : length cover ≡ 16 → pair_at space' m ≡ record { standing = standing; cover = number_of cover }
  stored-pair e = pair_path s.standing-at (ap number_of (words-known space' (18 * m + 1) 16 cover e s.cover-at))

  pub other-pair : (i : ℕ) → i < m → pair_at space' i ≡ pair_at space i
  other-pair i h =
      pair_path (s.others (18 * i) (λ a b. omega arith))
      (ap number_of (same-words space space' (18 * i + 1) 16 (λ j k. s.others (18 * i + 1 + j) (λ a b. omega arith))))

  pub other-link : (i : ℕ) → i < m → slice_index space' (18 * i + 17) ≡ slice_index space (18 * i + 17)
  other-link i h = s.others (18 * i + 17) (λ a b. omega arith)

-- The entries held, with one more.

module _ (S : System Pair) where
  last_entry : (l : List (Entry Pair)) (e : Entry Pair) → entry_at S (l ++ (e ∷ [])) (length l) ≡ e
  last_entry l e = get_or-append_seam l e [] (record { value = S.start; trail = [] })

  pub earlier-entry : (l : List (Entry Pair)) (e : Entry Pair) (i : ℕ) → i < length l → entry_at S (l ++ (e ∷ [])) i ≡ entry_at S l i
  earlier-entry l e i h = get_or-append l (e ∷ []) (record { value = S.start; trail = [] }) i h

module _ (L : Layout) (n : ℕ) (S : System Pair) where
  pub holds-first : (space : List ℕ) → Coded L n S.start (pair_at space 0) → Holds L n S space (record { value = S.start; trail = [] } ∷ [])
  holds-first space e =
      record {
        value = λ i h. let z : i ≡ 0 = omega arith in subst (λ j. Coded L n (entry_at S (record { value = S.start; trail = [] } ∷ []) j).value (pair_at space j)) (sym z) e;
        trails = record { first = refl; parent = λ i h k. absurd (omega arith); trail = λ i h k. absurd (omega arith) };
      }

  pub holds_more : (space space' : List ℕ) (l : List (Entry Pair)) (i a : ℕ) (x : Pair) (standing : ℕ) (cover : List ℕ) → Holds L n S space l
      → Stored space (length l) standing cover (a * 8192 + i) space' → length cover ≡ 16
      → Coded L n x (record { standing = standing; cover = number_of cover }) → i < length l → i < 8192 → a < 64
      → Holds L n S space' (l ++ (record { value = x; trail = a ∷ (entry_at S l i).trail } ∷ []))
  holds_more space space' l i a x standing cover held s sized coded inside small few =
      record {
        value = λ j h. value j (ℕ_discrete j (length l)) h;
        trails =
            record {
              first = ap (λ e. e.trail) (earlier-entry S l new 0 (omega arith)) ∙ held.trails.first;
              parent = λ j p h. parent j p (ℕ_discrete j (length l)) h;
              trail = λ j p h. trail j p (ℕ_discrete j (length l)) h;
            };
      }
    where
      new : Entry Pair
      new = record { value = x; trail = a ∷ (entry_at S l i).trail }

      size : length (l ++ (new ∷ [])) ≡ suc (length l)
      size = length-append l (new ∷ []) ∙ omega arith

      new-parent : parent_at space' (length l) ≡ i
      new-parent = ap (λ x. x % 8192) s.link_at ∙ omega arith

      new-label : label_at space' (length l) ≡ a
      new-label = ap (λ x. x / 8192 % 64) s.link_at ∙ omega arith

      old-parent : (j : ℕ) → j < length l → parent_at space' j ≡ parent_at space j
      old-parent j h = ap (λ x. x % 8192) (other-link s j h)

      old-label : (j : ℕ) → j < length l → label_at space' j ≡ label_at space j
      old-label j h = ap (λ x. x / 8192 % 64) (other-link s j h)

      value : (j : ℕ) → Dec (j ≡ length l) → j < length (l ++ (new ∷ [])) → Coded L n (entry_at S (l ++ (new ∷ [])) j).value (pair_at space' j)
      value j (yes e) h =
          subst (λ k. Coded L n (entry_at S (l ++ (new ∷ [])) k).value (pair_at space' k)) (sym e)
          (subst₂ (λ y z. Coded L n y z) (sym (ap (λ e. e.value) (last_entry S l new))) (sym (stored-pair s sized)) coded)
      value j (no d) h =
          let b : j < length l = omega (arith, size) in
          subst₂ (λ y z. Coded L n y z) (sym (ap (λ e. e.value) (earlier-entry S l new j b))) (sym (other-pair s j b)) (held.value j b)

      parent : (j : ℕ) → 0 < j → Dec (j ≡ length l) → j < length (l ++ (new ∷ [])) → parent_at space' j < j
      parent j p (yes e) h = subst (λ k. parent_at space' k < k) (sym e) (omega (arith, new-parent))
      parent j p (no d) h = let b : j < length l = omega (arith, size) in omega (arith, old-parent j b, held.trails.parent j p b)

      trail : (j : ℕ) → 0 < j → Dec (j ≡ length l) → j < length (l ++ (new ∷ []))
          → (entry_at S (l ++ (new ∷ [])) j).trail ≡ label_at space' j ∷ (entry_at S (l ++ (new ∷ [])) (parent_at space' j)).trail
      trail j p (yes e) h =
          subst (λ k. (entry_at S (l ++ (new ∷ [])) k).trail ≡ label_at space' k ∷ (entry_at S (l ++ (new ∷ [])) (parent_at space' k)).trail) (sym e)
          (ap (λ x. x.trail) (last_entry S l new)
          ∙ ap₂ (λ x y. x ∷ y) (sym new-label)
          (sym (ap (λ k. (entry_at S (l ++ (new ∷ [])) k).trail) new-parent ∙ ap (λ x. x.trail) (earlier-entry S l new i inside))))
      trail j p (no d) h =
          let b : j < length l = omega (arith, size) in
          let q : parent_at space j < length l = omega (arith, held.trails.parent j p b) in
          ap (λ x. x.trail) (earlier-entry S l new j b)
          ∙ held.trails.trail j p b
          ∙ ap₂ (λ x y. x ∷ y) (sym (old-label j b))
          (sym (ap (λ k. (entry_at S (l ++ (new ∷ [])) k).trail) (old-parent j b) ∙ ap (λ x. x.trail) (earlier-entry S l new (parent_at space j) q)))

-- A value is known exactly where an entry has it.

module _ {A : Type 0} (S : System A) (tests : Tests S) where
  pub known-found : (x : A) (l : List (Entry A)) (i : ℕ) (d : Entry A) → i < length l → (slice_index_or l i d).value ≡ x → known S x l ≡ true
  unfolding known
  known-found x [] i d h e = absurd (omega arith)
  known-found x (f ∷ l) zero d h e = ap (λ b. b || known S x l) (subst (λ y. S.same x y ≡ true) (sym e) (tests.complete x))
  known-found x (f ∷ l) (suc i) d h e = either (S.same x f.value) (known-found x l i d (omega arith) e)
    where
      either : (b : Bool) → known S x l ≡ true → (b || known S x l) ≡ true
      either true p = refl
      either false p = p

  pub known-new : (x : A) (l : List (Entry A)) (d : Entry A) → ((i : ℕ) → i < length l → (slice_index_or l i d).value ≢ x) → known S x l ≡ false
  unfolding known
  known-new x [] d h = refl
  known-new x (f ∷ l) d h = neither (S.same x f.value) refl (known-new x l d (λ i k. h (suc i) (omega arith)))
    where
      neither : (b : Bool) → S.same x f.value ≡ b → known S x l ≡ false → (b || known S x l) ≡ false
      neither true e p = absurd (h 0 (omega arith) (sym (tests.sound x f.value e)))
      neither false e p = p

module _ (L : Layout) (n : ℕ) (S : System Pair) (tests : Tests S) (space : List ℕ) (l : List (Entry Pair)) (held : Holds L n S space l) (m : ℕ)
    (count : length l ≡ m) (x y : Pair) (coded : Coded L n x y) (r : Bool) (seen : Seen m space y r) where
  pub seen-known : r ≡ true → known S x l ≡ true
  seen-known e =
      let (i, h, q) = seen.found e in
      let b : i < length l = omega (arith, count) in
      known-found S tests x l i (record { value = S.start; trail = [] }) b
      (coded-from L n (entry_at S l i).value x y (subst (Coded L n (entry_at S l i).value) q (held.value i b)) coded)

  pub seen-new : 0 < n → r ≡ false → known S x l ≡ false
  seen-new some e =
      known-new S tests x l (record { value = S.start; trail = [] })
      (λ i b q. seen.new e i (omega (arith, count))
      (coded-to L n x (pair_at space i) y some (subst (λ z. Coded L n z (pair_at space i)) q (held.value i b)) coded))
