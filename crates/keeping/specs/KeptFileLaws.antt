-- What a kept file says (KeptFile) is what was kept: its counts, the lists' names, the flags and the next states, whatever bytes stand
-- behind. So a list word ends at flag 1 in the file exactly when it is sound.
use Rattle.std.specs.Prelude.{◌≡◌, ℕ, zero, suc, ◌+◌, ◌-◌, ◌*◌, ◌/◌, ◌%◌, ◌<◌, ◌≤◌, ◌↔◌, List, [], ◌∷◌, ◌++◌, length, get_or, take, drop, slice_index, slice_index_or}
use mathlib.Core.List.{append_assoc}
use Rattle.std.proofs.Math.Path.{refl, ap}
use Rattle.std.proofs.Common.{sym, ap₂, ◌∙◌, add-one, get_or-drop, drop-drop, drop-cons, take_at}
use Rattle.std.proofs.Math.Nat.{mul-suc}
use native.Mathlib.Omega.{arith}
use Rattle.std.proofs.Math.Seq.{drop-length, drop-append_seam}
use Rattle.theory.specs.Path.{next}
use Rattle.theory.specs.Word.{Word}
use Rattle.theory.specs.Job.{Job, IsWord}
use Rattle.theory.specs.Rewriting.{Sound}
use Rattle.syntax.specs.Byte.{Bytes}
use Rattle.finding.specs.Find.{Rewriting, row_width}
use Rattle.finding.specs.Finds.{followed, Finds}
use Rattle.finding.specs.FindLaws.{flag-exactly-sound}
use Rattle.finding.specs.RewrittenLaws.{finds-decides}
use Rattle.keeping.specs.Kept.{kept_mark, two_bytes, kept_names, kept_nexts, kept_states, kept}
use Rattle.keeping.specs.KeptLaws.{kept_nexts-length, nexts-from, states-from}
use Rattle.keeping.specs.KeptFile.{number_at, file_lists, file_states, name_place, file_name, state_place, file_flag, file_next, file_followed}

-- What stands at a place is read off what follows from there on.
module _ (b : Bytes) (i : ℕ) where
  first_byte : {x : ℕ} {r : Bytes} → drop i b ≡ x ∷ r → slice_index b i ≡ x
  first_byte e =
      let z : i ≡ i + 0 = omega arith in
      ap (λ j. slice_index b j) z ∙ (sym (get_or-drop i b 0 0) ∙ ap (λ l. slice_index l 0) e)

  onward : (j : ℕ) (p : Bytes) {q : Bytes} → drop i b ≡ p ++ q → j ≡ i + length p → drop j b ≡ q
  onward j p {q} e d = ap (λ k. drop k b) d ∙ (sym (drop-drop (length p) i b) ∙ (ap (drop (length p)) e ∙ drop-append_seam p q))

first-number : (b : Bytes) (i : ℕ) {n : ℕ} {r : Bytes} → drop i b ≡ two_bytes n ++ r → number_at b i ≡ n
first-number b i {n} e =
    let high : get_or b i 0 ≡ n / 256 = first_byte b i e in
    let low : get_or b (suc i) 0 ≡ n % 256 = first_byte b (suc i) (onward b i (suc i) ((n / 256) ∷ []) e (omega arith)) in
    omega (arith, high, low)

module _ (names : List Bytes) (R : Rewriting) (more : Bytes) where
  abbrev file : Bytes
  file = kept names R ++ more

  pub file-mark : take 3 file ≡ kept_mark
  unfolding kept
  file-mark = refl

  pub file-version : number_at file 3 ≡ 1
  unfolding kept
  file-version = refl

  pub file-lists : file_lists file ≡ length names
  unfolding kept
  file-lists = refl

  pub file-states : file_states file ≡ R.states
  unfolding kept
  file-states = let e : 256 * (R.states / 256) + R.states % 256 ≡ R.states = omega arith in e

  -- What follows the names.
  behind : Bytes
  behind = kept_states R (length names) R.states 0 ++ more

  -- A list's name, with its length, stands in front of the further names.
  name-first : (v i : ℕ) → v < length names → drop i file ≡ kept_names (drop v names) ++ behind
      → drop i file ≡ (length (slice_index_or names v []) ∷ slice_index_or names v []) ++ (kept_names (drop (suc v) names) ++ behind)
  unfolding kept_names
  name-first v i h e =
      let n : Bytes = get_or names v [] in
      e
      ∙ (ap (λ l. kept_names l ++ behind) (drop-cons names v [] h)
      ∙ ap (λ l. length n ∷ l) (append_assoc n (kept_names (drop (suc v) names)) behind))

  name-from : (v : ℕ) → v ≤ length names → drop (name_place file v) file ≡ kept_names (drop v names) ++ behind
  unfolding name_place kept behind
  name-from zero h = append_assoc (kept_names names) (kept_states R (length names) R.states 0) more
  name-from (suc v) h =
      let e = name-first v (name_place file v) h (name-from v (omega arith)) in
      onward file (name_place file v) (name_place file (suc v)) (length (slice_index_or names v []) ∷ slice_index_or names v []) e
      (omega (arith, first_byte file (name_place file v) e))

  pub file-name : (v : ℕ) → v < length names → file_name file v ≡ slice_index_or names v []
  file-name v h =
      let i : ℕ = name_place file v in
      let n : Bytes = get_or names v [] in
      let e = name-first v i h (name-from v (omega arith)) in
      ap₂ (λ k l. take k l) (first_byte file i e) (onward file i (suc i) (length n ∷ []) e (omega arith))
      ∙ take_at n (kept_names (drop (suc v) names) ++ behind) (length n) refl

  -- A state's flag and next states stand in front of the further states.
  further : ℕ → Bytes
  further s = kept_states R (length names) (R.states - (s + 1)) (s + 1) ++ more

  state-first : (s i : ℕ) → s < R.states → drop i file ≡ kept_states R (length names) (R.states - s) s ++ more
      → drop i file ≡ (slice_index R.flags s ∷ kept_nexts R.table s (length names) 0) ++ further s
  unfolding further
  state-first s i h e =
      let nexts : Bytes = kept_nexts R.table s (length names) 0 in
      e
      ∙ (ap (λ l. l ++ more) (states-from R (length names) R.states s h)
      ∙ append_assoc (slice_index R.flags s ∷ nexts) (kept_states R (length names) (R.states - (s + 1)) (s + 1)) more)

  state-from : (s : ℕ) → s ≤ R.states → drop (state_place file s) file ≡ kept_states R (length names) (R.states - s) s ++ more
  unfolding kept kept_names behind further
  state-from zero h =
      let first : state_place file 0 ≡ name_place file (length names) = omega arith in
      let whole : R.states ≡ R.states - 0 = omega arith in
      ap (λ i. drop i file) first
      ∙ (name-from (length names) (omega arith)
      ∙ (ap (λ l. kept_names l ++ behind) (drop-length names) ∙ ap (λ n. kept_states R (length names) n 0 ++ more) whole))
  state-from (suc s) h =
      let i : ℕ = state_place file s in
      let nexts : Bytes = kept_nexts R.table s (length names) 0 in
      let size : length nexts ≡ 2 * length names = kept_nexts-length R.table s (length names) 0 in
      onward file i (state_place file (suc s)) (slice_index R.flags s ∷ nexts) (state-first s i h (state-from s (omega arith)))
      (omega (arith, mul-suc (1 + 2 * length names) s, size))
      ∙ ap (λ t. kept_states R (length names) (R.states - t) t ++ more) (add-one s)

  pub file-flag : (s : ℕ) → s < R.states → file_flag file s ≡ slice_index R.flags s
  file-flag s h = first_byte file (state_place file s) (state-first s (state_place file s) h (state-from s (omega arith)))

  -- Behind the flag, a number for each list.
  next-first : (s v i : ℕ) → v < length names → drop i file ≡ kept_nexts R.table s (length names - v) v ++ further s
      → drop i file
      ≡ two_bytes (slice_index R.table (row_width * s + v)) ++ (kept_nexts R.table s (length names - (v + 1)) (v + 1) ++ further s)
  next-first s v i h e = e ∙ ap (λ l. l ++ further s) (nexts-from R.table s (length names) v h)

  next-from : (s : ℕ) → s < R.states → (v : ℕ) → v ≤ length names
      → drop (suc (state_place file s) + 2 * v) file ≡ kept_nexts R.table s (length names - v) v ++ further s
  next-from s h zero k =
      let i : ℕ = state_place file s in
      let whole : length names ≡ length names - 0 = omega arith in
      onward file i (suc i + 2 * 0) (slice_index R.flags s ∷ []) (state-first s i h (state-from s (omega arith))) (omega arith)
      ∙ ap (λ n. kept_nexts R.table s n 0 ++ further s) whole
  next-from s h (suc v) k =
      let i : ℕ = suc (state_place file s) + 2 * v in
      let number : Bytes = two_bytes (slice_index R.table (row_width * s + v)) in
      onward file i (suc (state_place file s) + 2 * suc v) number (next-first s v i k (next-from s h v (omega arith))) (omega arith)
      ∙ ap (λ u. kept_nexts R.table s (length names - u) u ++ further s) (add-one v)

  pub file-next : (s v : ℕ) → s < R.states → v < length names → file_next file s v ≡ slice_index R.table (row_width * s + v)
  file-next s v h k =
      let i : ℕ = suc (state_place file s) + 2 * v in
      first-number file i (next-first s v i k (next-from s h v (omega arith)))

  -- The word ends at the same state.
  module _ (J : Job) (F : Finds J R) (as_many : length names ≡ length J.lists) where
    followed-from : (s : ℕ) (w : Word) → s < R.states → IsWord J w → file_followed file s w ≡ followed R.table s w
    unfolding followed file_followed
    followed-from s [] h b = refl
    followed-from s (v ∷ w) h (next k b) =
        ap (λ t. file_followed file t w) (file-next s v h (omega arith))
        ∙ followed-from (slice_index R.table (row_width * s + v)) w ((finds-decides J R F).next s v h k) b

    pub file-followed : (w : Word) → IsWord J w → file_followed file 0 w ≡ followed R.table 0 w
    file-followed w b = followed-from 0 w (finds-decides J R F).some-state b

    pub file-word : (w : Word) → IsWord J w → file_flag file (file_followed file 0 w) ≡ slice_index R.flags (followed R.table 0 w)
    file-word w b = ap (file_flag file) (file-followed w b) ∙ file-flag (followed R.table 0 w) (F.within w b)

    -- Who follows the file by a list word ends at flag 1 exactly for the sound words.
    pub file-sound : (w : Word) → IsWord J w → (file_flag file (file_followed file 0 w) ≡ 1) ↔ Sound J w
    file-sound w b = rw (file-word w b) (flag-exactly-sound J R F w b)
