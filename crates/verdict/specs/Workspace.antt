-- What the functions on the workspace promise and their loops keep.
use Rattle.std.specs.Prelude.{◌≡◌, ℕ, ◌+◌, ◌-◌, ◌*◌, ◌^◌, ◌<◌, ◌≤◌, ◌≢◌, Bool, List, length, take, drop, slice_index}
use Rattle.std.proofs.Common.{sym, ap, ◌∙◌, arith, true≢false, length-take-le}
use Rattle.std.proofs.lemmas.List.{get_or-take}
use Rattle.std.proofs.Common.{get_or-drop}
use Rattle.std.specs.Bool.{Decides}
use Rattle.places.specs.Words.{number_of}
use Rattle.places.specs.WordsLaws.{number_same}
use Rattle.verdict.specs.Pairs.{Pair}
use Rattle.verdict.specs.PairTable.{words_at, pair_at, Compared}
use Rattle.verdict.specs.CodedLaws.{pair_path}
use Rattle.verdict.specs.PairTableLaws.{length-words, word_at, words-below, words-known, words-part}
use Rattle.verdict.specs.WordBits.{number_short}

-- The pair of a standing and a cover set as words.
abbrev pub pair : ℕ → List ℕ → Pair
pair standing cover = record { standing = standing; cover = number_of cover }

-- Pairs are compared by their standings and by the words of their cover sets.

pub standing-differs : (space : List ℕ) (i standing : ℕ) (cover : List ℕ) → slice_index space (18 * i) ≢ standing → pair_at space i ≢ pair standing cover
standing-differs space i standing cover d e = d (ap (λ x. x.standing) e)

-- Sets that stand in their first n words are compared in these alone.
pub words-compared : (space : List ℕ) (i standing n : ℕ) (cover : List ℕ) (r : Bool) → ((k : ℕ) → slice_index space k < 2 ^ 64)
    → ((k : ℕ) → slice_index cover k < 2 ^ 64) → 18 * i + 18 ≤ length space → length cover ≡ 16 → n ≤ 16
    → number_of (words_at space (18 * i + 1) 16) < 2 ^ (64 * n) → number_of cover < 2 ^ (64 * n) → slice_index space (18 * i) ≡ standing
    → Decides r (take (18 * i + 1 + n - (18 * i + 1)) (drop (18 * i + 1) space) ≡ take n cover) → Compared space i (pair standing cover) r
words-compared space i standing n cover r fits fits' room size few a b s d =
    record {
      same = λ e. pair_path s (number_short n (words_at space (18 * i + 1) 16) cover a b (λ j k. word j k (d.0 e)));
      differs = λ e p. true≢false (sym (d.1 (parts (ap (λ x. x.cover) p))) ∙ e);
    }
  where
    count : 18 * i + 1 + n - (18 * i + 1) ≡ n
    count = omega arith

    word : (j : ℕ) → j < n → take (18 * i + 1 + n - (18 * i + 1)) (drop (18 * i + 1) space) ≡ take n cover
        → slice_index (words_at space (18 * i + 1) 16) j ≡ slice_index cover j
    word j k e =
        word_at space (18 * i + 1) 16 j (omega arith)
        ∙ sym (get_or-take (18 * i + 1 + n - (18 * i + 1)) (drop (18 * i + 1) space) j 0 (omega arith) ∙ get_or-drop (18 * i + 1) space j 0)
        ∙ ap (λ l. slice_index l j) e
        ∙ get_or-take n cover j 0 k

    parts : number_of (words_at space (18 * i + 1) 16) ≡ number_of cover
        → take (18 * i + 1 + n - (18 * i + 1)) (drop (18 * i + 1) space) ≡ take n cover
    parts e =
        ap (λ k. take k (drop (18 * i + 1) space)) count
        ∙ sym (words-part space (18 * i + 1) n (omega arith))
        ∙ words-known space (18 * i + 1) n (take n cover) (length-take-le n cover (omega arith))
        (λ j k. sym (word_at space (18 * i + 1) 16 j (omega arith))
        ∙ ap (λ l. slice_index l j)
        (number_same (words_at space (18 * i + 1) 16) cover (words-below space fits (18 * i + 1) 16) fits' (length-words space (18 * i + 1) 16 ∙ sym size) e)
        ∙ sym (get_or-take n cover j 0 k))
