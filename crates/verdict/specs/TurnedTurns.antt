-- The loops between a turned cover set and its columns (Turned): what they keep, turn by turn.
use Rattle.std.specs.Prelude.{◌≡◌, ℕ, ◌+◌, ◌*◌, ◌/◌, ◌%◌, ◌^◌, ◌<◌, ◌≤◌, List, length, slice_index, slice_set}
use Rattle.std.proofs.Common.{sym, ap, ◌∙◌, subst, mul_assoc, mul_comm, mul-suc, add-one, arith, pow-add, shl_exact, get_or-set_same, get_or-set_other}
use Rattle.std.proofs.Math.Decide.{dec_lt}
use Rattle.theory.specs.Places.{Member}
use Rattle.verdict.specs.CoverBounds.{state-places}
use Rattle.verdict.specs.Rows.{row_of}
use Rattle.verdict.specs.RowsLaws.{member-row}
use Rattle.verdict.specs.Turned.{Stacked}

-- The column of the offset o stands at n × o, below all places.
pub column-room : (w n at o : ℕ) → o < w → n * w ≤ 1024 → at ≡ n * o → at + n ≤ 1024
column-room w n at o h room place = omega (arith, state-places n w o h, mul_comm n w)

pub next-column : (n at o : ℕ) → at ≡ n * o → at + n ≡ n * (o + 1)
next-column n at o place = omega (arith, ap (λ (z : ℕ). n * z) (add-one o), mul-suc n o)

-- From a turned set to its columns: those before o stand.
pub record Unstacked (n : ℕ) (columns : List ℕ) (D o : ℕ) : Type 0 where
  pub stands : (x : ℕ) → x < o → slice_index columns x ≡ row_of D (n * x) n

pub unstacked-start : (n : ℕ) (columns : List ℕ) (D : ℕ) → Unstacked n columns D 0
unstacked-start n columns D = record { stands = λ x h. absurd (omega arith) }

pub unstacked-turn : (n : ℕ) (columns : List ℕ) (D at o row : ℕ) → o < length columns → at ≡ n * o → row ≡ row_of D at n
    → Unstacked n columns D o → Unstacked n (slice_set columns o row) D (o + 1)
unstacked-turn n columns D at o row room place same s = record { stands = λ x h. side x h (dec_lt x o) }
  where
    side : (x : ℕ) → x < o + 1 → Dec (x < o) → slice_index (slice_set columns o row) x ≡ row_of D (n * x) n
    side x h (yes l) = get_or-set_other columns o x row 0 (λ e. omega arith) ∙ s.stands x l
    side x h (no l) =
        let e : x ≡ o = omega arith in
        ap (λ (z : ℕ). slice_index (slice_set columns o row) z) e ∙ get_or-set_same columns o row 0 room ∙ same
        ∙ ap (λ (z : ℕ). row_of D z n) (place ∙ ap (λ (z : ℕ). n * z) (sym e))

pub unstacked-end : (w n : ℕ) (columns : List ℕ) (D o : ℕ) → w ≤ o → Unstacked n columns D o → Stacked w n columns D
unstacked-end w n columns D o h s =
    record {
      exact = λ q x k l. (
        λ m. ((member-row D (n * x) n q).0 (subst (Member q) (s.stands x (omega arith)) m)).1,
        λ m. subst (Member q) (sym (s.stands x (omega arith))) ((member-row D (n * x) n q).1 (k, m)),
      );
      within = λ q x l m. ((member-row D (n * x) n q).0 (subst (Member q) (s.stands x (omega arith)) m)).0;
    }

-- A column that lies in one word.
pub column-inside : (column at n : ℕ) → column < 2 ^ n → at % 64 + n ≤ 64
    → ((column * 2 ^ (at % 64)) % 2 ^ 64) * 2 ^ (64 * (at / 64)) ≡ column * 2 ^ at
column-inside column at n small h =
    let e : at % 64 + 64 * (at / 64) ≡ at = omega arith in
    ap (λ (z : ℕ). z * 2 ^ (64 * (at / 64))) (shl_exact n (at % 64) 64 small (omega arith))
    ∙ mul_assoc column (2 ^ (at % 64)) (2 ^ (64 * (at / 64)))
    ∙ ap (λ (z : ℕ). column * z) (sym (pow-add 2 (at % 64) (64 * (at / 64))) ∙ ap (λ (z : ℕ). 2 ^ z) e)
