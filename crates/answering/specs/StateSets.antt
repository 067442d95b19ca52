-- The next states of a deterministic automaton as words (SetSearch), by ranks (Ranks): the row lists × r + v of the words has the rank of
-- the next state, over the list v, of the state with rank r, where it is kept, and no other rank.
use Rattle.std.specs.Prelude.{◌≡◌, ℕ, suc, ◌+◌, ◌*◌, ◌<◌, ◌≤◌, ◌⊎◌, ◌↔◌, List, length, replicate, slice_index}
use Rattle.std.proofs.Common.{inl, inr, sym, ◌∙◌, subst, mul-suc, mul-le-mul, add-one, arith}
use Rattle.std.proofs.Math.Decide.{ℕ_discrete}
use Rattle.answering.specs.ProductLaws.{node-below, same-node}
use Rattle.answering.specs.Pairs.{place, Has, put, row_below, has-put-there, has-put-new, has-put-kept, zeros-idle}
use Rattle.answering.specs.Ranks.{next_of}

-- q is the rank of the next state, over the list v, of the state with rank r.
abbrev pub RankedStep : List ℕ → ℕ → List ℕ → List ℕ → ℕ → ℕ → ℕ → ℕ → Type 0
RankedStep next states ranks kept count r v q =
    (next_of next (slice_index kept r) v < states) × (q ≡ slice_index ranks (next_of next (slice_index kept r) v)) × (q < count)

-- The first n rows have the steps of an automaton; no row has anything else.
pub record Filled (lists w : ℕ) (Step : ℕ → ℕ → ℕ → Type 0) (n : ℕ) (sets : List ℕ) : Type 0 where
  pub only : (r v q : ℕ) → v < lists → q < 64 * w → Has w sets (lists * r + v) q → Step r v q
  pub all : (r v q : ℕ) → v < lists → lists * r + v < n → Step r v q → Has w sets (lists * r + v) q

-- The rows of all states.
pub record StateSets (lists w count : ℕ) (Step : ℕ → ℕ → ℕ → Type 0) (sets : List ℕ) : Type 0 where
  pub rows : w * (lists * count) ≤ length sets
  pub exactly : (r v q : ℕ) → r < count → v < lists → q < 64 * w → Has w sets (lists * r + v) q ↔ Step r v q

-- The next states have their rows, the states their ranks, and the ranks as many words as they need.
pub record StatesLent (next : List ℕ) (lists states w : ℕ) (ranks kept : List ℕ) (count : ℕ) : Type 0 where
  pub few-lists : lists ≤ 16
  pub few : states ≤ 256
  pub given : 16 * states ≤ length next
  pub ranks-fit : states ≤ length ranks
  pub kept-fit : count ≤ length kept
  pub few-kept : count ≤ 256
  pub inside : (r : ℕ) → r < count → slice_index kept r < states
  pub width : count ≤ 64 * w
  pub few_words : w ≤ 4

module _ {next : List ℕ} {lists states w : ℕ} {ranks kept : List ℕ} {count : ℕ} (l : StatesLent next lists states w ranks kept count) where
  -- No automaton needs more words for its next states.
  pub lent-most : (lists * count ≤ 4096) × (w * (lists * count) ≤ 16384)
  lent-most =
      let a : lists * count ≤ 4096 = mul-le-mul l.few-lists l.few-kept in
      (a, mul-le-mul l.few_words a)

  -- Rows are few.
  pub rows_few : {r : ℕ} → r < count → lists * r ≤ 4096
  rows_few {r} h =
      let few = l.few-kept in
      let k : r ≤ 256 = omega arith in
      let m = mul-le-mul l.few-lists k in omega arith

-- The row of the rank r over the list v has its words.
pub row_room : (w lists count : ℕ) (sets : List ℕ) → w * (lists * count) ≤ length sets → {r v : ℕ} → r < count → v < lists
    → w * (lists * r + v) + w ≤ length sets
row_room w lists count sets f h k =
    let l = row_below w (lists * count) (node-below lists count h k) in omega arith

-- The step of the rank r over the list v is put into the row n, where there is one.
pub record StepPut (w : ℕ) (Step : ℕ → ℕ → ℕ → Type 0) (r v n : ℕ) (before after : List ℕ) : Type 0 where
  pub only : (i q : ℕ) → q < 64 * w → Has w after i q → Has w before i q ⊎ ((i ≡ n) × Step r v q)
  pub kept : (i q : ℕ) → Has w before i q → Has w after i q
  pub new : (q : ℕ) → Step r v q → Has w after n q

-- There is none ..
pub step-none : {w : ℕ} {Step : ℕ → ℕ → ℕ → Type 0} {r v n : ℕ} {sets : List ℕ} → ((q : ℕ) → ¬ Step r v q) → StepPut w Step r v n sets sets
step-none d = record { only = λ i q l m. inl m; kept = λ i q m. m; new = λ q m. absurd (d q m) }

-- .. or it is put there.
pub step-put : {w : ℕ} {Step : ℕ → ℕ → ℕ → Type 0} {r v n t : ℕ} {sets : List ℕ} → Step r v t → ((q : ℕ) → Step r v q → q ≡ t)
    → t < 64 * w → w * n + w ≤ length sets → StepPut w Step r v n sets (put w sets n t)
step-put {w} {Step} {r} {v} {n} {t} {sets} step alone below room = record {
  only = λ i q l m. told i q (has-put-there w sets n t below fits i q l m);
  kept = λ i q m. has-put-kept w sets n t below fits i q m;
  new = λ q m. subst (Has w (put w sets n t) n) (sym (alone q m)) (has-put-new w sets n t below fits);
}
  where
    fits : place w n t < length sets
    fits = omega arith

    told : (i q : ℕ) → Has w sets i q ⊎ ((i ≡ n) × (q ≡ t)) → Has w sets i q ⊎ ((i ≡ n) × Step r v q)
    told i q (inl m) = inl m
    told i q (inr (e, f)) = inr (e, subst (Step r v) (sym f) step)

-- One more row.
pub filled_more : {lists w : ℕ} {Step : ℕ → ℕ → ℕ → Type 0} {s v n : ℕ} {before after : List ℕ} → v < lists
    → n ≡ lists * s + v → {k : ℕ} → k ≡ suc n → Filled lists w Step n before → StepPut w Step s v n before after
    → Filled lists w Step k after
filled_more {lists} {w} {Step} {s} {v} {n} {before} {after} h at {k = upto} one_more f p = record {
  only = λ q u t k l m. told q u t k l (p.only (lists * q + u) t l m);
  all = λ q u t k l m. more q u t k l m (ℕ_discrete (lists * q + u) n);
}
  where
    told : (q u t : ℕ) → u < lists → t < 64 * w → Has w before (lists * q + u) t ⊎ ((lists * q + u ≡ n) × Step s v t) → Step q u t
    told q u t k l (inl m) = f.only q u t k l m
    told q u t k l (inr (e, m)) =
        let (a, b) = same-node lists k h (e ∙ at) in
        subst (λ q. Step q u t) (sym a) (subst (λ u. Step s u t) (sym b) m)

    more : (q u t : ℕ) → u < lists → lists * q + u < upto → Step q u t → Dec (lists * q + u ≡ n) → Has w after (lists * q + u) t
    more q u t k l m (yes e) =
        let (a, b) = same-node lists k h (e ∙ at) in
        subst (λ r. Has w after r t) (sym e) (p.new t (subst (λ q. Step q v t) a (subst (λ u. Step q u t) b m)))
    more q u t k l m (no e) = p.kept (lists * q + u) t (f.all q u t k (omega arith) m)

-- Zeros are no rows.
pub filled_none : (lists w : ℕ) (Step : ℕ → ℕ → ℕ → Type 0) (n : ℕ) → Filled lists w Step 0 (replicate n 0)
filled_none lists w Step n = record {
  only = λ r v q h l m. absurd (zeros-idle w n (lists * r + v) q m);
  all = λ r v q h l. absurd (omega arith);
}

-- From one rank to the next.

module _ {lists w : ℕ} {Step : ℕ → ℕ → ℕ → Type 0} {sets : List ℕ} where
  pub filled-start : Filled lists w Step 0 sets → Filled lists w Step (lists * 0) sets
  filled-start = subst (λ n. Filled lists w Step n sets) (omega arith)

  pub filled-state : (r : ℕ) → Filled lists w Step (lists * r + lists) sets → Filled lists w Step (lists * (r + 1)) sets
  filled-state r = subst (λ n. Filled lists w Step n sets) (rw add-one (sym (mul-suc lists r)))

  -- After the last rank.
  pub filled-all : {count : ℕ} → w * (lists * count) ≤ length sets → Filled lists w Step (lists * count) sets
      → StateSets lists w count Step sets
  filled-all {count} room f = record {
    rows = room;
    exactly = λ r v q h k l. (f.only r v q k l, f.all r v q k (node-below lists count h k));
  }
