-- What is reached grows. Reached are the pairs of a recording and a state that were found; pending are those of them whose links have not
-- been followed yet (Waiting).
use Rattle.std.specs.Prelude.{◌≡◌, ℕ, ◌+◌, ◌-◌, ◌*◌, ◌<◌, ◌≤◌, ◌⊎◌, List, length, drop, slice_index}
use Rattle.std.proofs.Common.{inl, inr, sym, ap, ◌∙◌, subst, arith, length-drop, get_or-drop}
use Rattle.std.specs.Prelude.{refl}
use Rattle.answering.specs.Rest.{rest_of, rest_back, rest_all, back-drop}
use Rattle.answering.specs.Pairs.{Has, room, row_below}
use Rattle.answering.specs.WordsFrom.{Zeroed}
use Rattle.answering.specs.Waiting.{Waiting, waiting-most, waiting-same, waiting-pop, waiting-front}

-- There is room in each part.
pub record Ready (w N : ℕ) (reached pending stack : List ℕ) (h : ℕ) : Type 0 where
  pub words : w * N ≤ length reached
  pub few : N ≤ 4096
  pub waiting : Waiting w N pending stack h

-- From one moment to a later one, pairs were added to what is reached: only pairs of `Source`, and what is new is pending.
pub record Grown (w N : ℕ) (Source : ℕ → ℕ → Type 0) (reached pending : List ℕ) (h : ℕ) (reached' pending' stack' : List ℕ) (h' : ℕ)
    : Type 0 where
  pub ready : Ready w N reached' pending' stack' h'
  pub kept : (z s : ℕ) → Has w reached z s → Has w reached' z s
  pub still : (z s : ℕ) → Has w pending z s → Has w pending' z s
  pub new : (z s : ℕ) → s < 64 * w → Has w reached' z s → Has w reached z s ⊎ (Source z s × Has w pending' z s)
  pub told : (z s : ℕ) → s < 64 * w → Has w pending' z s → Has w pending z s ⊎ Has w reached' z s
  pub beyond : drop (w * N) reached' ≡ drop (w * N) reached
  pub less : room reached' + h' ≤ room reached + h

-- The words of each recording are there.

module _ {w N : ℕ} {R P S : List ℕ} {h : ℕ} (r : Ready w N R P S h) (y : ℕ) (k : y < N) where
  pub row-reached : w * y + w ≤ length R
  row-reached = let l = row_below w N k in let m = r.words in omega arith

  pub row-pending : w * y + w ≤ length P
  row-pending = let l = row_below w N k in let m = r.waiting.words in omega arith

-- The recording on top is taken off the stack.
pub ready-pop : {w N x : ℕ} {R P P' S : List ℕ} {h : ℕ} → Ready w N R P S h → 0 < h → x ≡ slice_index S (h - 1) → length P' ≡ length P
    → Zeroed (w * x) w P P' → Ready w N R P' S (h - 1)
ready-pop {w} {N} {x} {R} {P} {P'} {S} {h} r l e d z = record {
  words = r.words;
  few = r.few;
  waiting =
      waiting-pop (subst (Waiting w N P S) up r.waiting) d (subst (λ x. Zeroed (w * x) w P P') e z);
}
  where
    up : h ≡ (h - 1) + 1
    up = omega arith

pub top_below : {w N : ℕ} {R P S : List ℕ} {h : ℕ} → Ready w N R P S h → 0 < h → slice_index S (h - 1) < N
top_below r l = r.waiting.below _ (omega arith)

pub top-inside : {w N : ℕ} {R P S : List ℕ} {h : ℕ} → Ready w N R P S h → 0 < h → h - 1 < length S
top-inside {h = h} r l = let m = waiting-most r.waiting in let k = r.waiting.slots in omega arith

-- The recordings that wait stand in the stack from the place `at` on.

front_of : (at : ℕ) (S : List ℕ) → slice_index (drop at S) 0 ≡ slice_index S at
front_of at S = get_or-drop at S 0 0 ∙ ap (λ n. slice_index S n) same
  where
    same : at + 0 ≡ at
    same = omega arith

module _ (at : ℕ) (S : List ℕ) {w N : ℕ} {R P : List ℕ} {h : ℕ} (r : Ready w N R P (drop at S) h) where
  pub front-inside : at < length S
  front-inside = let n = length-drop at S in let l = r.waiting.slots in omega arith

  pub front_below : 0 < h → slice_index S at < N
  front_below l = subst (λ z. z < N) (front_of at S) (r.waiting.below 0 l)

  -- The one at the front is taken.
  pub ready-front : {x : ℕ} {P' : List ℕ} → 0 < h → N + (at + 1) < length S → x ≡ slice_index S at → length P' ≡ length P
      → Zeroed (w * x) w P P' → Ready w N R P' (rest_of (at + 1) S) (h - 1)
  ready-front {x} {P'} l long e d z = record {
    words = r.words;
    few = r.few;
    waiting =
        waiting-front (subst (Waiting w N P (drop at S)) up r.waiting)
        (omega (arith, ap length (rest_all (at + 1) S), length-drop (at + 1) S)) next d
        (subst (λ x. Zeroed (w * x) w P P') (e ∙ sym (front_of at S)) z);
  }
    where
      up : h ≡ (h - 1) + 1
      up = omega arith

      next : (i : ℕ) → slice_index (rest_of (at + 1) S) i ≡ slice_index (drop at S) (1 + i)
      next i =
          let over : at + 1 + i ≡ at + (1 + i) = omega arith in
          ap (λ T. slice_index T i) (rest_all (at + 1) S) ∙ get_or-drop (at + 1) S i 0 ∙ ap (λ n. slice_index S n) over
          ∙ sym (get_or-drop at S (1 + i) 0)

  -- They come to the front.
  pub ready_moved : {S' : List ℕ} → length S' ≡ length S → ((i : ℕ) → i < h → slice_index S' i ≡ slice_index S (at + i)) → Ready w N R P S' h
  ready_moved long same = record {
    words = r.words;
    few = r.few;
    waiting =
        waiting-same r.waiting (let n = length-drop at S in let l = r.waiting.slots in omega arith)
        (λ i l. same i l ∙ sym (get_or-drop at S i 0));
  }

-- The rest of the stack is back.
pub ready-back : (at : ℕ) (S Y : List ℕ) {w N : ℕ} {R P : List ℕ} {h : ℕ} → Ready w N R P Y h → at ≤ length S
    → Ready w N R P (drop at (rest_back at S Y)) h
ready-back at S Y {w} {N} {R} {P} {h} r l = subst (λ T. Ready w N R P T h) (sym (back-drop at S Y l)) r

-- From one moment to a later one.

pub grown-none : {w N : ℕ} (Source : ℕ → ℕ → Type 0) {R P S : List ℕ} {h : ℕ} → Ready w N R P S h → Grown w N Source R P h R P S h
grown-none Source {h = h} r = record {
  ready = r;
  kept = λ z s m. m;
  still = λ z s m. m;
  new = λ z s l m. inl m;
  told = λ z s l m. inl m;
  beyond = refl;
  less = omega arith;
}

pub grown-then : {w N : ℕ} {Source Others : ℕ → ℕ → Type 0} {R P R' P' S' R'' P'' S'' : List ℕ} {h h' h'' : ℕ}
    → Grown w N Source R P h R' P' S' h' → Grown w N Others R' P' h' R'' P'' S'' h'' → ((z s : ℕ) → Others z s → Source z s)
    → Grown w N Source R P h R'' P'' S'' h''
grown-then {w} {N} {Source} {Others} {R} {P} {R'} {P'} {S'} {R''} {P''} {S''} f g wider = record {
  ready = g.ready;
  kept = λ z s m. g.kept z s (f.kept z s m);
  still = λ z s m. g.still z s (f.still z s m);
  new = λ z s l m. first z s l (g.new z s l m);
  told = λ z s l m. back z s l (g.told z s l m);
  beyond = g.beyond ∙ f.beyond;
  less = let a = f.less in let b = g.less in omega arith;
}
  where
    earlier : (z s : ℕ) → Has w R z s ⊎ (Source z s × Has w P' z s) → Has w R z s ⊎ (Source z s × Has w P'' z s)
    earlier z s (inl m) = inl m
    earlier z s (inr m) = inr (m.0, g.still z s m.1)

    first : (z s : ℕ) → s < 64 * w → Has w R' z s ⊎ (Others z s × Has w P'' z s) → Has w R z s ⊎ (Source z s × Has w P'' z s)
    first z s l (inl m) = earlier z s (f.new z s l m)
    first z s l (inr m) = inr (wider z s m.0, m.1)

    behind : (z s : ℕ) → Has w P z s ⊎ Has w R' z s → Has w P z s ⊎ Has w R'' z s
    behind z s (inl m) = inl m
    behind z s (inr m) = inr (g.kept z s m)

    back : (z s : ℕ) → s < 64 * w → Has w P' z s ⊎ Has w R'' z s → Has w P z s ⊎ Has w R'' z s
    back z s l (inl m) = behind z s (f.told z s l m)
    back z s l (inr m) = inr m

pub grown-below : {w N : ℕ} {Source Others : ℕ → ℕ → Type 0} {R P R' P' S' : List ℕ} {h h' : ℕ}
    → Grown w N Others R P h R' P' S' h' → ((z s : ℕ) → s < 64 * w → Others z s → Source z s) → Grown w N Source R P h R' P' S' h'
grown-below {w} {N} {Source} {Others} {R} {P} {R'} {P'} {S'} g wider = record {
  ready = g.ready;
  kept = g.kept;
  still = g.still;
  new = λ z s l m. new' z s l (g.new z s l m);
  told = g.told;
  beyond = g.beyond;
  less = g.less;
}
  where
    new' : (z s : ℕ) → s < 64 * w → Has w R z s ⊎ (Others z s × Has w P' z s) → Has w R z s ⊎ (Source z s × Has w P' z s)
    new' z s l (inl m) = inl m
    new' z s l (inr m) = inr (wider z s l m.0, m.1)

pub grown-wider : {w N : ℕ} {Source Others : ℕ → ℕ → Type 0} {R P R' P' S' : List ℕ} {h h' : ℕ}
    → Grown w N Others R P h R' P' S' h' → ((z s : ℕ) → Others z s → Source z s) → Grown w N Source R P h R' P' S' h'
grown-wider g wider = grown-below g (λ z s l m. wider z s m)
