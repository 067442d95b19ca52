-- Which cover places a path reaches (document 01), and how that goes on: a label enters a list or moves within one, and where a path of a
-- list ends its state is reached. Said on the meaning alone, with reading place by place.
use Rattle.std.specs.Prelude.{◌≡◌, ℕ, zero, suc, ◌+◌, ◌*◌, ◌<◌, ◌≤◌, ◌↔◌, List, [], ◌∷◌, ◌++◌, length, slice_index}
use Rattle.std.proofs.Common.{append-nil, append_assoc, inl, inr, sym, ap, ◌∙◌, subst, add-zero, arith}
use Rattle.std.specs.Prelude.{refl}
use Rattle.theory.specs.Path.{Label, Path, Language}
use Rattle.theory.specs.Expression.{Expression}
use Rattle.theory.specs.Standing.{size, Labelled}
use Rattle.theory.specs.Word as W
use Rattle.theory.specs.Word.{Word, Spells}
use Rattle.theory.specs.Job.{Job, SpelledBy}
use Rattle.theory.specs.Occurrences.{labelled-within, follow-from-within, last_within}
use Rattle.theory.specs.Chain.{FollowFrom, Final}
use Rattle.theory.specs.StandsAt as S
use Rattle.theory.specs.StandsAt.{StandsAt}
use Rattle.theory.proofs.GlushkovRelations.{standing-exactly, path-exactly}
use Rattle.theory.proofs.GreatestRewriting.{spells-word}
use Rattle.finding.specs.Finds.{followed}
use Rattle.finding.specs.Rewritten.{Rewritten, next_state}
use Rattle.verdict.specs.Verdicts.{ReachesState, ReachesOccurrence}
use Rattle.verdict.specs.CoverPlaces.{list_at, offsets, numbered, alone-unique, alone-apart, occurrence-number-unique}

-- Places of one expression.

pub stands-inside : {e : Expression} {x y : ℕ} {p : Path} → StandsAt e x p y → x ≤ size e → y ≤ size e
stands-inside S.done h = h
stands-inside {e} (S.next {z = z} {a = a} f l s) h = stands-inside s (omega (arith, labelled-within 1 e z a l))

pub final-inside : (e : Expression) (x : ℕ) → Final e x → x ≤ size e
final-inside e x (inl f) = omega (arith, f.0)
final-inside e x (inr f) = omega (arith, last_within 1 e x f)

pub follow-inside : (e : Expression) (x y : ℕ) → FollowFrom e x y → x ≤ size e
follow-inside e zero y f = omega arith
follow-inside e (suc x) y f = omega (arith, follow-from-within 1 e (suc x) y f)

-- Reading one label more.
stands-next : {e : Expression} {x y : ℕ} {p : Path} (z : ℕ) (a : Label) → StandsAt e x p y → FollowFrom e y z → Labelled 1 e z a
    → StandsAt e x (p ++ (a ∷ [])) z
stands-next z a S.done f l = S.next f l S.done
stands-next z a (S.next g k s) f l = S.next g k (stands-next z a s f l)

-- One list more at the end of a word.

pub followed-next : (t : List ℕ) (s : ℕ) (w : Word) (v : ℕ) → followed t s (w ++ (v ∷ [])) ≡ slice_index t (16 * followed t s w + v)
unfolding followed
followed-next t s [] v = refl
followed-next t s (u ∷ w) v = followed-next t (slice_index t (16 * s + u)) w v

pub spells-next : {lists : ℕ → Language} {w : Word} {p : Path} (v : ℕ) (u : Path) → Spells lists w p → lists v u
    → Spells lists (w ++ (v ∷ [])) (p ++ u)
spells-next v u W.nothing l = W.name u [] (sym (append-nil u)) l W.nothing
spells-next v u (W.name t r e k s) l = W.name t (r ++ u) (ap (λ p. p ++ u) e ∙ append_assoc t r u) k (spells-next v u s l)

-- A front part of the path reaches the state q, and the rest is read from the start of the list v to its place x.
pub record Reading (J : Job) (R : Rewritten) (p : Path) (q v x : ℕ) : Type 0 where
  pub front : Path
  pub rest : Path
  pub whole : p ≡ front ++ rest
  pub reached : ReachesState J R front q
  pub stands : StandsAt (list_at J.lists v) 0 rest x

-- The path reaches the cover place of the number n.
pub data Held (J : Job) (R : Rewritten) (p : Path) (n : ℕ) : Type 0 where
  alone : (q : ℕ) → n ≡ offsets J.lists * q → ReachesState J R p q → Held J R p n
  within : (q v x : ℕ) → v < length J.lists → n ≡ numbered J.lists q v (suc x) → Reading J R p q v (suc x) → Held J R p n

module _ (J : Job) (R : Rewritten) where
  pub reading-occurrence : (p : Path) (q v x : ℕ) → Reading J R p q v (suc x) ↔ ReachesOccurrence J R p q v x
  reading-occurrence p q v x = (
    λ r. (r.front, r.rest, r.whole, r.reached, (standing-exactly (list_at J.lists v) r.rest (suc x)).1 r.stands),
    λ (f, r, e, h, s).
        record { front = f; rest = r; whole = e; reached = h; stands = (standing-exactly (list_at J.lists v) r (suc x)).0 s },
  )

  pub reading-inside : {p : Path} {q v x : ℕ} → Reading J R p q v (suc x) → x < size (list_at J.lists v)
  reading-inside r = omega (arith, stands-inside r.stands (omega arith))

  -- The start of a list is read by no label.
  pub reading-start : {p : Path} {q v : ℕ} → ReachesState J R p q → Reading J R p q v 0
  reading-start {p} h = record { front = p; rest = []; whole = sym (append-nil p); reached = h; stands = S.done }

  pub reading-moves : {p : Path} {q v x : ℕ} (z : ℕ) (a : Label) → Reading J R p q v x → FollowFrom (list_at J.lists v) x z
      → Labelled 1 (list_at J.lists v) z a → Reading J R (p ++ (a ∷ [])) q v z
  reading-moves z a r c d =
      record {
        front = r.front;
        rest = r.rest ++ (a ∷ []);
        whole = ap (λ p. p ++ (a ∷ [])) r.whole ∙ append_assoc r.front r.rest (a ∷ []);
        reached = r.reached;
        stands = stands-next z a r.stands c d;
      }

  pub reading-ends : {p : Path} {q v x : ℕ} → v < length J.lists → Reading J R p q v x → Final (list_at J.lists v) x
      → ReachesState J R p (next_state R q v)
  reading-ends {p} {q} {v} {x} l r final =
      let (w, b, s, g) = r.reached in
      let path = (path-exactly (list_at J.lists v) r.rest).1 (x, r.stands, final) in
      let spelled = subst (SpelledBy J (w ++ (v ∷ []))) (sym r.whole) (spells-next v r.rest s (l, path)) in
      (w ++ (v ∷ []), spells-word J spelled, spelled, followed-next R.table 0 w v ∙ ap (λ n. next_state R n v) g)

  -- The number of a place tells the place.

  pub held-state : {p : Path} {q : ℕ} → Held J R p (offsets J.lists * q) → ReachesState J R p q
  held-state {p} {q} (alone r e h) = subst (ReachesState J R p) (sym (alone-unique J.lists q r e)) h
  held-state {p} {q} (within r v x l e h) = absurd (alone-apart J.lists q r v x l (reading-inside h) e)

  pub held-reading : {p : Path} (q v x : ℕ) → v < length J.lists → x ≤ size (list_at J.lists v) → Held J R p (numbered J.lists q v x)
      → Reading J R p q v x
  held-reading {p} q v zero l k h = reading-start (held-state (subst (Held J R p) (add-zero (offsets J.lists * q)) h))
  held-reading {p} q v (suc x) l k (alone r e h) = absurd (alone-apart J.lists r q v x l (omega arith) (sym e))
  held-reading {p} q v (suc x) l k (within r u y i e h) =
      let (a, b, c) = occurrence-number-unique J.lists r q u v y x i l (reading-inside h) (omega arith) (sym e) in
      subst (λ n. Reading J R p n v (suc x)) a (subst (λ n. Reading J R p r n (suc x)) b (subst (λ n. Reading J R p r u (suc n)) c h))
