-- The search by sets of recordings as a whole: the ends of the links are filled in, the sets of the states are found by them, and turned
-- back (Ends, TurnedRun, TurnedBack). It finds what the search over sets of states finds (SetSearchRun).
use Rattle.std.specs.Prelude.{◌≡◌, ℕ, ◌+◌, ◌-◌, ◌*◌, ◌<◌, ◌≤◌, ◌⊎◌, List, length, drop, replicate}
use Rattle.std.proofs.Common.{inl, inr, ap, sym, ◌∙◌, arith, length-drop, get_or-drop, ext_get_or}
use Rattle.std.proofs.lemmas.List.{length-replicate}
use Rattle.theory.specs.Graph.{Table}
use Rattle.answering.specs.Links.{InRange}
use Rattle.answering.specs.Pairs.{Has, zero-at}
use Rattle.answering.specs.SetSearch as S
use Rattle.answering.specs.SetSearch.{Steps, SetFound}
use Rattle.answering.specs.SetSearchRun.{SetStarting, SetAllFound}
use Rattle.answering.specs.Ends.{EndsFit, Ends, ends-below}
use Rattle.answering.specs.TurnedRun as T
use Rattle.answering.specs.TurnedRun.{EndFound, TurnedBlank, TurnedFound}
use Rattle.answering.specs.TurnedBack.{TurnedBack}

-- The ends of the links lead where the links lead.

module _ {rows : List ℕ} {k states : ℕ} {table : Table} {N : ℕ} {ends : List ℕ} {start : ℕ}
    (few : N ≤ 256) (range : InRange k N table) (e : Ends table k N ends) (b : start < N) where
  end-links : {y s : ℕ} → EndFound rows k states N ends start y s → (y < N) × SetFound (Steps rows k 1) k 1 states table N start y s
  end-links T.begins = (b, S.begins)
  end-links (T.onward {x = x} {a = a} {y = y} f i c m l o h) =
      let (d, g) = end-links f in
      let n = ends-below ends range e a x y c d m h in
      (n, S.onward g i ((e a x y c d m).0 h) c n l o)

  link-ends : {y s : ℕ} → SetFound (Steps rows k 1) k 1 states table N start y s → (y < N) × EndFound rows k states N ends start y s
  link-ends S.begins = (b, T.begins)
  link-ends (S.onward {x = x} {a = a} {y = y} f i link c d l o) =
      let (n, g) = link-ends f in
      let m : y < 256 = omega arith in
      (d, T.onward g i c m l o ((e a x y c n m).1 link))

-- The local sets are empty to begin with.
pub turned-blank : {states : ℕ} (n : ℕ) → 4 * states ≤ n → TurnedBlank states (replicate n 0) (replicate n 0)
turned-blank n l =
    let e = length-replicate {A = ℕ} n 0 in
    record { sets-fit = omega arith; done-fit = omega arith; no-sets = zero-at n; no-done = zero-at n }

-- Turned back, they are all pairs found.
module _ {rows : List ℕ} {k states : ℕ} {table : Table} {N : ℕ} {ends : List ℕ} {start : ℕ} {sets before after : List ℕ}
    (range : InRange k N table) (fit : EndsFit k N ends) (e : Ends table k N ends) (b : SetStarting 1 k states N start before)
    (found : TurnedFound rows k states N ends start sets) (back : TurnedBack states N sets before after) where
  sound : (y s : ℕ) → y < N → s < 64 → Has 1 before y s ⊎ ((s < states) × (y < 256) × Has 4 sets s y)
      → SetFound (Steps rows k 1) k 1 states table N start y s
  sound y s h l (inl m) = absurd (b.unreached y s h l m)
  sound y s h l (inr (i, d, m)) = (end-links fit.few range e b.fits.begins (found.sound s y i d m)).1

  complete : (y s : ℕ) → SetFound (Steps rows k 1) k 1 states table N start y s → Has 1 after y s
  complete y s g =
      let (i, d, m) = found.complete s y (link-ends fit.few range e b.fits.begins g).1 in
      back.there s y i (omega (arith, fit.few)) m

  beyond : length after ≡ length before → drop (1 * N) after ≡ drop (1 * N) before
  beyond same =
      ext_get_or 0 (drop (1 * N) after) (drop (1 * N) before)
      (length-drop (1 * N) after ∙ ap (λ n. n - 1 * N) same ∙ sym (length-drop (1 * N) before))
      (λ i l. get_or-drop (1 * N) after i 0 ∙ back.others (1 * N + i) (omega arith) ∙ sym (get_or-drop (1 * N) before i 0))

  pub turned-all-found : length after ≡ length before → SetAllFound 1 (Steps rows k 1) k states table N start before after
  turned-all-found same = record {
    sound = λ y s h l m. sound y s h l (back.only y s l m);
    complete = λ sorted. complete;
    beyond = beyond same;
  }
