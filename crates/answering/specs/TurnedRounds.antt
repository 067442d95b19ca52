-- The rounds of the search by sets of recordings (TurnedRun): all words are taken, again and again until nothing is new in any.
use Rattle.std.specs.Prelude.{◌≡◌, ℕ, ◌+◌, ◌*◌, ◌<◌, ◌≤◌, Bool, true, false, ◌⊎◌, List, length, slice_index, slice_index_or}
use Rattle.std.proofs.lemmas.Bool.{false≢true}
use Rattle.std.proofs.Common.{inl, inr, sym, ap, subst, subst₂, arith}
use Rattle.std.specs.Prelude.{refl}
use Rattle.std.proofs.Math.Decide.{ℕ_discrete}
use Rattle.theory.specs.Places.{Member}
use Rattle.theory.specs.PlacesLaws.{member-none}
use Rattle.answering.specs.Pairs.{Has, place, put, room, has-put-there, has-put-new}
use Rattle.answering.specs.Ends.{EndsFit}
use Rattle.answering.specs.EndSteps.{Turnable}
use Rattle.answering.specs.TurnedRun.{EndFound, begins, onward, TurnedRoom, TurnedGoing, WordTaken, RoundTaken, TurnedBlank}
use Rattle.answering.specs.TurnedRun.{TurnedFound}
use Rattle.answering.specs.TurnedRunLaws.{has-at}

-- The first n words are taken: more is done, or all was in them.
pub record WordsTaken (rows : List ℕ) (k states N : ℕ) (ends : List ℕ) (n : ℕ) (sets done sets' done' : List ℕ) (r : Bool) : Type 0 where
  pub lent : TurnedRoom states N sets' done'
  pub going : (start : ℕ) → TurnedGoing rows k states N ends start sets done → TurnedGoing rows k states N ends start sets' done'
  pub fewer : room done' ≤ room done
  pub more : r ≡ true → room done' < room done
  pub settled : r ≡ false → (i : ℕ) → i < n → slice_index sets' i ≡ slice_index done' i

pub words-none : (rows : List ℕ) (k : ℕ) {states N : ℕ} (ends : List ℕ) {sets done : List ℕ} → TurnedRoom states N sets done
    → WordsTaken rows k states N ends 0 sets done sets done false
words-none rows k ends r = record {
  lent = r;
  going = λ start g. g;
  fewer = omega arith;
  more = λ e. absurd (false≢true e);
  settled = λ e i l. absurd (omega arith);
}

module _ {rows : List ℕ} {k states N : ℕ} {ends : List ℕ} {n : ℕ} {sets done sets' done' sets'' done'' : List ℕ} {b r : Bool}
    (g : WordsTaken rows k states N ends n sets done sets' done' b)
    (w : WordTaken rows k states N ends n sets' done' sets'' done'' r) where
  -- There was something new in the next word ..
  pub words_more : r ≡ true → WordsTaken rows k states N ends (n + 1) sets done sets'' done'' true
  words_more e = record {
    lent = w.lent;
    going = λ start h. w.going start (g.going start h);
    fewer = omega (arith, g.fewer, w.more e);
    more = λ q. omega (arith, g.fewer, w.more e);
    settled = λ q. absurd (false≢true (sym q));
  }

  -- .. or nothing.
  pub words_same : r ≡ false → WordsTaken rows k states N ends (n + 1) sets done sets'' done'' b
  words_same e =
      let (p, q, same) = w.nothing e in
      subst₂ (λ s d. WordsTaken rows k states N ends (n + 1) sets done s d b) (sym p) (sym q) (record {
        lent = g.lent;
        going = g.going;
        fewer = g.fewer;
        more = g.more;
        settled = λ f i l. go same f i l (ℕ_discrete i n);
      })
    where
      go : slice_index_or sets' n 0 ≡ slice_index done' n → b ≡ false → (i : ℕ) → i < n + 1 → Dec (i ≡ n) → slice_index sets' i ≡ slice_index done' i
      go same f i l (yes q) = rw q same
      go same f i l (no q) = g.settled f i (omega arith)

pub words-all : {rows : List ℕ} {k states N : ℕ} {ends : List ℕ} {n : ℕ} {sets done sets' done' : List ℕ} {r : Bool} → n ≡ 4 * states
    → WordsTaken rows k states N ends n sets done sets' done' r → RoundTaken rows k states N ends sets done sets' done' r
words-all e g = record { lent = g.lent; going = g.going; more = g.more; settled = λ f i l. g.settled f i (omega arith) }

-- The rounds from a start; after the last, all words are done.
pub record RoundsTaken (rows : List ℕ) (k states N : ℕ) (ends : List ℕ) (start : ℕ) (sets done : List ℕ) (more : Bool) : Type 0 where
  pub lent : TurnedRoom states N sets done
  pub going : TurnedGoing rows k states N ends start sets done
  pub settled : more ≡ false → (i : ℕ) → i < 4 * states → slice_index sets i ≡ slice_index done i

-- The start in state 0 is reached, and nothing else.
module _ {rows : List ℕ} {k states N : ℕ} {ends : List ℕ} {start : ℕ} {sets done : List ℕ} (t : Turnable rows k states)
    (fit : EndsFit k N ends) (z : TurnedBlank states sets done) (h : start < N) where
  start_small : start < 256
  start_small = let l = fit.few in omega arith

  pub start-place : place 4 0 start < length sets
  start-place =
      let l = start_small in
      let n = t.some-states in
      let m = z.sets-fit in
      omega arith

  start-only : (s y : ℕ) → y < 256 → Has 4 (put 4 sets 0 start) s y → (s ≡ 0) × (y ≡ start)
  start-only s y c m = go (has-put-there 4 sets 0 start start_small start-place s y c m)
    where
      go : Has 4 sets s y ⊎ ((s ≡ 0) × (y ≡ start)) → (s ≡ 0) × (y ≡ start)
      go (inl n) = absurd (member-none _ (subst (Member _) (z.no-sets (place 4 s y)) ((has-at sets s y refl refl).0 n)))
      go (inr e) = e

  pub rounds-begin : {sets' : List ℕ} → sets' ≡ put 4 sets 0 start → length sets' ≡ length sets
      → RoundsTaken rows k states N ends start sets' done true
  rounds-begin e long = rw e record {
    lent = record {
      sets-fit = let l = z.sets-fit in omega (arith, ap length e);
      done-fit = z.done-fit;
      below = λ s y l c m. let (p, v) = start-only s y c m in omega arith;
      within = λ i b l m. absurd (idle i b m);
    };
    going = record {
      sound = λ s y l c m. let (p, v) = start-only s y c m in subst₂ (EndFound rows k states N ends start) (sym v) (sym p) begins;
      begins = h;
      first = has-put-new 4 sets 0 start start_small start-place;
      closed = λ s x l c m. absurd (idle (place 4 s x) _ ((has-at done s x refl refl).0 m));
    };
    settled = λ f. absurd (false≢true (sym f));
  }
    where
      idle : (i b : ℕ) → ¬ Member b (slice_index done i)
      idle i b m = member-none b (subst (Member b) (z.no-done i) m)

-- One round more.

pub rounds-more : {rows : List ℕ} {k states N : ℕ} {ends : List ℕ} {start : ℕ} {sets done sets' done' : List ℕ} {b r : Bool}
    → RoundsTaken rows k states N ends start sets done b → RoundTaken rows k states N ends sets done sets' done' r
    → RoundsTaken rows k states N ends start sets' done' r
rounds-more {start = start} g a = record { lent = a.lent; going = a.going start g.going; settled = a.settled }

-- All that is reached is done, so that all that is found is reached.
module _ {rows : List ℕ} {k states N : ℕ} {ends : List ℕ} {start : ℕ} {sets done : List ℕ} {more : Bool} (t : Turnable rows k states)
    (fit : EndsFit k N ends) (g : RoundsTaken rows k states N ends start sets done more) (e : more ≡ false) where
  all_done : (s x : ℕ) → s < states → x < 256 → Has 4 sets s x → Has 4 done s x
  all_done s x l c m =
      (has-at done s x refl refl).1 (subst (Member _) (g.settled e (place 4 s x) (omega arith)) ((has-at sets s x refl refl).0 m))

  found-there : {y s : ℕ} → EndFound rows k states N ends start y s → (s < states) × (y < N) × Has 4 sets s y
  found-there begins = (t.some-states, g.going.begins, g.going.first)
  found-there (onward {x = x} {s = s} {a = a} {y = y} {t = u} f i d c l q v) =
      let (j, n, m) = found-there f in
      let w = t.within s a u i d l q in
      let o = g.going.closed s x i n (all_done s x i (let z = fit.few in omega arith) m) a y u d c l q v in
      (w, g.lent.below u y w c o, o)

  pub rounds-done : TurnedFound rows k states N ends start sets
  rounds-done = record { below = g.lent.below; sound = g.going.sound; complete = λ s y f. found-there f }
