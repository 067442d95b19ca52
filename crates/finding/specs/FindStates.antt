-- What Find answers from the states (Find): where all standings and all states were found, the counts, the table, the flags and the first
-- word are the greatest rewriting of the job's query, as document 01 has it, before states are merged (FindsUnmerged).
use Rattle.std.specs.Prelude.{◌≡◌, ℕ, ◌<◌, ◌≤◌, true, false, ◌⊎◌, ◌↔◌, List, map, length, slice_index}
use Rattle.std.proofs.lemmas.Bool.{false≢true}
use Rattle.std.proofs.Common.{inl, ◌∙◌, arith}
use Rattle.std.proofs.Math.Logic.{inr}
use Rattle.std.proofs.Math.Logic.Iff
use Rattle.std.proofs.Math.Option.{some, none}
use Rattle.std.proofs.Math.Path.{sym, ap, subst}
use Rattle.std.proofs.Math.ListN.{length-map}
use Rattle.theory.specs.Path.{Below, Before}
use Rattle.theory.specs.PathOrder.{compared, before-transitive}
use Rattle.theory.specs.Word.{Word}
use Rattle.theory.specs.Job.{Job, WellFormed, IsWord}
use Rattle.theory.specs.Rewriting.{SameState, Accepted, AcceptedWord}
use Rattle.theory.specs.Places.{one}
use Rattle.theory.specs.Automaton.{glushkov}
use Rattle.theory.specs.Exploration.{Entry}
use Rattle.theory.specs.Explored.{value_at, word_at, Explored}
use Rattle.theory.specs.DistinctWords.{reached-value}
use Rattle.finding.specs.Standings.{values}
use Rattle.finding.specs.States.{accepting_standings, state_accepts, first_accepted}
use Rattle.finding.specs.Find.{row_width, rows, flag, Rewriting}
use Rattle.finding.specs.Finds.{CountsStandings, followed, FindsUnmerged}
use Rattle.finding.specs.Numbers.{length-values, value-at, values-start}
use Rattle.finding.specs.Numbering.{Numbering}
use Rattle.finding.specs.ImageTable.{job_images, length-job_images}
use Rattle.finding.specs.StatesLaws.{state_from, state-run, job_states, state_of, same-state, state-accepts}
use Rattle.finding.specs.Table.{length-rows, rows-unused, flag-value, flag-exactly, get_or-flags, followed-state}
use Rattle.finding.specs.FirstAccepted.{first_accepted-some, first_accepted-none}

-- The answer, of the states l.
abbrev pub rewriting : List (List ℕ) → ℕ → ℕ → List (Entry ℕ) → Rewriting
rewriting images m accepting l =
    record {
      standings = m;
      states = length l;
      table = rows images m (values l) (values l);
      flags = map (λ X. flag (state_accepts accepting X)) (values l);
      first = first_accepted accepting l;
    }

module _ (J : Job) (formed : WellFormed J) (fits : length J.lists ≤ row_width) (found : List ℕ)
    (N : Numbering (glushkov J.query) J.labels found) (l : List (Entry ℕ))
    (x : Explored (job_states J found) l) where
  images-fit : length (job_images J found) ≤ row_width
  images-fit = rw (length-job_images J found) fits

  -- The number at which the table, followed by the word, ends.
  end : Word → ℕ
  end w = followed (rows (job_images J found) (length found) (values l) (values l)) 0 w

  over-lists : {w : Word} → IsWord J w → Below (length (job_images J found)) w
  over-lists {w} b = subst (λ k. Below k w) (sym (length-job_images J found)) b

  -- It is the number of the word's state.
  ends : (w : Word) → IsWord J w → (end w < length l) × (value_at (job_states J found) l (end w) ≡ state_of J found w)
  unfolding end
  ends w b =
      let (h, e) = values-start x in
      let (g, d) = followed-state (job_images J found) (length found) l x images-fit 0 w h (over-lists b) in
      (rw (length-values l) at g, sym (value-at x (end w) g) ∙ d ∙ ap (λ X. state_from (job_images J found) (length found) X w) e)

  -- A word that leads to the value at a place ends there.
  ends_at : (s : ℕ) (w : Word) → s < length l → IsWord J w → state_of J found w ≡ value_at (job_states J found) l s → end w ≡ s
  ends_at s w h b e = let (g, d) = ends w b in x.distinct (end w) s g h (d ∙ e)

  -- The word of a number.
  word_of : ℕ → Word
  word_of s = word_at (job_states J found) l s

  word_below : (s : ℕ) → s < length l → IsWord J (word_of s)
  unfolding word_of
  word_below s h = subst (λ k. Below k (word_of s)) (length-job_images J found) (x.words s h).0

  word-state : (s : ℕ) → s < length l → state_of J found (word_of s) ≡ value_at (job_states J found) l s
  unfolding word_of
  word-state s h =
      reached-value (job_states J found) (state_of J found) (state-run (job_images J found) (length found) (one 0))
      (x.words s h)

  -- The word of the number at which a word ends comes no later.
  word-least : (w : Word) → IsWord J w → (word_of (end w) ≡ w) ⊎ Before (word_of (end w)) w
  unfolding word_of
  word-least w b =
      let (g, d) = ends w b in
      x.least (end w) w g (over-lists b, state-run (job_images J found) (length found) (one 0) w ∙ ap some (sym d))

  ends-together : (v w : Word) → IsWord J v → IsWord J w → (end v ≡ end w) ↔ SameState J v w
  ends-together v w b c =
      let (g, d) = ends v b in
      let (h, e) = ends w c in (
        λ o. (same-state J formed found N v w).0 (sym d ∙ ap (value_at (job_states J found) l) o ∙ e),
        λ o. ends_at (end w) v h b ((same-state J formed found N v w).1 o ∙ sym e),
      )

  -- The numbers of the accepting standings.
  accepting : ℕ
  accepting = accepting_standings (glushkov J.query) found

  -- The state at which a word ends accepts exactly when the word is accepted.
  end-accepts : (w : Word) → IsWord J w
      → (state_accepts accepting (value_at (job_states J found) l (end w)) ≡ true) ↔ Accepted J w
  unfolding accepting
  end-accepts w b = rw (ends w b).1 (state-accepts J formed found N w)

  flag-accepts : (w : Word) → IsWord J w
      → (slice_index (map (λ X. flag (state_accepts accepting X)) (values l)) (end w) ≡ 1) ↔ Accepted J w
  flag-accepts w b =
      let g : end w < length (values l) = rw (length-values l) (ends w b).0 in
      rw (get_or-flags accepting (values l) (end w) g, value-at x (end w) g)
      (Iff.trans (flag-exactly (state_accepts accepting (value_at (job_states J found) l (end w)))) (end-accepts w b))

  flag-values : (s : ℕ) → s < length l
      → (slice_index (map (λ X. flag (state_accepts accepting X)) (values l)) s ≡ 0)
      ⊎ (slice_index (map (λ X. flag (state_accepts accepting X)) (values l)) s ≡ 1)
  flag-values s h =
      rw (get_or-flags accepting (values l) s (omega (arith, length-values l)))
      (flag-value (state_accepts accepting (slice_index (values l) s)))

  -- The word of the first accepting state is accepted, and no accepted word comes before it.
  module _ (s : ℕ) (h : s < length l)
      (accepted : state_accepts accepting (value_at (job_states J found) l s) ≡ true)
      (earlier : (t : ℕ) → t < s → state_accepts accepting (value_at (job_states J found) l t) ≡ false) where
    word-accepted : AcceptedWord J (word_of s)
    unfolding accepting
    word-accepted = (word_below s h, (state-accepts J formed found N (word_of s)).0 (rw (word-state s h) accepted))

    word_first : (v : Word) → AcceptedWord J v → (word_of s ≡ v) ⊎ Before (word_of s) v
    unfolding word_of
    word_first v (b, a) = side (compared s (end v)) (word-least v b)
      where
        side : (s ≡ end v) ⊎ ((s < end v) ⊎ (end v < s)) → (word_of (end v) ≡ v) ⊎ Before (word_of (end v)) v
            → (word_of s ≡ v) ⊎ Before (word_of s) v
        side (inl e) last = subst (λ n. (word_of n ≡ v) ⊎ Before (word_of n) v) (sym e) last
        side (inr (inl g)) (inl e) = inr (subst (Before (word_of s)) e (x.ordered s (end v) g (ends v b).0))
        side (inr (inl g)) (inr e) = inr (before-transitive (word_of s) (word_of (end v)) v (x.ordered s (end v) g (ends v b).0) e)
        side (inr (inr g)) last = absurd (false≢true (sym (earlier (end v) g) ∙ (end-accepts v b).1 a))

  first-accepted : (w : Word) → first_accepted accepting l ≡ some w
      → AcceptedWord J w × ((v : Word) → AcceptedWord J v → (w ≡ v) ⊎ Before w v)
  unfolding word_of
  first-accepted w e =
      let (s, h, t, r, earlier) = first_accepted-some accepting l _ w e in
      subst (λ u. AcceptedWord J u × ((v : Word) → AcceptedWord J v → (u ≡ v) ⊎ Before u v)) r
      (word-accepted s h t earlier, word_first s h t earlier)

  none-accepted : first_accepted accepting l ≡ none → (w : Word) → ¬ AcceptedWord J w
  none-accepted e w (b, a) =
      let no_flag = first_accepted-none accepting l _ e (end w) (ends w b).0 in
      false≢true (sym no_flag ∙ (end-accepts w b).1 a)

  pub states-finds : CountsStandings J.query J.labels (length found)
      → FindsUnmerged J (rewriting (job_images J found) (length found) (accepting_standings (glushkov J.query) found) l)
  unfolding end accepting
  states-finds counts =
      record {
        standings = counts;
        rows = omega (arith, length-rows (job_images J found) (length found) (values l) images-fit (values l), length-values l);
        unused = λ s v h k b. rows-unused (job_images J found) (length found) (values l) images-fit (values l) s v
            (omega (arith, length-values l)) (rw (length-job_images J found) k) b;
        flag-count = length-map (values l) (λ X. flag (state_accepts accepting X)) ∙ length-values l;
        flag-value = flag-values;
        within = λ w b. (ends w b).0;
        accepted = flag-accepts;
        same = ends-together;
        word = word_of;
        reached = λ s h. (word_below s h, ends_at s (word_of s) h (word_below s h) (word-state s h));
        least = λ s w h b e. subst (λ n. (word_of n ≡ w) ⊎ Before (word_of n) w) e (word-least w b);
        ordered = λ s t h g. unfold word_of in x.ordered s t h g;
        first = first-accepted;
        nothing = none-accepted;
      }
