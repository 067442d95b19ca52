-- The answers of the verdict's functions are the definition's (VerdictTold): the first missed pair of those held and its path, and the four
-- ways through the verdict.
use Rattle.std.specs.Prelude.{◌≡◌, ℕ, suc, ◌+◌, ◌-◌, ◌*◌, ◌<◌, ◌≤◌, List, reverse, length, take, drop, ◌≢◌, slice_index, Option as Maybe, Some, None, Result, Ok, Err}
use Rattle.std.proofs.Math.Option.{Option, some, none}
use Rattle.std.proofs.Math.Path.{refl, sym, ap, subst}
use Rattle.std.proofs.Common.{◌∙◌, arith, length-drop, ext_get_or, get_or-drop, le-leb}
use Rattle.std.proofs.lemmas.List.{length-reverse}
use Rattle.std.proofs.lemmas.Bool.{lt-leb}
use Rattle.theory.specs.Path.{Path}
use Rattle.theory.specs.Automaton.{Automaton}
use Rattle.theory.specs.Exploration.{Entry, all, over}
use Rattle.theory.specs.Explored.{entry_at}
use Rattle.syntax.specs.declared.refusal.Refusal.TheVariants.{TooManyPlaces, TooManyPairs}
use Rattle.places.specs.Words.{number_of}
use Rattle.finding.specs.Rewritten.{Rewritten}
use Rattle.verdict.specs.Cover.{width, places, yielding}
use Rattle.verdict.specs.Pairs.{Pair, pairs, first_missed}
use Rattle.verdict.specs.Tables.{automaton_at, automata_of, occupied, rewritten}
use Rattle.verdict.specs.TablesLaws.{width-exactly}
use Rattle.verdict.specs.Coded.{Sided}
use Rattle.verdict.specs.PairsTold.{Lent, Lending, PairsCase, SearchTold}
use Rattle.verdict.specs.PathTold.{DepthTold, PathWritten}
use Rattle.verdict.specs.Missing.{gap, Yields, FirstAt, none-missed, some-missed}
use Rattle.verdict.specs.Verdict.{refused, verdict}
use Rattle.verdict.specs.VerdictTold.{told_of, PathAfter, Fit, verdict_of, VerdictTold, Placed, JudgedAs, Judged}
use Rattle.syntax.specs.declared.refusal.Refusal.{Refusal}
use Rattle.verdict.specs.declared.verdict.Verdict.{Verdict as Told}
use Rattle.verdict.specs.declared.verdict.Verdict.TheVariants.{Complete, Missed}

-- Lists that agree from d on.
pub same_rest : (d : ℕ) (l m : List ℕ) → length l ≡ length m → ((n : ℕ) → d ≤ n → slice_index l n ≡ slice_index m n) → drop d l ≡ drop d m
same_rest d l m e h =
    ext_get_or 0 (drop d l) (drop d m) (length-drop d l ∙ ap (λ n. n - d) e ∙ sym (length-drop d m))
    (λ i k. get_or-drop d l i 0 ∙ h (d + i) (omega arith) ∙ sym (get_or-drop d m i 0))

-- The pairs held are judged.

module _ (states : ℕ) (flags : List ℕ) (w c ends n : ℕ) (space path yields : List ℕ) (i : ℕ)
    (yielded : Yields flags (gap c w) states yields) (first : FirstAt n space ends (number_of yields) i) where
  first_of : (A : Automaton) (table : List ℕ) (lists : List Automaton) → A.accepting ≡ ends → width lists ≡ w
      → FirstAt n space A.accepting (yielding (rewritten states table flags) (gap c (width lists)) states) i
  first_of A table lists e f =
      subst (λ x. FirstAt n space x (yielding (rewritten states table flags) (gap c (width lists)) states) i) (sym e)
      (subst (λ x. FirstAt n space ends x i) (yielded.told states table ∙ ap (λ x. yielding (rewritten states table flags) (gap c x) states) (sym f)) first)

  pub judged-none : i ≡ n → Judged states flags w c ends n space path (Complete n) path
  judged-none q =
      record {
        told = λ room A table lists e f L side S l held count.
            subst (JudgedAs n path (Complete n) path)
            (sym (none-missed A (rewritten states table flags) lists c L (subst (λ z. Sided c z L) (sym f) side) S space l held n count i (first_of A table lists e f) q)) (refl, refl);
        beyond = λ j k. refl;
      }

  pub judged-some : (d : ℕ) (path' : List ℕ) → (i ≢ n) → DepthTold space i d → PathWritten space i d path path'
      → Judged states flags w c ends n space path (Missed d n) path'
  judged-some d path' q deep written =
      record {
        told = λ room A table lists e f L side S l held count.
            let b : i < length l = omega (arith, first.inside, count) in
            let t : List ℕ = reverse (entry_at S l i).trail in
            let depth : d ≡ length (entry_at S l i).trail = deep.told S l held.trails b in
            let size : d ≡ length t = depth ∙ sym (length-reverse (entry_at S l i).trail) in
            subst (JudgedAs n path (Missed d n) path')
            (sym (some-missed A (rewritten states table flags) lists c L (subst (λ z. Sided c z L) (sym f) side) S space l held n count i (first_of A table lists e f) (omega (arith, first.inside)))) (
              ap (λ x. Missed x n) size,
              subst (λ x. take x path' ≡ t) size (written.told (omega (arith, deep.few, first.inside)) S l held.trails b depth),
              subst (λ x. drop x path' ≡ drop x path) size (same_rest d path' path written.size written.rest),
            );
        beyond = λ j k. written.rest j (omega (arith, deep.few, first.inside));
      }

-- The verdict.

module _ (D : Lent) (flags : List ℕ) (most allowance : ℕ) where
  abbrev lists : List Automaton
  lists = automata_of D.follow D.enter D.sizes D.accepting D.lists

  abbrev query : Automaton
  query = automaton_at D.follow D.enter D.sizes D.accepting 0

  abbrev rewriting : Rewritten
  rewriting = rewritten D.states D.table flags

  fit-width : Fit D flags → width lists ≡ suc (occupied D.sizes 0 D.lists)
  fit-width f = width-exactly D.follow D.enter D.sizes D.accepting D.lists f.counted f.follow-room

  fit-places : Fit D flags → places rewriting lists ≡ D.states * suc (occupied D.sizes 0 D.lists)
  unfolding places
  fit-places f = ap (λ z. D.states * z) (fit-width f)

  fit-lending : Fit D flags → D.states * suc (occupied D.sizes 0 D.lists) ≤ 1024 → Lending D
  fit-lending f few =
      record {
        proper =
            record {
              ready =
                  record {
                    counted = f.counted;
                    follow-room = f.follow-room;
                    enter-room = f.enter-room;
                    accepting-room = f.accepting-room;
                    table-room = f.table-room;
                    wide = refl;
                    few-places = few;
                  };
              sets = f.sets;
              some-state = f.some-state;
              next = f.next;
            };
        few-labels = f.few-labels;
        query = f.query;
      }

  -- Nothing is promised.
  pub told-unfit : (space path : List ℕ) (r : Result Told Refusal) → ¬ Fit D flags → VerdictTold D flags most allowance space path r space path
  told-unfit space path r h =
      record {
        answer = λ f. absurd (h f);
        written = λ f. absurd (h f);
        space-beyond = λ j k. refl;
        path-beyond = λ j k. refl;
      }

  -- There are too many places.
  pub told-places : (space path : List ℕ) → Placed D.states D.lists D.sizes most 0
      → VerdictTold D flags most allowance space path (Err TooManyPlaces) space path
  unfolding verdict
  told-places space path p =
      record {
        answer = λ f m a s t. sym (ap told_of (is f m));
        written = λ f m a s t. subst (PathAfter path path) (sym (is f m)) refl;
        space-beyond = λ j k. refl;
        path-beyond = λ j k. refl;
      }
    where
      is : Fit D flags → most ≤ 1024 → verdict_of D flags most allowance ≡ refused TooManyPlaces
      is f m = rw (lt-leb (places rewriting lists) most (omega (arith, fit-places f, p.many f.counted m refl)), verdict)

  module _ (w : ℕ) (placed : Placed D.states D.lists D.sizes most w) (some-width : 0 < w) where
    few-places : Fit D flags → D.states * suc (occupied D.sizes 0 D.lists) ≤ most
    few-places f = subst (λ z. D.states * z ≤ most) (placed.wide some-width) (placed.few some-width).0

    within : Fit D flags → places rewriting lists ≤ most
    within f = omega (arith, fit-places f, few-places f)

    lending : Fit D flags → Lending D
    lending f = fit-lending f (omega (arith, few-places f, (placed.few some-width).1))

    -- There are too many pairs.
    pub told-pairs : (c : ℕ) (space path : List ℕ) (r : Maybe ℕ) (space' : List ℕ) → SearchTold D c allowance space r space' → r ≡ None
        → VerdictTold D flags most allowance space path (Err TooManyPairs) space' path
    unfolding verdict PairsCase
    told-pairs c space path r space' t e =
        record {
          answer = λ f m a s k. sym (ap told_of (is f a s));
          written = λ f m a s k. subst (PathAfter path path) (sym (is f a s)) refl;
          space-beyond = t.told.beyond;
          path-beyond = λ j k. refl;
        }
      where
        is : Fit D flags → allowance ≤ 4096 → 18 * allowance ≤ length space → verdict_of D flags most allowance ≡ refused TooManyPairs
        is f a s =
            let o : pairs query D.labels rewriting lists allowance ≡ over =
            subst (PairsCase D t.layout flags allowance space') e (t.told.told (lending f) a s flags) in
            rw (le-leb (places rewriting lists) most (within f), verdict, o)

    -- All pairs are found, and judged.
    pub told-judged : (c : ℕ) (space path : List ℕ) (r : Maybe ℕ) (space' : List ℕ) (m : ℕ) (answer : Told) (path' : List ℕ)
        → SearchTold D c allowance space r space' → r ≡ Some m
        → Judged D.states flags w c (slice_index D.accepting 0) m space' path answer path'
        → VerdictTold D flags most allowance space path (Ok answer) space' path'
    unfolding verdict PairsCase
    told-judged c space path r space' m answer path' t e j =
        record {
          answer = λ f x a s k. (final f a s k).0;
          written = λ f x a s k. (final f a s k).1;
          space-beyond = t.told.beyond;
          path-beyond = λ n k. j.beyond n (omega (arith, (t.told.few m e).0));
        }
      where
        final : Fit D flags → allowance ≤ 4096 → 18 * allowance ≤ length space → allowance ≤ length path
            → (Ok answer ≡ told_of (verdict_of D flags most allowance)) × PathAfter path path' (verdict_of D flags most allowance)
        final f a s k =
            let (l, o, held, count) = subst (PairsCase D t.layout flags allowance space') e (t.told.told (lending f) a s flags) in
            go l o count (first_missed query rewriting lists l) refl
            (j.told (omega (arith, (t.told.few m e).0)) query D.table lists refl (fit-width f ∙ sym (placed.wide some-width))
            t.layout (subst (λ z. Sided c z t.layout) (sym (placed.wide some-width)) t.sided) _ l held count)
          where
            go : (l : List (Entry Pair)) → pairs query D.labels rewriting lists allowance ≡ all l → length l ≡ m
                → (p : Option Path) → first_missed query rewriting lists l ≡ p → JudgedAs m path answer path' p
                → (Ok answer ≡ told_of (verdict_of D flags most allowance)) × PathAfter path path' (verdict_of D flags most allowance)
            go l o count none q x =
                rw (le-leb (places rewriting lists) most (within f), verdict, o, q) (ap Ok (x.0 ∙ ap Complete (sym count)), x.1)
            go l o count (some p) q x =
                rw (le-leb (places rewriting lists) most (within f), verdict, o, q)
                (ap Ok (x.0 ∙ ap (Missed (length p)) (sym count)), (x.1, x.2))
