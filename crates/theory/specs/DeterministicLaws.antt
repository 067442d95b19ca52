-- Following a word in a complete table, and tables that accept the same words.
use Rattle.std.specs.Prelude.{ℕ, ◌<◌, Bool, true, false, List, [], ◌∷◌, ◌++◌, ◌↔◌, ◌≡◌, refl}
use Rattle.std.proofs.Math.Logic.Iff
use Rattle.std.proofs.Common.{sym, ap, subst, ◌∙◌}
use Rattle.theory.specs.Path.{Below, nothing, next}
use Rattle.theory.specs.PathsBelow.{below-append}
use Rattle.theory.specs.Deterministic.{Deterministic, run, Accepts, Complete, SameFrom, SameWords, Reached, Apart, Numbered, Agree}

-- Two words in a row.
pub run-append : (D : Deterministic) (q : ℕ) (u w : List ℕ) → run D q (u ++ w) ≡ run D (run D q u) w
unfolding run
run-append D q [] w = refl
run-append D q (v ∷ u) w = run-append D (D.next q v) u w

-- A word leads to a state.
pub run-within : {D : Deterministic} {q : ℕ} {w : List ℕ} → Complete D → q < D.states → Below D.symbols w → run D q w < D.states
unfolding run
run-within C h nothing = h
run-within C h (next l b) = run-within C (C.next _ _ h l) b

-- States that have the same continuations go on to such states.
pub same_next : (D : Deterministic) (q r v : ℕ) → SameFrom D q r → v < D.symbols → SameFrom D (D.next q v) (D.next r v)
unfolding run
same_next D q r v s l w b = s (v ∷ w) (next l b)

-- Two flags that are true together are equal.
flags-equal : (a b : Bool) → (a ≡ true) ↔ (b ≡ true) → a ≡ b
flags-equal true b h = sym (h.0 refl)
flags-equal false true h = h.1 refl
flags-equal false false h = refl

-- Where two tables accept the same words, a word has the same flag in both.
pub same-words-flag : {D E : Deterministic} {w : List ℕ} → SameWords D E → Below D.symbols w
    → D.accepting (run D 0 w) ≡ E.accepting (run E 0 w)
same-words-flag s b = flags-equal _ _ (s.words _ b)

pub same-words-back : {D E : Deterministic} → SameWords D E → SameWords E D
same-words-back s =
    record { symbols = sym s.symbols; words = λ w b. Iff.symm (s.words w (subst (λ k. Below k w) (sym s.symbols) b)) }

-- Their words are over the same symbols.
pub same-words-below : {D E : Deterministic} {w : List ℕ} → SameWords D E → Below D.symbols w → Below E.symbols w
same-words-below {w = w} s b = subst (λ k. Below k w) s.symbols b

pub same-words-trans : {D E F : Deterministic} → SameWords D E → SameWords E F → SameWords D F
same-words-trans s t =
    record { symbols = s.symbols ∙ t.symbols; words = λ w b. Iff.trans (s.words w b) (t.words w (same-words-below s b)) }

-- In tables that agree, a word leads to the same state.
pub agree-run : {D E : Deterministic} → Complete D → Agree D E → (q : ℕ) {w : List ℕ} → q < D.states → Below D.symbols w
    → run D q w ≡ run E q w
unfolding run
agree-run C A q h nothing = refl
agree-run {D} {E} C A q h (next {a} {p} l b) =
    agree-run C A (D.next q a) (C.next q a h l) b ∙ ap (λ r. run E r p) (A.next q a h l)

-- It is accepted in both or in none.
pub agree-accepting : {D E : Deterministic} → Complete D → Agree D E → (q : ℕ) {w : List ℕ} → q < D.states → Below D.symbols w
    → D.accepting (run D q w) ≡ E.accepting (run E q w)
agree-accepting {D} {E} C A q {w} h b = A.accepting (run D q w) (run-within C h b) ∙ ap E.accepting (agree-run C A q h b)

-- Tables that agree accept the same words.
pub agree-words : {D E : Deterministic} → Complete D → Agree D E → SameWords D E
agree-words C A =
    record {
      symbols = A.symbols;
      words = λ w b. let same = agree-accepting C A 0 C.start b in (λ t. sym same ∙ t, λ t. same ∙ t);
    }

-- Words that lead to one state of E lead to states of D with the same continuations.
pub same_end : {D E : Deterministic} {u v : List ℕ} → SameWords D E → Below D.symbols u → Below D.symbols v → run E 0 u ≡ run E 0 v
    → SameFrom D (run D 0 u) (run D 0 v)
same_end {D} {E} {u} {v} s a b e w c =
    ap D.accepting (sym (run-append D 0 u w))
    ∙ same-words-flag s (below-append a c)
    ∙ ap E.accepting (run-append E 0 u w ∙ ap (λ q. run E q w) e ∙ sym (run-append E 0 v w))
    ∙ sym (same-words-flag s (below-append b c))
    ∙ ap D.accepting (run-append D 0 v w)

-- .. so to one state, where the states of D are apart.
pub same-end-apart : {D E : Deterministic} {u v : List ℕ} → Complete D → Apart D → SameWords D E
    → Below D.symbols u → Below D.symbols v → run E 0 u ≡ run E 0 v → run D 0 u ≡ run D 0 v
same-end-apart C A s a b e = A _ _ (run-within C C.start a) (run-within C C.start b) (same_end s a b e)

-- Two words lead to one state exactly when the same continuations of them are accepted, where the states are apart.
pub end-exactly : {D : Deterministic} {u v : List ℕ} → Complete D → Apart D → Below D.symbols u → Below D.symbols v
    → (run D 0 u ≡ run D 0 v) ↔ ((w : List ℕ) → Below D.symbols w → Accepts D (u ++ w) ↔ Accepts D (v ++ w))
end-exactly {D} {u} {v} C A a b = (
  λ e w c.
      let same = ap D.accepting (run-append D 0 u w ∙ ap (λ q. run D q w) e ∙ sym (run-append D 0 v w)) in
      (λ t. sym same ∙ t, λ t. same ∙ t),
  λ s. A _ _ (run-within C C.start a) (run-within C C.start b) (λ w c.
      ap D.accepting (sym (run-append D 0 u w)) ∙ flags-equal _ _ (s w c) ∙ ap D.accepting (run-append D 0 v w)),
)

-- The states of a numbered table are reached.
pub numbered-reached : {D : Deterministic} → Numbered D → Reached D
numbered-reached N q h = (N.word q, (N.reached q h).0, (N.reached q h).1)
