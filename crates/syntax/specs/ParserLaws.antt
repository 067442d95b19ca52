-- The reader against the grammar: once there are enough calls, more change nothing, and a text has a tree exactly if the reader gives it.
use Rattle.std.specs.Prelude.{ℕ, zero, suc, ◌+◌, ◌*◌, ◌<◌, [], ◌∷◌, ◌↔◌, ◌≡◌, refl, length}
use Rattle.std.proofs.Common.{append-nil, ◌∙◌, ap, arith, length-append}
use Rattle.std.proofs.Math.Option.{Option, some, none}
use Rattle.theory.specs.Expression.{empty, alternative, sequence}
use Rattle.syntax.specs.Byte.{Bytes, bar, dot, opening, closing}
use Rattle.syntax.specs.Grammar.{Tree, Level, alternatives, sequences, factors, Derives}
use Rattle.syntax.specs.Parser
use Rattle.syntax.specs.Parser.{Parsed, failed, parsed, past_mark, suffixes, suffixed, closed, joined, calls, parse}
use Rattle.syntax.specs.ParserShapes.{read, rank, chain, factor, past-mark}
use Rattle.syntax.specs.ParserSound.{Front, read-sound}
use Rattle.syntax.specs.ParserComplete.{read-complete}

-- What is left after a part and a mark is shorter.
shorter : {level : Level} {s : Bytes} {t : Tree} {m : ℕ} {v : Bytes} → Front level s t (m ∷ v) → length v < length s
shorter {m} {v} f = omega (arith, ap length f.text, length-append f.front (m ∷ v))

chain_same : (m : ℕ) (join : Tree → Tree → Tree) (more again : Bytes → Parsed) (first : Parsed)
    → ((l : Tree) (v : Bytes) → first ≡ parsed l (m ∷ v) → more v ≡ again v) → chain m join more first ≡ chain m join again first
chain_same m join more again failed h = refl
chain_same m join more again (parsed l r) h = go (past_mark m r) refl
  where
    go : (o : Option Bytes) → past_mark m r ≡ o → chain m join more (parsed l r) ≡ chain m join again (parsed l r)
    go none p = rw (p, chain)
    go (some v) p = rw (p, chain) (ap (joined join l) (h l v (ap (λ z. parsed l z) (past-mark m r v p))))

factor-same : (inside again : Bytes → Parsed) (s : Bytes) → ((v : Bytes) → s ≡ opening ∷ v → inside v ≡ again v)
    → factor inside s ≡ factor again s
factor-same inside again s h = go (past_mark opening s) refl
  where
    go : (o : Option Bytes) → past_mark opening s ≡ o → factor inside s ≡ factor again s
    go none p = rw (p, factor)
    go (some v) p =
        rw (p, factor)
        (ap (λ z. elim (past_mark closing v) as (λ y. Parsed) [ none ↦ suffixed (closed z) | some r ↦ suffixes empty r ])
        (h v (past-mark opening s v p)))

pub enough-calls : (level : Level) (k m : ℕ) (s : Bytes) → 3 * length s + rank level < k → 3 * length s + rank level < m
    → read level k s ≡ read level m s
unfolding Parser.alternatives
enough-calls alternatives zero m s h g = absurd (omega arith)
enough-calls alternatives (suc k) zero s h g = absurd (omega arith)
enough-calls alternatives (suc k) (suc m) s h g =
    chain_same bar alternative (Parser.alternatives k) (Parser.alternatives m) (Parser.sequences k s)
    (λ l v e. let n = shorter (read-sound sequences k s l (bar ∷ v) e) in enough-calls alternatives k m v (omega arith) (omega arith))
    ∙ ap (chain bar alternative (Parser.alternatives m)) (enough-calls sequences k m s (omega arith) (omega arith))
enough-calls sequences zero m s h g = absurd (omega arith)
enough-calls sequences (suc k) zero s h g = absurd (omega arith)
enough-calls sequences (suc k) (suc m) s h g =
    chain_same dot sequence (Parser.sequences k) (Parser.sequences m) (Parser.factors k s)
    (λ l v e. let n = shorter (read-sound factors k s l (dot ∷ v) e) in enough-calls sequences k m v (omega arith) (omega arith))
    ∙ ap (chain dot sequence (Parser.sequences m)) (enough-calls factors k m s (omega arith) (omega arith))
enough-calls factors zero m s h g = absurd (omega arith)
enough-calls factors (suc k) zero s h g = absurd (omega arith)
enough-calls factors (suc k) (suc m) s h g =
    factor-same (Parser.alternatives k) (Parser.alternatives m) s
    (λ v e. enough-calls alternatives k m v (omega (arith, ap length e)) (omega (arith, ap length e)))

-- A text has a tree where the reader reads all of it.
whole : (p : Parsed) (t : Tree)
    → (elim p as (λ z. Option Tree) [ failed ↦ none | parsed u r ↦ elim r [ [] ↦ some u | b ∷ v ↦ none ] ]) ≡ some t → p ≡ parsed t []
whole failed t e = cc
whole (parsed u []) t e = cc
whole (parsed u (b ∷ v)) t e = cc

pub parse-sound : (s : Bytes) (t : Tree) → parse s ≡ some t → Derives alternatives s t
unfolding parse
parse-sound s t e =
    let f = read-sound alternatives (calls (length s)) s t [] (whole (Parser.alternatives (calls (length s)) s) t e) in
    rw (f.text ∙ append-nil f.front) f.derives

pub parse-complete : (s : Bytes) (t : Tree) → Derives alternatives s t → parse s ≡ some t
unfolding parse past_mark
parse-complete s t d =
    let e = rw (append-nil s) at (read-complete d [] (tt, tt, refl, refl) (calls (length s)) (omega arith)) in
    rw (e, parse)

pub parse-exactly : (s : Bytes) (t : Tree) → (parse s ≡ some t) ↔ Derives alternatives s t
parse-exactly s t = (parse-sound s t, parse-complete s t)

pub derives-unique : {s : Bytes} {t u : Tree} → Derives alternatives s t → Derives alternatives s u → t ≡ u
derives-unique {s} {t} {u} d c = cc (parse-complete s t d, parse-complete s u c)

pub parse-none : (s : Bytes) → (parse s ≡ none) ↔ ((t : Tree) → ¬ Derives alternatives s t)
parse-none s = (λ e t d. let z : ◌≡◌ {A = ℕ} 0 1 = cc (parse-complete s t d) in omega arith, λ no-tree. go no-tree (parse s) refl)
  where
    go : ((t : Tree) → ¬ Derives alternatives s t) → (o : Option Tree) → parse s ≡ o → parse s ≡ none
    go no-tree none e = e
    go no-tree (some t) e = absurd (no-tree t (parse-sound s t e))
