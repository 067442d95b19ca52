-- What the reader reads is derived: a front part of the text that the grammar derives, at every level.
use Rattle.std.specs.Prelude.{ℕ, zero, suc, Bool, true, false, [], ◌∷◌, ◌++◌, ◌≡◌, refl, eqb}
use Rattle.std.proofs.Common.{append_assoc, sym, ◌∙◌, ap, eqb-true}
use Rattle.std.proofs.Math.Option.{Option, some, none}
use Rattle.theory.specs.Expression.{empty, label, alternative, sequence, star, optional}
use Rattle.syntax.specs.Byte.{Bytes, dot, bar, asterisk, question, opening, closing, name_byte}
use Rattle.syntax.specs.Name.{is_name}
use Rattle.syntax.specs.NameLaws.{is-name-exactly}
use Rattle.syntax.specs.Grammar.{Tree, Level, alternatives, sequences, factors, Derives, one-sequence, more-sequences, one-factor, more-factors, name, unit, group, starred, optioned}
use Rattle.syntax.specs.Parser
use Rattle.syntax.specs.Parser.{Parsed, failed, parsed, run, past_run, past_mark, suffixes, named, suffixed, closed, joined}
use Rattle.syntax.specs.ParserShapes.{read, chain, factor, never, past-mark}

-- What is read off a text: a front part of it that the grammar derives, and the rest.
pub record Front (level : Level) (s : Bytes) (t : Tree) (r : Bytes) : Type 0 where
  pub front : Bytes
  pub text : s ≡ front ++ r
  pub derives : Derives level front t

-- The ways in which a chain is read.
data Chained (m : ℕ) (join : Tree → Tree → Tree) (more : Bytes → Parsed) (first : Parsed) (t : Tree) (r : Bytes) : Type 0 where
  last : first ≡ parsed t r → Chained m join more first t r
  goes_on : (l : Tree) (v : Bytes) (q : Tree) → first ≡ parsed l (m ∷ v) → more v ≡ parsed q r → t ≡ join l q → Chained m join more first t r

chained : (m : ℕ) (join : Tree → Tree → Tree) (more : Bytes → Parsed) (first : Parsed) (t : Tree) (r : Bytes)
    → chain m join more first ≡ parsed t r → Chained m join more first t r
unfolding joined
chained m join more failed t r e = last e
chained m join more (parsed l s) t r e = at_mark (past_mark m s) refl e
  where
    after : (v : Bytes) → s ≡ m ∷ v → (p : Parsed) → more v ≡ p → joined join l p ≡ parsed t r → Chained m join more (parsed l s) t r
    after v h failed n x = never x
    after v h (parsed q w) n x = goes_on l v q (ap (λ z. parsed l z) h) (cc) (cc)

    at_mark : (o : Option Bytes) → past_mark m s ≡ o
        → (elim o as (λ z. Parsed) [ none ↦ parsed l s | some v ↦ joined join l (more v) ]) ≡ parsed t r → Chained m join more (parsed l s) t r
    at_mark none h x = last x
    at_mark (some v) h x = after v (past-mark m s v h) (more v) refl x

-- What is read is derived: first a chain, the marks after a factor and a name, then each level.
chain-sound : (inner outer : Level) (m : ℕ) (join : Tree → Tree → Tree)
    → ((u : Bytes) (t : Tree) → Derives inner u t → Derives outer u t)
    → ((u v : Bytes) (l q : Tree) → Derives inner u l → Derives outer v q → Derives outer (u ++ (m ∷ v)) (join l q))
    → (more : Bytes → Parsed) (first : Parsed) (s : Bytes) → ((t : Tree) (r : Bytes) → first ≡ parsed t r → Front inner s t r)
    → ((v : Bytes) (t : Tree) (r : Bytes) → more v ≡ parsed t r → Front outer v t r)
    → (t : Tree) (r : Bytes) → chain m join more first ≡ parsed t r → Front outer s t r
chain-sound inner outer m join one joint more first s at_first at_more t r e = go (chained m join more first t r e)
  where
    go : Chained m join more first t r → Front outer s t r
    go (last h) =
        let f = at_first t r h in
        record { front = f.front; text = f.text; derives = one f.front t f.derives }
    go (goes_on l v q h n x) =
        let f = at_first l (m ∷ v) h in
        let g = at_more v q r n in
        record {
          front = f.front ++ (m ∷ g.front);
          text = f.text ∙ rw (append_assoc f.front (m ∷ g.front) r) (ap (λ z. f.front ++ (m ∷ z)) g.text);
          derives = rw x (joint f.front g.front l q f.derives g.derives);
        }

suffixes-sound : (t : Tree) (s u : Bytes) (v : Tree) (r : Bytes) → Derives factors u t → suffixes t s ≡ parsed v r
    → Front factors (u ++ s) v r
unfolding suffixes
suffixes-sound t [] u v r d e = let same : t ≡ v = cc in record { front = u; text = cc; derives = rw same at d }
suffixes-sound t (b ∷ s) u v r d e = first (eqb b asterisk) refl (suffixes-sound (star t) s) (suffixes-sound (optional t) s) e
  where
    Sound : Tree → Type 0
    Sound w = (u : Bytes) (v : Tree) (r : Bytes) → Derives factors u w → suffixes w s ≡ parsed v r → Front factors (u ++ s) v r

    second : (q : Bool) → eqb b question ≡ q → Sound (optional t)
        → (elim q as (λ z. Parsed) [ true ↦ suffixes (optional t) s | false ↦ parsed t (b ∷ s) ]) ≡ parsed v r → Front factors (u ++ (b ∷ s)) v r
    second true h again x =
        rw (append_assoc u (b ∷ []) s)
        at (again (u ++ (b ∷ [])) v r (optioned u (ap (λ z. u ++ (z ∷ [])) (eqb-true b question h)) d) x)
    second false h again x =
        let same : t ≡ v = cc in
        let past : b ∷ s ≡ r = cc in
        record { front = u; text = ap (λ z. u ++ z) past; derives = rw same at d }

    first : (q : Bool) → eqb b asterisk ≡ q → Sound (star t) → Sound (optional t)
        → (elim q as (λ z. Parsed) [
          | true ↦ suffixes (star t) s
          | false ↦ elim (eqb b question) [ true ↦ suffixes (optional t) s | false ↦ parsed t (b ∷ s) ]
        ]) ≡ parsed v r → Front factors (u ++ (b ∷ s)) v r
    first true h again other x =
        rw (append_assoc u (b ∷ []) s)
        at (again (u ++ (b ∷ [])) v r (starred u (ap (λ z. u ++ (z ∷ [])) (eqb-true b asterisk h)) d) x)
    first false h again other x = second (eqb b question) refl other x

suffixed-sound : (p : Parsed) (s : Bytes) → ((t : Tree) (r : Bytes) → p ≡ parsed t r → Front factors s t r)
    → (t : Tree) (r : Bytes) → suffixed p ≡ parsed t r → Front factors s t r
unfolding suffixed
suffixed-sound failed s at_first t r e = never e
suffixed-sound (parsed l w) s at_first t r e =
    let f = at_first l w refl in
    rw f.text (suffixes-sound l w f.front t r f.derives e)

pub run_past : (s : Bytes) → s ≡ run s ++ past_run s
unfolding run past_run
run_past [] = refl
run_past (b ∷ s) = go (name_byte b) refl (run_past s)
  where
    go : (q : Bool) → name_byte b ≡ q → s ≡ run s ++ past_run s → b ∷ s ≡ run (b ∷ s) ++ past_run (b ∷ s)
    go true e h = rw (e, run, past_run) (ap (λ z. b ∷ z) h)
    go false e h = rw (e, run, past_run)

named-sound : (s : Bytes) (t : Tree) (r : Bytes) → named s ≡ parsed t r → Front factors s t r
unfolding named
named-sound s t r e = go (is_name (run s)) refl e
  where
    go : (q : Bool) → is_name (run s) ≡ q → (elim q as (λ z. Parsed) [ true ↦ parsed (label (run s)) (past_run s) | false ↦ failed ]) ≡ parsed t r
        → Front factors s t r
    go true h x =
        let same : label (run s) ≡ t = cc in
        let past : past_run s ≡ r = cc in
        record { front = run s; text = run_past s ∙ ap (λ z. run s ++ z) past; derives = rw same at (name ((is-name-exactly (run s)).0 h)) }
    go false h x = never x

closed-sound : (p : Parsed) (t : Tree) (r : Bytes) → closed p ≡ parsed t r → p ≡ parsed t (closing ∷ r)
unfolding closed
closed-sound failed t r e = never e
closed-sound (parsed l s) t r e = go (past_mark closing s) refl e
  where
    go : (o : Option Bytes) → past_mark closing s ≡ o → (elim o as (λ z. Parsed) [ none ↦ failed | some v ↦ parsed l v ]) ≡ parsed t r
        → parsed l s ≡ parsed t (closing ∷ r)
    go none h x = never x
    go (some v) h x = cc (past-mark closing s v h)

factor-sound : (s : Bytes) (inside : Bytes → Parsed) → ((v : Bytes) (t : Tree) (r : Bytes) → inside v ≡ parsed t r → Front alternatives v t r)
    → (t : Tree) (r : Bytes) → factor inside s ≡ parsed t r → Front factors s t r
factor-sound s inside at-inside t r e = outer (past_mark opening s) refl e
  where
    grouped : (v : Bytes) → s ≡ opening ∷ v → (t : Tree) (r : Bytes) → closed (inside v) ≡ parsed t r → Front factors s t r
    grouped v h t r x =
        let f = at-inside v t (closing ∷ r) (closed-sound (inside v) t r x) in
        record {
          front = opening ∷ (f.front ++ (closing ∷ []));
          text = h ∙ ap (λ z. opening ∷ z) (f.text ∙ sym (append_assoc f.front (closing ∷ []) r));
          derives = group f.front refl f.derives;
        }

    inner : (v : Bytes) → s ≡ opening ∷ v → (o : Option Bytes) → past_mark closing v ≡ o
        → (elim o as (λ z. Parsed) [ none ↦ suffixed (closed (inside v)) | some w ↦ suffixes empty w ]) ≡ parsed t r → Front factors s t r
    inner v h none p x = suffixed-sound (closed (inside v)) s (grouped v h) t r x
    inner v h (some w) p x =
        let e : s ≡ opening ∷ (closing ∷ w) = h ∙ ap (λ z. opening ∷ z) (past-mark closing v w p) in
        rw e (suffixes-sound empty w (opening ∷ (closing ∷ [])) t r (unit refl) x)

    outer : (o : Option Bytes) → past_mark opening s ≡ o
        → (elim o as (λ z. Parsed) [
          | none ↦ suffixed (named s)
          | some v ↦ elim (past_mark closing v) [ none ↦ suffixed (closed (inside v)) | some w ↦ suffixes empty w ]
        ]) ≡ parsed t r → Front factors s t r
    outer none h x = suffixed-sound (named s) s (named-sound s) t r x
    outer (some v) h x = inner v (past-mark opening s v h) (past_mark closing v) refl x

pub read-sound : (level : Level) (k : ℕ) (s : Bytes) (t : Tree) (r : Bytes) → read level k s ≡ parsed t r → Front level s t r
unfolding Parser.alternatives
read-sound alternatives zero s t r e = never e
read-sound sequences zero s t r e = never e
read-sound factors zero s t r e = never e
read-sound alternatives (suc k) s t r e =
    chain-sound sequences alternatives bar alternative (λ u t d. one-sequence d) (λ u v l q d c. more-sequences u v refl d c)
    (Parser.alternatives k) (Parser.sequences k s) s (read-sound sequences k s) (read-sound alternatives k) t r e
read-sound sequences (suc k) s t r e =
    chain-sound factors sequences dot sequence (λ u t d. one-factor d) (λ u v l q d c. more-factors u v refl d c)
    (Parser.sequences k) (Parser.factors k s) s (read-sound factors k s) (read-sound sequences k) t r e
read-sound factors (suc k) s t r e = factor-sound s (Parser.alternatives k) (read-sound alternatives k) t r e
