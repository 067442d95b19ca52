-- The marks after a part (Build), byte by byte; and what they leave as it is.
use Rattle.std.specs.Prelude.{ℕ, ◌+◌, ◌≤◌, ◌<◌, Bool, true, false, List, [], ◌∷◌, ◌≡◌, eqb, length, take, drop, get_or}
use Rattle.std.proofs.Math.Path.{refl}
use Rattle.std.proofs.Common.{sym, ap, ◌∙◌, add-one, drop_of_length-le}
use Rattle.std.proofs.Math.Seq.{drop-cons}
use borrow.Author.Tests.{eq-eqb, ne_eqb, eqb-true}
use Rattle.theory.specs.Expression.{star, optional}
use Rattle.theory.specs.Places.{Member}
use Rattle.theory.specs.Automaton.{link}
use Rattle.syntax.specs.Byte.{Bytes, asterisk, question}
use Rattle.syntax.specs.Grammar.{Tree}
use Rattle.syntax.specs.Parser.{parsed, suffixes}
use Rattle.syntax.specs.Limits.{balance, nesting, leaves}
use Rattle.syntax.specs.NestingLaws.{level}
use Rattle.syntax.specs.Link.{take_link}
use Rattle.syntax.specs.Build.{marked}

module _ (lasts firsts : ℕ) (s : Bytes) (at : ℕ) (n : Bool) (t : List ℕ) where
  pub marked-star : at < length s → get_or s at 0 ≡ asterisk
      → marked lasts firsts (drop (at + 1) s) true (link lasts firsts 0 t) ≡ marked lasts firsts (drop at s) n t
  unfolding marked
  marked-star h e = rw (add-one, drop-cons s at 0 h, marked, eq-eqb (get_or s at 0) asterisk e, marked)

  pub marked-question : at < length s → (get_or s at 0 ≡ asterisk → ⊥) → get_or s at 0 ≡ question
      → marked lasts firsts (drop (at + 1) s) true t ≡ marked lasts firsts (drop at s) n t
  unfolding marked
  marked-question h d e =
      rw (add-one, drop-cons s at 0 h, marked, ne_eqb (get_or s at 0) asterisk d, marked, eq-eqb (get_or s at 0) question e, marked)

  pub marked_other : at < length s → (get_or s at 0 ≡ asterisk → ⊥) → (get_or s at 0 ≡ question → ⊥)
      → marked lasts firsts (drop at s) n t ≡ record { nullable = n; follow = t; rest = drop at s }
  unfolding marked
  marked_other h d e =
      rw (drop-cons s at 0 h, marked, ne_eqb (get_or s at 0) asterisk d, marked, ne_eqb (get_or s at 0) question e, marked)

  pub marked-end : length s ≤ at → marked lasts firsts (drop at s) n t ≡ record { nullable = n; follow = t; rest = drop at s }
  unfolding marked
  marked-end h = rw (drop_of_length-le s h) refl

-- The marks leave the entries before all of the last places as they are.
pub take-marked : (lasts firsts k : ℕ) (w : Bytes) (n : Bool) (t : List ℕ) → ((x : ℕ) → Member x lasts → k ≤ x)
    → take k (marked lasts firsts w n t).follow ≡ take k t
unfolding marked
take-marked lasts firsts k [] n t h = refl
take-marked lasts firsts k (b ∷ s) n t h =
    go (eqb b asterisk) refl (eqb b question) refl
    (take-marked lasts firsts k s true (link lasts firsts 0 t) h ∙ take_link lasts firsts k t h)
    (take-marked lasts firsts k s true t h)
  where
    go : (x : Bool) → eqb b asterisk ≡ x → (y : Bool) → eqb b question ≡ y
        → take k (marked lasts firsts s true (link lasts firsts 0 t)).follow ≡ take k t
        → take k (marked lasts firsts s true t).follow ≡ take k t
        → take k (marked lasts firsts (b ∷ s) n t).follow ≡ take k t
    go true e y f p q = rw (e, marked) p
    go false e true f p q = rw (e, marked, f, marked) q
    go false e false f p q = rw (e, marked, f, marked) refl

-- The parser reads the marks in w after the tree u, which leaves `rest`: neither the leaves nor the nesting change.
pub record After (u : Tree) (w rest : Bytes) : Type 0 where
  pub tree : Tree
  pub read : suffixes u w ≡ parsed tree rest
  pub same : leaves tree ≡ leaves u
  pub nests : (n : ℕ) → nesting n w ≡ nesting n rest

pub marked-read : (lasts firsts : ℕ) (w : Bytes) (n : Bool) (t : List ℕ) (u : Tree) → After u w (marked lasts firsts w n t).rest
unfolding marked suffixes leaves balance
marked-read lasts firsts [] n t u = record { tree = u; read = refl; same = refl; nests = λ d. refl }
marked-read lasts firsts (b ∷ s) n t u =
    go (eqb b asterisk) refl (eqb b question) refl (marked-read lasts firsts s true (link lasts firsts 0 t) (star u))
    (marked-read lasts firsts s true t (optional u))
  where
    kept : (m : ℕ) → b ≡ m → ((d : ℕ) → balance d m ≡ d) → (rest : Bytes) → ((d : ℕ) → nesting d s ≡ nesting d rest)
        → (d : ℕ) → nesting d (b ∷ s) ≡ nesting d rest
    kept m e k rest h d = level d b s (ap (balance d) e ∙ k d) ∙ h d

    go : (x : Bool) → eqb b asterisk ≡ x → (y : Bool) → eqb b question ≡ y
        → After (star u) s (marked lasts firsts s true (link lasts firsts 0 t)).rest
        → After (optional u) s (marked lasts firsts s true t).rest
        → After u (b ∷ s) (marked lasts firsts (b ∷ s) n t).rest
    go true e y f p q =
        rw (e, marked)
        (record {
          tree = p.tree;
          read = rw (e, suffixes) p.read;
          same = p.same;
          nests = kept asterisk (eqb-true b asterisk e) (λ d. refl) _ p.nests;
        })
    go false e true f p q =
        rw (e, marked, f, marked)
        (record {
          tree = q.tree;
          read = rw (e, suffixes, f, suffixes) q.read;
          same = q.same;
          nests = kept question (eqb-true b question f) (λ d. refl) _ q.nests;
        })
    go false e false f p q =
        rw (e, marked, f, marked) (record { tree = u; read = rw (e, suffixes, f, suffixes); same = refl; nests = λ d. refl })

pub suffixes-after : (u t : Tree) (w rest : Bytes) → suffixes u w ≡ parsed t rest
    → (leaves t ≡ leaves u) × ((n : ℕ) → nesting n w ≡ nesting n rest)
suffixes-after u t w rest e =
    let a = marked-read 0 0 w true [] u in
    let same : a.tree ≡ t = cc in
    let end : (marked 0 0 w true []).rest ≡ rest = cc in
    (ap leaves (sym same) ∙ a.same, λ n. a.nests n ∙ ap (nesting n) end)
