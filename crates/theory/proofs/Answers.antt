-- Answers from links and from lists (demand 3, at the level of meaning). Where the lent lists are exactly the pairs of their expressions
-- on the links: what an accepted word reaches over the lists a query path reaches over the links; and where every query path is yielded,
-- the converse.
use Rattle.std.specs.Prelude.{ℕ, ◌<◌, List, [], ◌∷◌, ◌++◌, refl}
use Rattle.std.proofs.Common.{subst}
use Rattle.theory.specs.Path.{Path, nothing, next}
use Rattle.theory.specs.Word as W
use Rattle.theory.specs.Word.{Word}
use Rattle.theory.specs.Job.{Job, IsWord, SpelledBy}
use Rattle.theory.specs.Rewriting.{Complete}
use Rattle.theory.specs.Graph.{Table, Leads, stay, along, ExactPairs, EndsBelow, AnswersFromLinks, AnswersFromLists}
use Rattle.theory.proofs.GreatestRewriting.{accepted-sound}

pub leads-append : {t : Table} {p q : List ℕ} {x y z : ℕ} → Leads t p x y → Leads t q y z → Leads t (p ++ q) x z
leads-append stay k = k
leads-append (along l h) k = along l (leads-append h k)

-- A path of two parts leads through a recording between them.
pub leads-split : {t : Table} (p : List ℕ) {q : List ℕ} {x z : ℕ} → Leads t (p ++ q) x z → (y : ℕ) × Leads t p x y × Leads t q y z
leads-split [] {x = x} h = (x, stay, h)
leads-split (a ∷ p) (along l h) = let (y, f, g) = leads-split p h in (y, along l f, g)

-- Where every end is below N, a path leads from below N to below N.
pub leads-below : {N : ℕ} {t : Table} → EndsBelow N t → {p : List ℕ} {x y : ℕ} → x < N → Leads t p x y → y < N
leads-below ends b stay = b
leads-below ends b (along l h) = leads-below ends (ends _ _ _ l).1 h

module _ (J : Job) (N : ℕ) (links lists : Table) (exact : ExactPairs J N links lists) where
  -- A list word that leads from x to y over the lists spells a path that leads there over the links.
  pub spelled-links : EndsBelow N lists → {w : Word} {x y : ℕ} → IsWord J w → x < N → Leads lists w x y
      → (p : Path) × SpelledBy J w p × Leads links p x y
  spelled-links ends nothing b stay = ([], W.nothing, stay)
  spelled-links ends (next v k) b (along {x = x} {y = y} l h) =
      let (u, m, f) = (exact x _ y b v (ends _ _ _ l).1).0 l in
      let (r, s, g) = spelled-links ends k (ends _ _ _ l).1 h in
      (u ++ r, W.name u r refl m s, leads-append f g)

  -- A path that leads from x to y over the links, where a list word spells it: the word leads there over the lists.
  pub word-links : EndsBelow N links → {w : Word} {p : Path} {x y : ℕ} → SpelledBy J w p → x < N → Leads links p x y → Leads lists w x y
  word-links ends W.nothing b h = only h
    where
      only : {x y : ℕ} → Leads links [] x y → Leads lists [] x y
      only stay = stay
  word-links ends {x = x} {y = y} (W.name u r e (v, m) s) b h =
      let (z, f, g) = leads-split u (subst (λ p. Leads links p x y) e h) in
      let c : z < N = leads-below ends b f in
      along ((exact x _ z b v c).1 (u, (v, m), f)) (word-links ends {x = z} {y = y} s c g)

  -- Lists never answer more than links.
  pub lists-within-links : EndsBelow N lists → {x y : ℕ} → x < N → AnswersFromLists J lists x y → AnswersFromLinks J links x y
  lists-within-links ends b (w, (k, a), h) =
      let (p, s, f) = spelled-links ends k b h in (p, accepted-sound J w a p s, f)

  -- Where every query path is yielded, they answer the same.
  pub complete-links-within-lists : EndsBelow N links → Complete J → {x y : ℕ} → x < N → AnswersFromLinks J links x y
      → AnswersFromLists J lists x y
  complete-links-within-lists ends complete b (p, q, h) =
      let (w, a, s) = complete p q in (w, a, word-links ends s b h)
