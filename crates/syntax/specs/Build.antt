-- What building Glushkov's automaton from an expression's text promises. Building finds on its way whether the text is fine: what is read
-- without fault is in the grammar and within the limits, and a text that is both is read without fault.
use Rattle.std.specs.Prelude.{ℕ, suc, max, ◌+◌, ◌*◌, ◌-◌, ◌≤◌, ◌<◌, Bool, true, false, List, [], ◌∷◌, ◌++◌, ◌≡◌, Option, Some, None, MatchOption, eqb, length, take, drop, replicate}
use Rattle.theory.specs.Expression.{Expression}
use Rattle.theory.specs.Standing.{size}
use Rattle.theory.specs.Places.{Member, none}
use Rattle.theory.specs.Automaton.{nullable, first, last, link, follows, glushkov}
use Rattle.syntax.specs.declared.build.Automaton.{Automaton as Answer}
use Rattle.syntax.specs.declared.parts.Part.{Part}
use Rattle.syntax.specs.Part.{ended}
use Rattle.syntax.specs.Byte.{Bytes, asterisk, question}
use Rattle.syntax.specs.Grammar.{Tree}
use Rattle.syntax.specs.Parser.{Parsed, parsed}
use Rattle.syntax.specs.Limits.{most_nesting, nesting, leaves}
use Rattle.syntax.specs.Check.{Checked, fine, faulty}
use Rattle.syntax.specs.Resolve.{numbered, known}
use Rattle.syntax.specs.Splice.{splice}
use Rattle.syntax.specs.Entered.{entered}

-- The part p and the tables `follow'` and `enter'` are what Glushkov's construction makes of the expression e, its occurrences numbered
-- from k on, and of the tables `follow` and `enter`.
pub record Built (k : ℕ) (e : Expression) (follow enter : List ℕ) (p : Part) (follow' enter' : List ℕ) : Type 0 where
  pub next : p.next ≡ k + size e
  pub empty-path : p.nullable ≡ nullable e
  pub firsts : p.first.0 ≡ first k e
  pub lasts : p.last.0 ≡ last k e
  pub follow-sets : follow' ≡ splice k (follows k e) follow
  pub enter-sets : enter' ≡ entered k e 0 enter

-- The occurrences of the tree t, numbered from k on, are of known labels and below 64, and the follow table has room for them.
pub record Room (labels : List Bytes) (t : Tree) (k : ℕ) (follow : List ℕ) : Type 0 where
  pub names : known labels (leaves t) ≡ true
  pub few : k + length (leaves t) ≤ 64
  pub long : k + length (leaves t) ≤ length follow

-- The tree t has been read and built, which leaves `rest`; behind it, where d parentheses are open, no parenthesis is too deep.
pub record Read (labels : List Bytes) (s : Bytes) (k d : ℕ) (t : Tree) (rest : Bytes) (follow enter : List ℕ) (r : Part)
    (follow' enter' : List ℕ) : Type 0 where
  pub left : drop r.at s ≡ rest
  pub shallow : nesting d rest ≤ most_nesting
  pub built : Built k (numbered labels t) follow enter r follow' enter'

-- For any number of calls that is enough, what the parser f reads is read and built, where there is room and nothing is too deep.
abbrev pub Reads : (f : ℕ → Bytes → Parsed) (rank : ℕ) (labels : List Bytes) (s : Bytes) (at k d : ℕ) (follow enter : List ℕ) (r : Part)
    (follow' enter' : List ℕ) → Type 0
Reads f rank labels s at k d follow enter r follow' enter' =
    (n : ℕ) (t : Tree) (rest : Bytes) → 3 * (length s - at) + rank < n → f n (drop at s) ≡ parsed t rest → Room labels t k follow
    → nesting d (drop at s) ≤ most_nesting → Read labels s k d t rest follow enter r follow' enter'

-- Nothing that the parser f reads there has room, for any number of calls that is enough, or else a parenthesis is too deep.
pub record Unbuilt (f : ℕ → Bytes → Parsed) (rank : ℕ) (labels : List Bytes) (s : Bytes) (at k d : ℕ) (follow : List ℕ) : Type 0 where
  pub none : (n : ℕ) (t : Tree) (rest : Bytes) → 3 * (length s - at) + rank < n → f n (drop at s) ≡ parsed t rest → Room labels t k follow
      → nesting d (drop at s) ≤ most_nesting → ⊥

-- What a part tells: the parser f reads a tree up to where the part ends, whose labels are known, and no parenthesis is
-- too deep before that end.
pub record Sure (f : ℕ → Bytes → Parsed) (rank : ℕ) (labels : List Bytes) (s : Bytes) (at k d : ℕ) (r : Part) : Type 0 where
  pub tree : Tree
  pub read : (n : ℕ) → 3 * (length s - at) + rank < n → f n (drop at s) ≡ parsed tree (drop r.at s)
  pub names : known labels (leaves tree) ≡ true
  pub next : r.next ≡ k + length (leaves tree)
  pub shallow : nesting d (drop at s) ≤ max most_nesting (nesting d (drop r.at s))

-- What each of the three reading functions promises of a part, for the parser f of its level, d parentheses being open around what it
-- reads: it builds what f reads, and the part is one that f reads. It never goes back, in the text or in the numbers of places; the
-- entries of places before the part's stay as they are, and the part's last places are its own.
pub record Builds (f : ℕ → Bytes → Parsed) (rank : ℕ) (labels : List Bytes) (s : Bytes) (at k d : ℕ) (follow enter : List ℕ) (r : Part)
    (follow' enter' : List ℕ) : Type 0 where
  pub onward : at ≤ r.at
  pub counts : k ≤ r.next
  pub same-follow : length follow' ≡ length follow
  pub same-enter : length enter' ≡ length enter
  pub kept : take k follow' ≡ take k follow
  pub lasts : (x : ℕ) → Member x r.last.0 → (k ≤ x) × (x < r.next)
  pub reads : Reads f rank labels s at k d follow enter r follow' enter'
  pub within : k ≤ 64 → r.next ≤ 64
  pub sure : Sure f rank labels s at k d r

-- The lent tables `follow` and `enter` have become `follow'` and `enter'`: each is as long as it was, and the entries of the places
-- before k stay as they were.
pub record TablesKept (k : ℕ) (follow enter follow' enter' : List ℕ) : Type 0 where
  pub same-follow : length follow' ≡ length follow
  pub same-enter : length enter' ≡ length enter
  pub kept : take k follow' ≡ take k follow

-- What each of them promises: a part, or that there is none, and then what it left of the lent tables.
abbrev pub Answers : (f : ℕ → Bytes → Parsed) (rank : ℕ) (labels : List Bytes) (s : Bytes) (at k d : ℕ) (follow enter : List ℕ) (r : Option Part)
    (follow' enter' : List ℕ) → Type 0
Answers f rank labels s at k d follow enter r follow' enter' =
    MatchOption r (TablesKept k follow enter follow' enter' × Unbuilt f rank labels s at k d follow)
    (λ p. Builds f rank labels s at k d follow enter p follow' enter')

-- The marks after a part with the given last and first places: whether the part has the empty path, the follow table, and what is left
-- of the text.
pub record Marked : Type 0 where
  pub nullable : Bool
  pub follow : List ℕ
  pub rest : Bytes

unfoldable pub marked : ℕ → ℕ → Bytes → Bool → List ℕ → Marked
marked lasts firsts [] n t = record { nullable = n; follow = t; rest = [] }
marked lasts firsts (b ∷ s) n t =
    elim (eqb b asterisk) [
      | true ↦ marked lasts firsts s true (link lasts firsts 0 t)
      | false ↦ elim (eqb b question) [ true ↦ marked lasts firsts s true t | false ↦ record { nullable = n; follow = t; rest = b ∷ s } ]
    ]

-- The part r and the table `follow'` are the part p and the table `follow` after the marks behind p.
pub record Suffixed (s : Bytes) (p : Part) (follow : List ℕ) (r : Part) (follow' : List ℕ) : Type 0 where
  pub onward : p.at ≤ r.at
  pub same-follow : length follow' ≡ length follow
  pub same : r ≡ ended r.at r.nullable p
  pub marks : marked p.last.0 p.first.0 (drop p.at s) p.nullable follow
      ≡ record { nullable = r.nullable; follow = follow'; rest = drop r.at s }

-- What building gives in all: whether the text is an expression, the number of its places, the accepting ones, and both tables.
pub record Outcome : Type 0 where
  pub fine : Bool
  pub size : ℕ
  pub accepting : ℕ
  pub follow : List ℕ
  pub enter : List ℕ

-- The same, read off the code's answer and the tables that it leaves.
abbrev pub outcome : Option Answer → List ℕ → List ℕ → Outcome
outcome (Some r) follow enter = record { fine = true; size = r.size; accepting = r.accepting.0; follow = follow; enter = enter }
outcome None follow enter = record { fine = false; size = 0; accepting = none; follow = follow; enter = enter }

-- Of an expression: Glushkov's automaton, the follow table from its first entry on, and the places of each label added to the enter table.
abbrev pub automaton : Expression → List ℕ → List ℕ → Outcome
automaton e follow enter =
    record {
      fine = true;
      size = size e;
      accepting = (glushkov e).accepting;
      follow = (glushkov e).follow ++ drop (suc (size e)) follow;
      enter = entered 1 e 0 enter;
    }

-- Of a text with a fault: no place, and tables of empty sets.
abbrev pub cleared : List ℕ → List ℕ → Outcome
cleared follow enter =
    record { fine = false; size = 0; accepting = none; follow = replicate (length follow) none; enter = replicate (length enter) none }

-- What building gives where the check of the text gives c.
abbrev pub building : Checked → List ℕ → List ℕ → Outcome
building (fine e) follow enter = automaton e follow enter
building (faulty r) follow enter = cleared follow enter
