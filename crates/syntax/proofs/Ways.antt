-- The ways through the two functions that read parts joined by a mark: on each, what the functions called promise gives what the function
-- itself promises. Alternatives and sequences share theirs, over the mark.
use Prim.Native.Nat.{ℕ, zero, suc, ◌+◌, ◌*◌, ◌-◌, ◌≤◌, ◌<◌}
use mathlib.Core.Bool.{true}
use mathlib.Core.List.{List, ◌++◌}
use mathlib.Core.Logic.{◌⊎◌, inl, inr, ⊎_elim}
use mathlib.Core.Option.{Option, some, none}
use mathlib.Core.Path.{◌≡◌, refl, sym, ap, ◌∙◌}
use native.Mathlib.Omega.{arith}
use lib.ListN.{length, take, drop, length-append}
use lib.Seq.{take-take}
use Rattle.theory.specs.Expression.{alternative, sequence}
use Rattle.theory.specs.Standing.{size}
use Rattle.theory.specs.Places.{Member, when}
use Rattle.theory.specs.PlacesLaws.{member_union, member-when}
use Rattle.theory.specs.Automaton.{link}
use Rattle.theory.proofs.AutomatonLaws.{length-link}
use Rattle.syntax.specs.declared.cursor.Cursor.{Cursor}
use Rattle.syntax.specs.declared.parts.Part.{Part}
use Rattle.syntax.specs.Byte.{Bytes, dot, bar}
use Rattle.syntax.specs.Grammar.{Tree}
use Rattle.syntax.specs.Parser.{Parsed, failed, parsed, past_mark, joined, alternatives, sequences, factors}
use Rattle.syntax.specs.Unread.{after, level, alternatives-level, sequences-level}
use Rattle.syntax.specs.Limits.{most_nesting, balance, nesting, leaves}
use Rattle.syntax.specs.LimitsLaws.{leaves-size, known_both}
use Rattle.syntax.specs.Resolve.{numbered, known}
use Rattle.syntax.specs.Part.{either, both}
use Rattle.syntax.specs.Link.{take_link}
use Rattle.syntax.specs.PlaceLaws.{Past, past-level}
use Rattle.syntax.specs.Build.{Built, Room, Read, Reads, Unbuilt, Sure, Builds}
use Rattle.syntax.specs.BuildLaws.{built-alternative, built-sequence}

-- How f reads the tree t: g reads it alone, or g reads its left part and f, past the mark m, its right part.
data Joins (f g : Bytes → Parsed) (join : Tree → Tree → Tree) (m : ℕ) (s : Bytes) (t : Tree) (rest : Bytes) : Type 0 where
  alone : g s ≡ parsed t rest → past_mark m rest ≡ none → Joins f g join m s t rest
  more : (l u : Tree) (r v : Bytes) → g s ≡ parsed l r → past_mark m r ≡ some v → f v ≡ parsed u rest → t ≡ join l u → Joins f g join m s t rest

joins : (f g : Bytes → Parsed) (join : Tree → Tree → Tree) (m : ℕ) (s : Bytes) (t : Tree) (rest : Bytes) (p : Parsed) → g s ≡ p
    → level join m f p ≡ parsed t rest → Joins f g join m s t rest
unfolding joined
joins f g join m s t rest failed e h = let z : ◌≡◌ {A = ℕ} 0 1 = cc in absurd (omega arith)
joins f g join m s t rest (parsed l r) e h = go (past_mark m r) refl h
  where
    right : (v : Bytes) → past_mark m r ≡ some v → (q : Parsed) → f v ≡ q → joined join l q ≡ parsed t rest → Joins f g join m s t rest
    right v d failed e' h = let z : ◌≡◌ {A = ℕ} 0 1 = cc in absurd (omega arith)
    right v d (parsed u w) e' h =
        let same : join l u ≡ t = cc in
        let end : w ≡ rest = cc in
        more l u r v e d (e' ∙ ap (parsed u) end) (sym same)

    go : (o : Option Bytes) → past_mark m r ≡ o → after join f l r o ≡ parsed t rest → Joins f g join m s t rest
    go none d h = let end : r ≡ rest = cc in alone (e ∙ h) (ap (past_mark m) (sym end) ∙ d)
    go (some v) d h = right v d (f v) refl h

pub some_same : (v w : Bytes) → some v ≡ some w → v ≡ w
some_same v w e = cc

pub never : {A : Type 0} (o : Option Bytes) (v : Bytes) → o ≡ none → o ≡ some v → A
never o v d e = let z : ◌≡◌ {A = ℕ} 0 1 = cc in absurd (omega arith)

-- f reads parts joined by the mark m, which neither opens nor closes; g reads one part.
record Chain (f g : ℕ → Bytes → Parsed) (join : Tree → Tree → Tree) (m : ℕ) : Type 0 where
  pub levels : (n : ℕ) (s : Bytes) → f (suc n) s ≡ level join m (f n) (g n s)
  pub sums : (l u : Tree) → leaves (join l u) ≡ leaves l ++ leaves u
  pub keeps : (n : ℕ) → balance n m ≡ n

module _ (f g : ℕ → Bytes → Parsed) (join : Tree → Tree → Tree) (m rank : ℕ) (chain : Chain f g join m) (labels : List Bytes) (s : Bytes)
    (at k d : ℕ) (follow : List ℕ) where
  joined_length : (t l u : Tree) → t ≡ join l u → length (leaves t) ≡ length (leaves l) + length (leaves u)
  joined_length t l u e = ap (λ x. length (leaves x)) e ∙ ap length (chain.sums l u) ∙ length-append (leaves l) (leaves u)

  joined-known : (t l u : Tree) → t ≡ join l u → known labels (leaves t) ≡ true
      → (known labels (leaves l) ≡ true) × (known labels (leaves u) ≡ true)
  joined-known t l u e h = (known_both labels (leaves l) (leaves u)).0 (rw (e, chain.sums l u) at h)

  room-left : (t l u : Tree) → t ≡ join l u → Room labels t k follow → Room labels l k follow
  room-left t l u e room =
      let n = joined_length t l u e in
      record { names = (joined-known t l u e room.names).0; few = omega (arith, room.few); long = omega (arith, room.long) }

  joined-cases : (n : ℕ) (t : Tree) (rest : Bytes) → f (suc n) (drop at s) ≡ parsed t rest → Joins (f n) (g n) join m (drop at s) t rest
  joined-cases n t rest e =
      joins (f n) (g n) join m (drop at s) t rest (g n (drop at s)) refl (sym (chain.levels n (drop at s)) ∙ e)

  -- Where no first part can be built, none can be of the whole.
  way-none : Unbuilt g rank labels s at k d follow → Unbuilt f (suc rank) labels s at k d follow
  way-none left = record { none = none_read }
    where
      cases : (n : ℕ) (t : Tree) (rest : Bytes) → 3 * (length s - at) + rank < n → Room labels t k follow → nesting d (drop at s) ≤ most_nesting
          → Joins (f n) (g n) join m (drop at s) t rest → ⊥
      cases n t rest enough room shallow (alone e none_after) = left.none n t rest enough e room shallow
      cases n t rest enough room shallow (more l u w v e mark h same) = left.none n l w enough e (room-left t l u same room) shallow

      none_read : (n : ℕ) (t : Tree) (rest : Bytes) → 3 * (length s - at) + suc rank < n → f n (drop at s) ≡ parsed t rest → Room labels t k follow
          → nesting d (drop at s) ≤ most_nesting → ⊥
      none_read zero t rest enough e room shallow = omega arith
      none_read (suc n) t rest enough e room shallow = cases n t rest (omega arith) room shallow (joined-cases n t rest e)

module _ (f g : ℕ → Bytes → Parsed) (join : Tree → Tree → Tree) (m rank : ℕ) (chain : Chain f g join m) (labels : List Bytes) (s : Bytes)
    (at k d : ℕ) (follow enter : List ℕ) (p : Part) (f₁ e₁ : List ℕ) (left : Builds g rank labels s at k d follow enter p f₁ e₁) where
  -- No mark comes after the first part, which is the whole.
  way-alone : past_mark m (drop p.at s) ≡ none → Builds f (suc rank) labels s at k d follow enter p f₁ e₁
  way-alone no-mark =
      record {
        onward = left.onward;
        counts = left.counts;
        same-follow = left.same-follow;
        same-enter = left.same-enter;
        kept = left.kept;
        lasts = left.lasts;
        reads = reads;
        within = left.within;
        sure = sure left.sure;
      }
    where
      cases : (n : ℕ) (t : Tree) (rest : Bytes) → 3 * (length s - at) + rank < n → Room labels t k follow → nesting d (drop at s) ≤ most_nesting
          → Joins (f n) (g n) join m (drop at s) t rest → Read labels s k d t rest follow enter p f₁ e₁
      cases n t rest enough room shallow (alone e none_after) = left.reads n t rest enough e room shallow
      cases n t rest enough room shallow (more l u w v e mark h same) =
          let done = left.reads n l w enough e (room-left f g join m rank chain labels s at k d follow t l u same room) shallow in
          never (past_mark m (drop p.at s)) v no-mark (ap (past_mark m) done.left ∙ mark)

      reads : Reads f (suc rank) labels s at k d follow enter p f₁ e₁
      reads zero t rest enough e room shallow = absurd (omega arith)
      reads (suc n) t rest enough e room shallow =
          cases n t rest (omega arith) room shallow (joined-cases f g join m rank chain labels s at k d follow n t rest e)

      sure : Sure g rank labels s at k d p → Sure f (suc rank) labels s at k d p
      sure x = record { tree = x.tree; read = read; names = x.names; next = x.next; shallow = x.shallow }
        where
          read : (n : ℕ) → 3 * (length s - at) + suc rank < n → f n (drop at s) ≡ parsed x.tree (drop p.at s)
          read zero enough = absurd (omega arith)
          read (suc n) enough =
              chain.levels n (drop at s) ∙ ap (level join m (f n)) (x.read n (omega arith))
              ∙ ap (after join (f n) x.tree (drop p.at s)) no-mark

  -- What comes after the mark behind the first part.
  module _ (c : Cursor) (mark : Past m s p.at c) where
    nests : nesting d (drop p.at s) ≡ nesting d (drop c.at s)
    nests = past-level m s p.at c mark d (chain.keeps d)

    -- The tree t, read as a first part and what comes after the mark: the first part is built, and there is room for the rest.
    record Later (n : ℕ) (t : Tree) (rest : Bytes) : Type 0 where
      pub one : Tree
      pub others : Tree
      pub same : t ≡ join one others
      pub built : Built k (numbered labels one) follow enter p f₁ e₁
      pub fits : k + size (numbered labels one) ≤ length follow
      pub read : f n (drop c.at s) ≡ parsed others rest
      pub room : Room labels others p.next f₁
      pub shallow : nesting d (drop c.at s) ≤ most_nesting

    after-mark : (n : ℕ) (t : Tree) (rest : Bytes) → 3 * (length s - at) + rank < n → Room labels t k follow → nesting d (drop at s) ≤ most_nesting
        → Joins (f n) (g n) join m (drop at s) t rest → Later n t rest
    after-mark n t rest enough room shallow (alone e none_after) =
        let done = left.reads n t rest enough e room shallow in
        never (past_mark m (drop p.at s)) (drop c.at s) (ap (past_mark m) done.left ∙ none_after) mark.past
    after-mark n t rest enough room shallow (more l u w v e there h same) =
        let small = room-left f g join m rank chain labels s at k d follow t l u same room in
        let done = left.reads n l w enough e small shallow in
        let from : v ≡ drop c.at s = some_same v (drop c.at s) (sym there ∙ ap (past_mark m) (sym done.left) ∙ mark.past) in
        let all = joined_length f g join m rank chain labels s at k d follow t l u same in
        let size-left = leaves-size labels l in
        record {
          one = l;
          others = u;
          same = same;
          built = done.built;
          fits = omega (arith, small.long);
          read = ap (f n) (sym from) ∙ h;
          room =
              record {
                names = (joined-known f g join m rank chain labels s at k d follow t l u same room.names).1;
                few = omega (arith, room.few, done.built.next);
                long = omega (arith, room.long, done.built.next, left.same-follow);
              };
          shallow = omega (arith, done.shallow, ap (nesting d) done.left, nests);
        }

    -- Where none can be built of it, none can be of the whole. Where the table stands that it is to be built in does not matter.
    way-none-after : (other : List ℕ) → length other ≡ length f₁ → Unbuilt f (suc rank) labels s c.at p.next d other
        → Unbuilt f (suc rank) labels s at k d follow
    way-none-after other long right = record { none = none_read }
      where
        none_read : (n : ℕ) (t : Tree) (rest : Bytes) → 3 * (length s - at) + suc rank < n → f n (drop at s) ≡ parsed t rest → Room labels t k follow
            → nesting d (drop at s) ≤ most_nesting → ⊥
        none_read zero t rest enough e room shallow = omega arith
        none_read (suc n) t rest enough e room shallow =
            let a = after-mark n t rest (omega arith) room shallow (joined-cases f g join m rank chain labels s at k d follow n t rest e) in
            right.none n a.others rest (omega (arith, mark.inside, mark.next, left.onward)) a.read
            record { names = a.room.names; few = a.room.few; long = omega (arith, a.room.long) } a.shallow

    -- f reads it.
    way-more : (q r : Part) (f₂ e₂ f₃ : List ℕ) → Builds f (suc rank) labels s c.at p.next d f₁ e₁ q f₂ e₂
        → ((l u : Tree) → k + size (numbered labels l) ≤ length follow → Built k (numbered labels l) follow enter p f₁ e₁
        → Built p.next (numbered labels u) f₁ e₁ q f₂ e₂ → Built k (numbered labels (join l u)) follow enter r f₃ e₂)
        → r.at ≡ q.at → r.next ≡ q.next → length f₃ ≡ length f₂ → take k f₃ ≡ take k f₂
        → ((x : ℕ) → Member x r.last.0 → Member x p.last.0 ⊎ Member x q.last.0) → Builds f (suc rank) labels s at k d follow enter r f₃ e₂
    unfolding joined
    way-more q r f₂ e₂ f₃ right build same_at same_next same_length same-front same-lasts =
        record {
          onward = omega (arith, left.onward, right.onward, mark.next);
          counts = omega (arith, left.counts, right.counts);
          same-follow = same_length ∙ right.same-follow ∙ left.same-follow;
          same-enter = right.same-enter ∙ left.same-enter;
          kept = same-front ∙ front ∙ left.kept;
          lasts = λ x m. own x (same-lasts x m);
          reads = reads;
          within = λ h. omega (arith, right.within (left.within h));
          sure = sure left.sure right.sure;
        }
      where
        front : take k f₂ ≡ take k f₁
        front =
            sym (take-take k p.next f₂ left.counts) ∙ ap (take k) right.kept ∙ take-take k p.next f₁ left.counts

        own : (x : ℕ) → Member x p.last.0 ⊎ Member x q.last.0 → (k ≤ x) × (x < r.next)
        own x (inl m) = ((left.lasts x m).0, omega (arith, (left.lasts x m).1, right.counts))
        own x (inr m) = (omega (arith, left.counts, (right.lasts x m).0), omega (arith, (right.lasts x m).1))

        reads : Reads f (suc rank) labels s at k d follow enter r f₃ e₂
        reads zero t rest enough e room shallow = absurd (omega arith)
        reads (suc n) t rest enough e room shallow =
            let a = after-mark n t rest (omega arith) room shallow (joined-cases f g join m rank chain labels s at k d follow n t rest e) in
            let then = right.reads n a.others rest (omega (arith, mark.inside, mark.next, left.onward)) a.read a.room a.shallow in
            record {
              left = ap (λ x. drop x s) same_at ∙ then.left;
              shallow = then.shallow;
              built = rw a.same (build a.one a.others a.fits a.built then.built);
            }

        sure : Sure g rank labels s at k d p → Sure f (suc rank) labels s c.at p.next d q → Sure f (suc rank) labels s at k d r
        sure x y =
            record {
              tree = join x.tree y.tree;
              read = read;
              names = rw (chain.sums x.tree y.tree) ((known_both labels (leaves x.tree) (leaves y.tree)).1 (x.names, y.names));
              next = omega (arith, x.next, y.next, joined_length f g join m rank chain labels s at k d follow (join x.tree y.tree) x.tree y.tree refl);
              shallow = omega (arith, x.shallow, y.shallow, nests, ap (λ a. nesting d (drop a s)) same_at);
            }
          where
            read : (n : ℕ) → 3 * (length s - at) + suc rank < n → f n (drop at s) ≡ parsed (join x.tree y.tree) (drop r.at s)
            read zero enough = absurd (omega arith)
            read (suc n) enough =
                chain.levels n (drop at s) ∙ ap (level join m (f n)) (x.read n (omega arith))
                ∙ ap (after join (f n) x.tree (drop p.at s)) mark.past
                ∙ ap (joined join x.tree) (y.read n (omega (arith, mark.inside, mark.next, left.onward)))
                ∙ ap (λ a. parsed (join x.tree y.tree) (drop a s)) (sym same_at)

alternatives-chain : Chain alternatives sequences alternative bar
unfolding leaves balance
alternatives-chain = record { levels = alternatives-level; sums = λ l u. refl; keeps = λ n. refl }

sequences-chain : Chain sequences factors sequence dot
unfolding leaves balance
sequences-chain = record { levels = sequences-level; sums = λ l u. refl; keeps = λ n. refl }

-- Where no first part can be built, none can be of all that are joined.
module _ (labels : List Bytes) (s : Bytes) (at k d : ℕ) (follow : List ℕ) where
  pub alternative-none : Unbuilt sequences 2 labels s at k d follow → Unbuilt alternatives 3 labels s at k d follow
  alternative-none = way-none alternatives sequences alternative bar 2 alternatives-chain labels s at k d follow

  pub sequence-none : Unbuilt factors 1 labels s at k d follow → Unbuilt sequences 2 labels s at k d follow
  sequence-none = way-none sequences factors sequence dot 1 sequences-chain labels s at k d follow

module _ (labels : List Bytes) (s : Bytes) (at k d : ℕ) (follow enter : List ℕ) (p : Part) (f₁ e₁ : List ℕ) where
  module _ (left : Builds sequences 2 labels s at k d follow enter p f₁ e₁) where
    pub alternative-alone : past_mark bar (drop p.at s) ≡ none → Builds alternatives 3 labels s at k d follow enter p f₁ e₁
    alternative-alone =
        way-alone alternatives sequences alternative bar 2 alternatives-chain labels s at k d follow enter p f₁ e₁ left

    pub alternative-none-after : (c : Cursor) → Past bar s p.at c → Unbuilt alternatives 3 labels s c.at p.next d f₁
        → Unbuilt alternatives 3 labels s at k d follow
    alternative-none-after c mark =
        way-none-after alternatives sequences alternative bar 2 alternatives-chain labels s at k d follow enter p f₁ e₁ left c mark f₁ refl

    pub alternative-more : (c : Cursor) (q : Part) (f₂ e₂ : List ℕ) → Past bar s p.at c
        → Builds alternatives 3 labels s c.at p.next d f₁ e₁ q f₂ e₂
        → Builds alternatives 3 labels s at k d follow enter (either p q) f₂ e₂
    unfolding numbered
    alternative-more c q f₂ e₂ mark right =
        way-more alternatives sequences alternative bar 2 alternatives-chain labels s at k d follow enter p f₁ e₁ left c mark q
        (either p q) f₂ e₂ f₂ right
        (λ l u room a b. built-alternative k (numbered labels l) (numbered labels u) follow enter p q f₁ e₁ f₂ e₂ room a b) refl refl refl refl
        (λ x m. (member_union x p.last.0 q.last.0).0 m)

  module _ (left : Builds factors 1 labels s at k d follow enter p f₁ e₁) where
    pub sequence-alone : past_mark dot (drop p.at s) ≡ none → Builds sequences 2 labels s at k d follow enter p f₁ e₁
    sequence-alone = way-alone sequences factors sequence dot 1 sequences-chain labels s at k d follow enter p f₁ e₁ left

    pub sequence-none-after : (c : Cursor) → Past dot s p.at c → (other : List ℕ) → length other ≡ length f₁
        → Unbuilt sequences 2 labels s c.at p.next d other → Unbuilt sequences 2 labels s at k d follow
    sequence-none-after c mark =
        way-none-after sequences factors sequence dot 1 sequences-chain labels s at k d follow enter p f₁ e₁ left c mark

    pub sequence-more : (c : Cursor) (q : Part) (f₂ e₂ : List ℕ) → Past dot s p.at c
        → Builds sequences 2 labels s c.at p.next d f₁ e₁ q f₂ e₂
        → Builds sequences 2 labels s at k d follow enter (both p q) (link p.last.0 q.first.0 0 f₂) e₂
    unfolding numbered
    sequence-more c q f₂ e₂ mark right =
        way-more sequences factors sequence dot 1 sequences-chain labels s at k d follow enter p f₁ e₁ left c mark q
        (both p q) f₂ e₂ (link p.last.0 q.first.0 0 f₂) right
        (λ l u room a b. built-sequence k (numbered labels l) (numbered labels u) follow enter p q f₁ e₁ f₂ e₂ room a b) refl refl
        (length-link p.last.0 q.first.0 0 f₂)
        (take_link p.last.0 q.first.0 k f₂ (λ x m. (left.lasts x m).0))
        (λ x m. ⊎_elim (λ n. inl ((member-when q.nullable x p.last.0).0 n).1) inr
        ((member_union x (when q.nullable p.last.0) q.last.0).0 m))
