-- The ways through the reading functions: from a moved cursor back to the text that is left there, and what each way reads.
use Prim.Native.Nat.{ℕ, zero, suc, ◌+◌, ◌-◌, ◌*◌, ◌<◌, ◌≤◌}
use mathlib.Core.Option.{Option, some, none}
use mathlib.Core.Path.{◌≡◌, refl, sym, ap, ◌∙◌, subst}
use native.Mathlib.Omega.{arith}
use lib.ListN.{length, drop, length-drop}
use Rattle.syntax.specs.declared.cursor.Cursor.{Cursor}
use Rattle.std.specs.Prelude.{Some, None}
use Rattle.theory.specs.Expression.{empty, alternative, sequence}
use Rattle.syntax.specs.Byte.{Bytes, bar, dot, opening, closing}
use Rattle.syntax.specs.Grammar.{Tree}
use Rattle.syntax.specs.Parser.{Parsed, failed, parsed, past_mark, suffixes, named, suffixed, closed, joined}
use Rattle.syntax.specs.Parser.{alternatives, sequences, factors}
use Rattle.syntax.specs.Place.{Moved, cursor_at, moved, parsed_to, Onward, Follows}
use Rattle.syntax.specs.Unread.{EndOf, end-drop, end-trans, drop-end, Shorter, Past, Unread, mark-past, level, simple}
use Rattle.syntax.specs.Unread.{named-unread, alternatives-unread, sequences-unread, factors-unread}
use Rattle.syntax.specs.Unread.{alternatives-level, sequences-level, factors-simple}

module _ (s : Bytes) (at : ℕ) where
  -- What a cursor says of an end of the text that begins at or after `at`.
  end-at : (v : Bytes) (d : Cursor) → EndOf (drop at s) v → d ≡ cursor_at s v → v ≡ drop d.at s
  end-at v d h e = sym (end-drop (end-trans (drop-end at s) h)) ∙ ap (λ (c : Cursor). drop c.at s) (sym e)

  beyond : (v : Bytes) (d : Cursor) → Shorter (drop at s) v → d ≡ cursor_at s v → (at < d.at) × (d.at ≤ length s)
  beyond v d h e = let f = ap (λ (c : Cursor). c.at) e in omega (arith, h.less, length-drop at s)

  pub parsed-to : (p : Parsed) (d : Cursor) → Unread (drop at s) p → Some d ≡ parsed_to s p → (t : Tree) × (p ≡ parsed t (drop d.at s))
  parsed-to failed d h e = absurd (let z : ◌≡◌ {A = ℕ} 0 1 = cc in omega arith)
  parsed-to (parsed t v) d h e = (t, ap (parsed t) (end-at v d h.end (cc)))

  pub parsed-onward : (p : Parsed) (d : Cursor) → Unread (drop at s) p → Some d ≡ parsed_to s p → (at < d.at) × (d.at ≤ length s)
  parsed-onward failed d h e = absurd (let z : ◌≡◌ {A = ℕ} 0 1 = cc in omega arith)
  parsed-onward (parsed t v) d h e = beyond v d h (cc)

  pub not-parsed : (p : Parsed) → None ≡ parsed_to s p → p ≡ failed
  not-parsed failed e = refl
  not-parsed (parsed t v) e = absurd (let z : ◌≡◌ {A = ℕ} 0 1 = cc in omega arith)

  marked : (o : Option Bytes) (d : Cursor) → Past (drop at s) o → Some d ≡ moved s o
      → (o ≡ some (drop d.at s)) × (at < d.at) × (d.at ≤ length s)
  marked none d h e = absurd (let z : ◌≡◌ {A = ℕ} 0 1 = cc in omega arith)
  marked (some v) d h e =
      let f : d ≡ cursor_at s v = cc in
      let b = beyond v d h f in
      (ap some (end-at v d h.end f), b.0, b.1)

  pub not-marked : (o : Option Bytes) → None ≡ moved s o → o ≡ none
  not-marked none e = refl
  not-marked (some v) e = absurd (let z : ◌≡◌ {A = ℕ} 0 1 = cc in omega arith)

  pub past-mark : (m : ℕ) (d : Cursor) → Some d ≡ moved s (past_mark m (drop at s))
      → (past_mark m (drop at s) ≡ some (drop d.at s)) × (at < d.at) × (d.at ≤ length s)
  past-mark m d e = marked (past_mark m (drop at s)) d (mark-past m (drop at s)) e

-- A parser's promise is met by what it reads with one more call than the bytes left ask for.
follows : (f : ℕ → Bytes → Parsed) (rank : ℕ) (s : Bytes) (at : ℕ) (r : Moved) → ((k : ℕ) → Unread (drop at s) (f k (drop at s)))
    → ((k : ℕ) → 3 * (length s - at) + rank < suc k → r ≡ parsed_to s (f (suc k) (drop at s))) → Follows f rank s at r
follows f rank s at r left reads =
    record {
      same = same;
      onward = subst (Onward s at) (sym (reads enough (omega arith))) (on (f (suc enough) (drop at s)) (left (suc enough)));
    }
  where
    same : (k : ℕ) → 3 * (length s - at) + rank < k → r ≡ parsed_to s (f k (drop at s))
    same zero l = absurd (omega arith)
    same (suc k) l = reads k l

    enough : ℕ
    enough = 3 * (length s - at) + rank

    on : (p : Parsed) → Unread (drop at s) p → Onward s at (parsed_to s p)
    on failed h = tt
    on (parsed t v) h = beyond s at v (cursor_at s v) h refl

same_place : (s : Bytes) (join : Tree → Tree → Tree) (l : Tree) (p : Parsed) → parsed_to s p ≡ parsed_to s (joined join l p)
unfolding joined
same_place s join l failed = refl
same_place s join l (parsed t v) = refl

behind : (s : Bytes) (join : Tree → Tree → Tree) (m : ℕ) (q : Bytes → Parsed) (p : Parsed) (t : Tree) (u v : Bytes)
    → p ≡ parsed t u → past_mark m u ≡ some v → parsed_to s (q v) ≡ parsed_to s (level join m q p)
behind s join m q p t u v e f = rw (e, f) (same_place s join t (q v))

-- f reads parts joined by the mark m, g one part.
pub record Parts (f g : ℕ → Bytes → Parsed) (m : ℕ) (join : Tree → Tree → Tree) : Type 0 where
  pub levels : (k : ℕ) (s : Bytes) → f (suc k) s ≡ level join m (f k) (g k s)
  pub all-unread : (k : ℕ) (s : Bytes) → Unread s (f k s)
  pub one-unread : (k : ℕ) (s : Bytes) → Unread s (g k s)

pub sequences-of : Parts alternatives sequences bar alternative
sequences-of = record { levels = alternatives-level; all-unread = alternatives-unread; one-unread = sequences-unread }

pub factors-of : Parts sequences factors dot sequence
factors-of = record { levels = sequences-level; all-unread = sequences-unread; one-unread = factors-unread }

module _ {f g : ℕ → Bytes → Parsed} {m : ℕ} {join : Tree → Tree → Tree} (parts : Parts f g m join) {rank : ℕ} {s : Bytes} {at : ℕ} where
  pub none_read : Follows g rank s at None → Follows f (suc rank) s at None
  none_read h =
      follows f (suc rank) s at None (λ k. parts.all-unread k (drop at s))
      (λ k l. rw (parts.levels k (drop at s), not-parsed s at (g k (drop at s)) (h.same k (omega arith))))

  pub one-read : {d : Cursor} → Follows g rank s at (Some d) → None ≡ moved s (past_mark m (drop d.at s))
      → Follows f (suc rank) s at (Some d)
  one-read {d} h e =
      follows f (suc rank) s at (Some d) (λ k. parts.all-unread k (drop at s))
      (λ k l.
      let p = parsed-to s at (g k (drop at s)) d (parts.one-unread k (drop at s)) (h.same k (omega arith)) in
      h.same k (omega arith) ∙ rw (parts.levels k (drop at s), p.1, not-marked s d.at (past_mark m (drop d.at s)) e))

  pub part_end : {d e : Cursor} → Follows g rank s at (Some d) → Some e ≡ moved s (past_mark m (drop d.at s))
      → (at < e.at) × (e.at ≤ length s)
  part_end {d} {e} h n = let b = h.onward in let q = past-mark s d.at m e n in (omega arith, omega arith)

  pub more-read : {d e : Cursor} {r : Moved} → Follows g rank s at (Some d) → Some e ≡ moved s (past_mark m (drop d.at s))
      → Follows f (suc rank) s e.at r → Follows f (suc rank) s at r
  more-read {d} {e} {r} h n i =
      let b = part_end h n in
      follows f (suc rank) s at r (λ k. parts.all-unread k (drop at s))
      (λ k l.
      let p = parsed-to s at (g k (drop at s)) d (parts.one-unread k (drop at s)) (h.same k (omega arith)) in
      i.same k (omega arith)
      ∙ rw (parts.levels k (drop at s))
      (behind s join m (f k) (g k (drop at s)) p.0 (drop d.at s) (drop e.at s) p.1 (past-mark s d.at m e n).0))

-- The parser p reads a tree and leaves u.
abbrev Leaves : Parsed → Bytes → Type 0
Leaves p u = (t : Tree) × (p ≡ parsed t u)

closed-leaves : (p : Parsed) (u v : Bytes) → Leaves p u → past_mark closing u ≡ some v → Leaves (closed p) v
unfolding closed
closed-leaves p u v h e = (h.0, rw (h.1, closed, e, closed))

not-closed : (p : Parsed) (u : Bytes) → Leaves p u → past_mark closing u ≡ none → closed p ≡ failed
unfolding closed
not-closed p u h e = rw (h.1, closed, e, closed)

alternatives-leave : (s : Bytes) (at : ℕ) (d : Cursor) → Follows alternatives 3 s at (Some d)
    → (k : ℕ) → 3 * (length s - at) + 3 < k → Leaves (alternatives k (drop at s)) (drop d.at s)
alternatives-leave s at d a k l = parsed-to s at (alternatives k (drop at s)) d (alternatives-unread k (drop at s)) (a.same k l)

suffixed-to : (s : Bytes) (p : Parsed) (u : Bytes) (r : Moved) → Leaves p u
    → ((t : Tree) → r ≡ parsed_to s (suffixes t u)) → r ≡ parsed_to s (suffixed p)
unfolding suffixed
suffixed-to s p u r h x = rw h.1 (x h.0)

not-suffixed : (s : Bytes) (p : Parsed) → p ≡ failed → None ≡ parsed_to s (suffixed p)
unfolding suffixed
not-suffixed s p e = rw e

-- A factor, by the ways through it.
module _ {s : Bytes} {at : ℕ} where
  factor : (r : Moved)
      → ((k : ℕ) → 3 * (length s - at) < k → r ≡ parsed_to s (simple (alternatives k) (drop at s) (past_mark opening (drop at s))))
      → Follows factors 1 s at r
  factor r h =
      follows factors 1 s at r (λ k. factors-unread k (drop at s)) (λ k l. rw (factors-simple k (drop at s)) (h k (omega arith)))

  module _ (o : None ≡ moved s (past_mark opening (drop at s))) where
    pub no-name-read : None ≡ parsed_to s (named (drop at s)) → Follows factors 1 s at None
    no-name-read n =
        factor None
        (λ k l. rw (not-marked s at (past_mark opening (drop at s)) o)
        (not-suffixed s (named (drop at s)) (not-parsed s at (named (drop at s)) n)))

    pub name-read : {d : Cursor} {r : Moved} → Some d ≡ parsed_to s (named (drop at s))
        → ((t : Tree) → r ≡ parsed_to s (suffixes t (drop d.at s))) → Follows factors 1 s at r
    name-read {d} {r} n x =
        factor r
        (λ k l. rw (not-marked s at (past_mark opening (drop at s)) o)
        (suffixed-to s (named (drop at s)) (drop d.at s) r (parsed-to s at (named (drop at s)) d (named-unread (drop at s)) n) x))

  module _ {d : Cursor} (o : Some d ≡ moved s (past_mark opening (drop at s))) where
    pub unit-read : {e : Cursor} {r : Moved} → Some e ≡ moved s (past_mark closing (drop d.at s))
        → ((t : Tree) → r ≡ parsed_to s (suffixes t (drop e.at s))) → Follows factors 1 s at r
    unit-read {e} {r} n x = factor r (λ k l. rw ((past-mark s at opening d o).0, (past-mark s d.at closing e n).0) (x empty))

    module _ (n : None ≡ moved s (past_mark closing (drop d.at s))) where
      group-read : (r : Moved)
          → ((k : ℕ) → 3 * (length s - d.at) + 3 < k → r ≡ parsed_to s (suffixed (closed (alternatives k (drop d.at s)))))
          → Follows factors 1 s at r
      group-read r h =
          let p = past-mark s at opening d o in
          factor r (λ k l. rw (p.0, not-marked s d.at (past_mark closing (drop d.at s)) n) (h k (omega arith)))

      pub no-group-read : Follows alternatives 3 s d.at None → Follows factors 1 s at None
      unfolding closed
      no-group-read a =
          group-read None
          (λ k l. not-suffixed s (closed (alternatives k (drop d.at s)))
          (ap closed (not-parsed s d.at (alternatives k (drop d.at s)) (a.same k l))))

      module _ {e : Cursor} (a : Follows alternatives 3 s d.at (Some e)) where
        pub open-group-read : None ≡ moved s (past_mark closing (drop e.at s)) → Follows factors 1 s at None
        open-group-read b =
            group-read None
            (λ k l. not-suffixed s (closed (alternatives k (drop d.at s)))
            (not-closed (alternatives k (drop d.at s)) (drop e.at s) (alternatives-leave s d.at e a k l)
            (not-marked s e.at (past_mark closing (drop e.at s)) b)))

        pub closed-group-read : {f : Cursor} {r : Moved} → Some f ≡ moved s (past_mark closing (drop e.at s))
            → ((t : Tree) → r ≡ parsed_to s (suffixes t (drop f.at s))) → Follows factors 1 s at r
        closed-group-read {f} {r} b x =
            group-read r
            (λ k l. suffixed-to s (closed (alternatives k (drop d.at s))) (drop f.at s) r
            (closed-leaves (alternatives k (drop d.at s)) (drop e.at s) (drop f.at s)
            (alternatives-leave s d.at e a k l) (past-mark s e.at closing f b).0) x)
