-- What a reader leaves unread is an end of the text, shorter than the text; so its length says where it begins.
use Rattle.std.specs.Prelude.{ℕ, zero, suc, ◌-◌, ◌<◌, ◌≤◌, Bool, true, false, [], ◌∷◌, ◌≡◌, refl, eqb, length, drop}
use Rattle.std.proofs.Math.Option.{Option, some, none}
use Rattle.std.proofs.Common.{ap, ◌∙◌, arith}
use Rattle.theory.specs.Expression.{empty, alternative, sequence, star, optional}
use Rattle.syntax.specs.Byte.{Bytes, name_byte, asterisk, question, bar, dot, opening, closing}
use Rattle.syntax.specs.Name.{is_name}
use Rattle.syntax.specs.Grammar.{Tree}
use Rattle.syntax.specs.Parser.{Parsed, failed, parsed, run, past_run, past_mark, suffixes, named, suffixed, closed, joined}
use Rattle.syntax.specs.Parser.{alternatives, sequences, factors}

-- `EndOf s v`: the text v is an end of the text s.
pub data EndOf : Bytes → Bytes → Type 0 where
  whole : {s : Bytes} → EndOf s s
  later : {b : ℕ} {s v : Bytes} → EndOf s v → EndOf (b ∷ s) v

pub end-length : {s v : Bytes} → EndOf s v → length v ≤ length s
end-length whole = omega arith
end-length (later e) = let h = end-length e in omega arith

pub end-drop : {s v : Bytes} → EndOf s v → drop (length s - length v) s ≡ v
end-drop {s} whole = let e : length s - length s ≡ 0 = omega arith in ap (λ n. drop n s) e
end-drop {s = b ∷ s} {v} (later e) =
    let h = end-length e in
    let f : length (b ∷ s) - length v ≡ suc (length s - length v) = omega arith in
    ap (λ n. drop n (b ∷ s)) f ∙ end-drop e

pub end-trans : {s u v : Bytes} → EndOf s u → EndOf u v → EndOf s v
end-trans whole e = e
end-trans (later d) e = later (end-trans d e)

pub drop-end : (n : ℕ) (s : Bytes) → EndOf s (drop n s)
drop-end zero s = whole
drop-end (suc n) [] = whole
drop-end (suc n) (b ∷ s) = later (drop-end n s)

pub record Shorter (s v : Bytes) : Type 0 where
  pub end : EndOf s v
  pub less : length v < length s

pub tail-shorter : {b : ℕ} {s v : Bytes} → EndOf s v → Shorter (b ∷ s) v
tail-shorter e = let h = end-length e in record { end = later e; less = omega arith }

pub shorter-on : {s u v : Bytes} → Shorter s u → EndOf u v → Shorter s v
shorter-on h e = let l = end-length e in record { end = end-trans h.end e; less = omega arith }

-- What is left past a mark, or past what a parser reads.
abbrev pub Past : Bytes → Option Bytes → Type 0
Past s none = Unit {0}
Past s (some v) = Shorter s v

abbrev pub Unread : Bytes → Parsed → Type 0
Unread s failed = Unit {0}
Unread s (parsed t v) = Shorter s v

pub mark-past : (m : ℕ) (s : Bytes) → Past s (past_mark m s)
unfolding past_mark
mark-past m [] = tt
mark-past m (b ∷ s) = go (eqb b m) refl
  where
    go : (t : Bool) → eqb b m ≡ t → Past (b ∷ s) (past_mark m (b ∷ s))
    go true e = rw (e, past_mark) (tail-shorter whole)
    go false e = rw (e, past_mark) tt

run_end : (s : Bytes) → EndOf s (past_run s)
unfolding past_run
run_end [] = whole
run_end (b ∷ s) = go (name_byte b) refl (run_end s)
  where
    go : (t : Bool) → name_byte b ≡ t → EndOf s (past_run s) → EndOf (b ∷ s) (past_run (b ∷ s))
    go true e h = rw (e, past_run) (later h)
    go false e h = rw (e, past_run) whole

pub named-unread : (s : Bytes) → Unread s (named s)
unfolding named is_name run past_run
named-unread [] = tt
named-unread (b ∷ s) = go (name_byte b) refl (is_name (run (b ∷ s))) refl
  where
    go : (t : Bool) → name_byte b ≡ t → (u : Bool) → is_name (run (b ∷ s)) ≡ u → Unread (b ∷ s) (named (b ∷ s))
    go true e true f = rw (f, named, e, past_run) (tail-shorter (run_end s))
    go true e false f = rw (f, named) tt
    go false e u f = rw (e, run, is_name, named) tt

suffixes-unread : (w : Bytes) (t : Tree) (s : Bytes) → Shorter w s → Unread w (suffixes t s)
unfolding suffixes
suffixes-unread w t [] h = h
suffixes-unread w t (b ∷ s) h =
    let g = shorter-on h (later whole) in
    go (eqb b asterisk) refl (eqb b question) refl (suffixes-unread w (star t) s g) (suffixes-unread w (optional t) s g)
  where
    go : (x : Bool) → eqb b asterisk ≡ x → (y : Bool) → eqb b question ≡ y
        → Unread w (suffixes (star t) s) → Unread w (suffixes (optional t) s) → Unread w (suffixes t (b ∷ s))
    go true e y f g k = rw (e, suffixes) g
    go false e true f g k = rw (e, suffixes, f, suffixes) k
    go false e false f g k = rw (e, suffixes, f, suffixes) h

suffixed-unread : (w : Bytes) (p : Parsed) → Unread w p → Unread w (suffixed p)
unfolding suffixed
suffixed-unread w failed h = tt
suffixed-unread w (parsed t s) h = suffixes-unread w t s h

closed-unread : (w : Bytes) (p : Parsed) → Unread w p → Unread w (closed p)
unfolding closed
closed-unread w failed h = tt
closed-unread w (parsed t s) h = go (past_mark closing s) refl (mark-past closing s)
  where
    go : (o : Option Bytes) → past_mark closing s ≡ o → Past s o → Unread w (closed (parsed t s))
    go none e g = rw (e, closed) tt
    go (some r) e g = rw (e, closed) (shorter-on h g.end)

joined-unread : (w : Bytes) (join : Tree → Tree → Tree) (l : Tree) (p : Parsed) → Unread w p → Unread w (joined join l p)
unfolding joined
joined-unread w join l failed h = tt
joined-unread w join l (parsed r s) h = h

-- Parts joined by the mark m, after the first of them, p; q reads those behind the mark.
abbrev pub after : (Tree → Tree → Tree) → (Bytes → Parsed) → Tree → Bytes → Option Bytes → Parsed
after join q l r none = parsed l r
after join q l r (some v) = joined join l (q v)

abbrev pub level : (Tree → Tree → Tree) → ℕ → (Bytes → Parsed) → Parsed → Parsed
level join m q failed = failed
level join m q (parsed l r) = after join q l r (past_mark m r)

pub alternatives-level : (k : ℕ) (s : Bytes) → alternatives (suc k) s ≡ level alternative bar (alternatives k) (sequences k s)
unfolding alternatives
alternatives-level k s = go (sequences k s) refl
  where
    go : (p : Parsed) → sequences k s ≡ p → alternatives (suc k) s ≡ level alternative bar (alternatives k) p
    go failed e = rw (e, alternatives)
    go (parsed l r) e = on (past_mark bar r) refl
      where
        on : (o : Option Bytes) → past_mark bar r ≡ o → alternatives (suc k) s ≡ after alternative (alternatives k) l r o
        on none f = rw (e, alternatives, f, alternatives)
        on (some v) f = rw (e, alternatives, f, alternatives)

pub sequences-level : (k : ℕ) (s : Bytes) → sequences (suc k) s ≡ level sequence dot (sequences k) (factors k s)
unfolding alternatives
sequences-level k s = go (factors k s) refl
  where
    go : (p : Parsed) → factors k s ≡ p → sequences (suc k) s ≡ level sequence dot (sequences k) p
    go failed e = rw (e, sequences)
    go (parsed l r) e = on (past_mark dot r) refl
      where
        on : (o : Option Bytes) → past_mark dot r ≡ o → sequences (suc k) s ≡ after sequence (sequences k) l r o
        on none f = rw (e, sequences, f, sequences)
        on (some v) f = rw (e, sequences, f, sequences)

-- A factor, by what stands behind its opening parenthesis, if it has one; q reads what stands in parentheses.
abbrev pub group : (Bytes → Parsed) → Bytes → Option Bytes → Parsed
group q v none = suffixed (closed (q v))
group q v (some r) = suffixes empty r

abbrev pub simple : (Bytes → Parsed) → Bytes → Option Bytes → Parsed
simple q s none = suffixed (named s)
simple q s (some v) = group q v (past_mark closing v)

pub factors-simple : (k : ℕ) (s : Bytes) → factors (suc k) s ≡ simple (alternatives k) s (past_mark opening s)
unfolding alternatives
factors-simple k s = go (past_mark opening s) refl
  where
    go : (o : Option Bytes) → past_mark opening s ≡ o → factors (suc k) s ≡ simple (alternatives k) s o
    go none e = rw (e, factors)
    go (some v) e = on (past_mark closing v) refl
      where
        on : (o : Option Bytes) → past_mark closing v ≡ o → factors (suc k) s ≡ group (alternatives k) v o
        on none f = rw (e, factors, f, factors)
        on (some r) f = rw (e, factors, f, factors)

unread-on : {s v : Bytes} → Shorter s v → (p : Parsed) → Unread v p → Unread s p
unread-on h failed g = tt
unread-on h (parsed t r) g = shorter-on h g.end

level-unread : (join : Tree → Tree → Tree) (m : ℕ) (q : Bytes → Parsed) → ((v : Bytes) → Unread v (q v))
    → (s : Bytes) (p : Parsed) → Unread s p → Unread s (level join m q p)
level-unread join m q hq s failed h = tt
level-unread join m q hq s (parsed l r) h = go (past_mark m r) (mark-past m r)
  where
    go : (o : Option Bytes) → Past r o → Unread s (after join q l r o)
    go none g = h
    go (some v) g = joined-unread s join l (q v) (unread-on (shorter-on h g.end) (q v) (hq v))

simple-unread : (q : Bytes → Parsed) → ((v : Bytes) → Unread v (q v)) → (s : Bytes) (o : Option Bytes) → Past s o → Unread s (simple q s o)
simple-unread q hq s none h = suffixed-unread s (named s) (named-unread s)
simple-unread q hq s (some v) h = go (past_mark closing v) (mark-past closing v)
  where
    go : (o : Option Bytes) → Past v o → Unread s (group q v o)
    go none g = suffixed-unread s (closed (q v)) (closed-unread s (q v) (unread-on h (q v) (hq v)))
    go (some r) g = suffixes-unread s empty r (shorter-on h g.end)

mutual
  unfolding alternatives

  pub alternatives-unread : (k : ℕ) (s : Bytes) → Unread s (alternatives k s)
  alternatives-unread zero s = tt
  alternatives-unread (suc k) s =
      rw (alternatives-level k s)
      (level-unread alternative bar (alternatives k) (λ v. alternatives-unread k v) s (sequences k s) (sequences-unread k s))

  pub sequences-unread : (k : ℕ) (s : Bytes) → Unread s (sequences k s)
  sequences-unread zero s = tt
  sequences-unread (suc k) s =
      rw (sequences-level k s) (level-unread sequence dot (sequences k) (λ v. sequences-unread k v) s (factors k s) (factors-unread k s))

  pub factors-unread : (k : ℕ) (s : Bytes) → Unread s (factors k s)
  factors-unread zero s = tt
  factors-unread (suc k) s =
      rw (factors-simple k s)
      (simple-unread (alternatives k) (λ v. alternatives-unread k v) s (past_mark opening s) (mark-past opening s))
