-- The ways through the function that reads a factor: on each, what the functions called promise gives what the function itself promises.
use Prim.Native.Nat.{ℕ, zero, suc, max, ◌+◌, ◌*◌, ◌-◌, ◌≤◌, ◌<◌}
use mathlib.Core.Bool.{true}
use mathlib.Core.List.{List}
use mathlib.Core.Option.{Option, some, none}
use mathlib.Core.Path.{◌≡◌, refl, sym, ap, ◌∙◌, subst}
use native.Mathlib.Nat.{add-zero}
use native.Mathlib.Omega.{arith}
use lib.ListN.{length, take, drop}
use Rattle.theory.specs.Expression.{empty}
use Rattle.theory.specs.Places.{Member}
use Rattle.theory.specs.PlacesLaws.{member-none}
use Rattle.syntax.specs.declared.cursor.Cursor.{Cursor}
use Rattle.syntax.specs.declared.parts.Part.{Part}
use Rattle.syntax.specs.Byte.{Bytes, opening, closing}
use Rattle.syntax.specs.Grammar.{Tree}
use Rattle.syntax.specs.Parser.{Parsed, failed, parsed, past_mark, suffixes, suffixed, closed, named, alternatives, factors}
use Rattle.syntax.specs.Unread.{group, simple, factors-simple}
use Rattle.syntax.specs.Limits.{most_nesting, nesting, leaves}
use Rattle.syntax.specs.NestingLaws.{deeper}
use Rattle.syntax.specs.Resolve.{numbered, known}
use Rattle.syntax.specs.Part.{unit, ended}
use Rattle.syntax.specs.PlaceLaws.{Past, past-opening, past-closing}
use Rattle.syntax.specs.Build.{Built, Room, Read, Reads, Unbuilt, Sure, Builds, Suffixed, Marked}
use Rattle.syntax.specs.BuildLaws.{built-empty, built-ended, built-suffixes}
use Rattle.syntax.specs.MarkedLaws.{After, take-marked, marked-read, suffixes-after}
use Rattle.syntax.proofs.Ways.{some_same, never}

suffixed-cases : (q : Parsed) (t : Tree) (rest : Bytes) → suffixed q ≡ parsed t rest
    → (u : Tree) × (w : Bytes) × (q ≡ parsed u w) × (suffixes u w ≡ parsed t rest)
unfolding suffixed
suffixed-cases failed t rest e = let z : ◌≡◌ {A = ℕ} 0 1 = cc in absurd (omega arith)
suffixed-cases (parsed u w) t rest e = (u, w, refl, e)

closed-cases : (q : Parsed) (t : Tree) (rest : Bytes) → closed q ≡ parsed t rest
    → (w : Bytes) × (q ≡ parsed t w) × (past_mark closing w ≡ some rest)
unfolding closed
closed-cases failed t rest e = let z : ◌≡◌ {A = ℕ} 0 1 = cc in absurd (omega arith)
closed-cases (parsed u w) t rest e = go (past_mark closing w) refl e
  where
    go : (o : Option Bytes) → past_mark closing w ≡ o → elim o as (λ q. Parsed) [ none ↦ failed | some r ↦ parsed u r ] ≡ parsed t rest
        → (v : Bytes) × (parsed u w ≡ parsed t v) × (past_mark closing v ≡ some rest)
    go none d e = let z : ◌≡◌ {A = ℕ} 0 1 = cc in absurd (omega arith)
    go (some r) d e =
        let same : u ≡ t = cc in
        let end : r ≡ rest = cc in
        (w, ap (λ x. parsed x w) same, d ∙ ap some end)

closed_at : (q : Parsed) (t : Tree) (v w : Bytes) → q ≡ parsed t v → past_mark closing v ≡ some w → closed q ≡ parsed t w
unfolding closed
closed_at q t v w e m = rw (e, closed, m, closed)

-- What the parser of factors does, by what the text begins with.
module _ (n : ℕ) (s : Bytes) where
  factors-named : past_mark opening s ≡ none → factors (suc n) s ≡ suffixed (named s)
  factors-named e = factors-simple n s ∙ ap (simple (alternatives n) s) e

  factors-unit : (v w : Bytes) → past_mark opening s ≡ some v → past_mark closing v ≡ some w → factors (suc n) s ≡ suffixes empty w
  factors-unit v w e h = factors-simple n s ∙ ap (simple (alternatives n) s) e ∙ ap (group (alternatives n) v) h

  factors-group : (v : Bytes) → past_mark opening s ≡ some v → past_mark closing v ≡ none
      → factors (suc n) s ≡ suffixed (closed (alternatives n v))
  factors-group v e h = factors-simple n s ∙ ap (simple (alternatives n) s) e ∙ ap (group (alternatives n) v) h

module _ (labels : List Bytes) (s : Bytes) (at k d : ℕ) (follow enter : List ℕ) where
  next-after : (p r : Part) (f₁ f₂ : List ℕ) → Suffixed s p f₁ r f₂ → r.next ≡ p.next
  next-after p r f₁ f₂ marks = ap (λ (x : Part). x.next) marks.same

  -- The part's last places are its own.
  abbrev Own : Part → Type 0
  Own p = (x : ℕ) → Member x p.last.0 → (k ≤ x) × (x < p.next)

  kept-after : (p r : Part) (f₁ f₂ : List ℕ) → Suffixed s p f₁ r f₂ → Own p → take k f₂ ≡ take k f₁
  kept-after p r f₁ f₂ marks own =
      sym (ap (λ (x : Marked). take k x.follow) marks.marks)
      ∙ take-marked p.last.0 p.first.0 k (drop p.at s) p.nullable f₁ (λ x m. (own x m).0)

  lasts_after : (p r : Part) (f₁ f₂ : List ℕ) → Suffixed s p f₁ r f₂ → Own p → Own r
  lasts_after p r f₁ f₂ marks own x m =
      let there = own x (subst (Member x) (ap (λ (y : Part). y.last.0) marks.same) m) in
      (there.0, omega (arith, there.1, next-after p r f₁ f₂ marks))

  room_after : (u t : Tree) (w rest : Bytes) → suffixes u w ≡ parsed t rest → Room labels t k follow → Room labels u k follow
  room_after u t w rest e room =
      let same = (suffixes-after u t w rest e).0 in
      let many = ap length same in
      record { names = rw same at room.names; few = omega (arith, room.few); long = omega (arith, room.long) }

  -- A factor without its marks, and then with them.
  with-marks : (u t : Tree) (w rest : Bytes) (p r : Part) (f₁ f₂ e₁ : List ℕ) → Suffixed s p f₁ r f₂ → suffixes u w ≡ parsed t rest
      → Room labels t k follow → (Room labels u k follow → Read labels s k d u w follow enter p f₁ e₁)
      → Read labels s k d t rest follow enter r f₂ e₁
  with-marks u t w rest p r f₁ f₂ e₁ marks e room read =
      let done = read (room_after u t w rest e room) in
      let all = built-suffixes labels k r.at (drop p.at s) u t rest follow enter p f₁ e₁ (omega (arith, room.long)) done.built
      (ap (suffixes u) done.left ∙ e) in
      record {
        left = sym (ap (λ (x : Marked). x.rest) marks.marks) ∙ all.0;
        shallow = omega (arith, done.shallow, (suffixes-after u t w rest e).1 d);
        built =
            subst (λ (x : Part). Built k (numbered labels t) follow enter x f₂ e₁) (sym marks.same)
            (subst (λ (x : Marked). Built k (numbered labels t) follow enter (ended r.at x.nullable p) x.follow e₁) marks.marks
            all.1);
      }

  sure-marks : (u : Tree) (p r : Part) (f₁ f₂ : List ℕ) → Suffixed s p f₁ r f₂ → known labels (leaves u) ≡ true
      → p.next ≡ k + length (leaves u) → nesting d (drop at s) ≤ max most_nesting (nesting d (drop p.at s))
      → ((n : ℕ) → 3 * (length s - at) < n → factors (suc n) (drop at s) ≡ suffixes u (drop p.at s)) → Sure factors 1 labels s at k d r
  sure-marks u p r f₁ f₂ marks names next shallow reads =
      record {
        tree = after.tree;
        read = read;
        names = ap (known labels) after.same ∙ names;
        next = next-after p r f₁ f₂ marks ∙ next ∙ ap (λ l. k + length l) (sym after.same);
        shallow = omega (arith, after.nests d);
      }
    where
      after : After u (drop p.at s) (drop r.at s)
      after =
          subst (λ (x : Marked). After u (drop p.at s) x.rest) marks.marks
          (marked-read p.last.0 p.first.0 (drop p.at s) p.nullable f₁ u)

      read : (n : ℕ) → 3 * (length s - at) + 1 < n → factors n (drop at s) ≡ parsed after.tree (drop r.at s)
      read zero enough = absurd (omega arith)
      read (suc n) enough = reads n (omega arith) ∙ after.read

  -- A name, and the marks after it.
  pub factor-name : (p r : Part) (f₁ e₁ f₂ : List ℕ) → past_mark opening (drop at s) ≡ none
      → Builds (λ n. named) 0 labels s at k d follow enter p f₁ e₁ → Suffixed s p f₁ r f₂ → Builds factors 1 labels s at k d follow enter r f₂ e₁
  unfolding suffixed
  factor-name p r f₁ e₁ f₂ none_open name marks =
      record {
        onward = omega (arith, name.onward, marks.onward);
        counts = omega (arith, name.counts, next-after p r f₁ f₂ marks);
        same-follow = marks.same-follow ∙ name.same-follow;
        same-enter = name.same-enter;
        kept = kept-after p r f₁ f₂ marks name.lasts ∙ name.kept;
        lasts = lasts_after p r f₁ f₂ marks name.lasts;
        reads = reads;
        within = λ h. omega (arith, name.within h, next-after p r f₁ f₂ marks);
        sure = sure name.sure;
      }
    where
      reads : Reads factors 1 labels s at k d follow enter r f₂ e₁
      reads zero t rest enough e room shallow = absurd (omega arith)
      reads (suc n) t rest enough e room shallow =
          let (u, w, q, h) = suffixed-cases (named (drop at s)) t rest (sym (factors-named n (drop at s) none_open) ∙ e) in
          with-marks u t w rest p r f₁ f₂ e₁ marks h room (λ small. name.reads (suc n) u w (omega arith) q small shallow)

      sure : Sure (λ n. named) 0 labels s at k d p → Sure factors 1 labels s at k d r
      sure x =
          sure-marks x.tree p r f₁ f₂ marks x.names x.next x.shallow
          (λ n enough. factors-named n (drop at s) none_open ∙ ap suffixed (x.read n (omega arith)))

  -- No name that can be built.
  pub factor-no-name : past_mark opening (drop at s) ≡ none → Unbuilt (λ n. named) 0 labels s at k d follow → Unbuilt factors 1 labels s at k d follow
  factor-no-name none_open name = record { none = none_read }
    where
      none_read : (n : ℕ) (t : Tree) (rest : Bytes) → 3 * (length s - at) + 1 < n → factors n (drop at s) ≡ parsed t rest → Room labels t k follow
          → nesting d (drop at s) ≤ most_nesting → ⊥
      none_read zero t rest enough e room shallow = omega arith
      none_read (suc n) t rest enough e room shallow =
          let (u, w, q, h) = suffixed-cases (named (drop at s)) t rest (sym (factors-named n (drop at s) none_open) ∙ e) in
          name.none (suc n) u w (omega arith) q (room_after u t w rest h room) shallow

  module _ (c : Cursor) (opened : Past opening s at c) where
    nests : nesting d (drop at s) ≡ nesting (d + 1) (drop c.at s)
    nests = past-opening s at c d opened

    -- A parenthesis too deep.
    pub factor-deep : most_nesting ≤ d → Unbuilt factors 1 labels s at k d follow
    factor-deep deep =
        record { none = λ n t rest enough e room shallow. omega (arith, nests, deeper (d + 1) (drop c.at s)) }

    -- `()`, and the marks after it.
    pub factor-unit : d < most_nesting → (c' : Cursor) (r : Part) (f₂ : List ℕ) → Past closing s c.at c'
        → Suffixed s (unit c'.at k) follow r f₂ → Builds factors 1 labels s at k d follow enter r f₂ enter
    unfolding numbered leaves known
    factor-unit free c' r f₂ shut marks =
        record {
          onward = omega (arith, opened.next, shut.next, marks.onward);
          counts = omega (arith, next-after (unit c'.at k) r follow f₂ marks);
          same-follow = marks.same-follow;
          same-enter = refl;
          kept = kept-after (unit c'.at k) r follow f₂ marks (λ x m. absurd (member-none x m));
          lasts = lasts_after (unit c'.at k) r follow f₂ marks (λ x m. absurd (member-none x m));
          reads = reads;
          within = λ h. omega (arith, next-after (unit c'.at k) r follow f₂ marks);
          sure =
              sure-marks empty (unit c'.at k) r follow f₂ marks refl (sym (add-zero k)) (omega (arith, nests, closes))
              (λ n enough. factors-unit n (drop at s) (drop c.at s) (drop c'.at s) opened.past shut.past);
        }
      where
        closes : nesting (d + 1) (drop c.at s) ≡ max (d + 1) (nesting d (drop c'.at s))
        closes = past-closing s c.at c' d shut

        reads : Reads factors 1 labels s at k d follow enter r f₂ enter
        reads zero t rest enough e room shallow = absurd (omega arith)
        reads (suc n) t rest enough e room shallow =
            with-marks empty t (drop c'.at s) rest (unit c'.at k) r follow f₂ enter marks
            (sym (factors-unit n (drop at s) (drop c.at s) (drop c'.at s) opened.past shut.past) ∙ e) room
            (λ small. record { left = refl; shallow = omega (arith, nests, closes); built = built-empty k c'.at follow enter })

    -- An alternative in parentheses.
    group_reads : past_mark closing (drop c.at s) ≡ none → (n : ℕ)
        → factors (suc n) (drop at s) ≡ suffixed (closed (alternatives n (drop c.at s)))
    group_reads not-unit n = factors-group n (drop at s) (drop c.at s) opened.past not-unit

    -- None that can be built.
    pub factor-no-group : past_mark closing (drop c.at s) ≡ none → Unbuilt alternatives 3 labels s c.at k (d + 1) follow
        → Unbuilt factors 1 labels s at k d follow
    factor-no-group not-unit inner = record { none = none_read }
      where
        none_read : (n : ℕ) (t : Tree) (rest : Bytes) → 3 * (length s - at) + 1 < n → factors n (drop at s) ≡ parsed t rest → Room labels t k follow
            → nesting d (drop at s) ≤ most_nesting → ⊥
        none_read zero t rest enough e room shallow = omega arith
        none_read (suc n) t rest enough e room shallow =
            let (u, w, q, h) = suffixed-cases (closed (alternatives n (drop c.at s))) t rest (sym (group_reads not-unit n) ∙ e) in
            let (v, a, m) = closed-cases (alternatives n (drop c.at s)) u w q in
            inner.none n u v (omega (arith, opened.inside, opened.next)) a (room_after u t w rest h room) (omega (arith, nests))

    module _ (not-unit : past_mark closing (drop c.at s) ≡ none) (p : Part) (f₁ e₁ : List ℕ)
        (inner : Builds alternatives 3 labels s c.at k (d + 1) follow enter p f₁ e₁) where
      -- It is closed, and marks come after it.
      pub factor-group : d < most_nesting → (c' : Cursor) (r : Part) (f₂ : List ℕ) → Past closing s p.at c'
          → Suffixed s (ended c'.at p.nullable p) f₁ r f₂ → Builds factors 1 labels s at k d follow enter r f₂ e₁
      unfolding suffixed
      factor-group free c' r f₂ shut marks =
          record {
            onward = omega (arith, opened.next, inner.onward, shut.next, marks.onward);
            counts = omega (arith, inner.counts, next-after (ended c'.at p.nullable p) r f₁ f₂ marks);
            same-follow = marks.same-follow ∙ inner.same-follow;
            same-enter = inner.same-enter;
            kept = kept-after (ended c'.at p.nullable p) r f₁ f₂ marks inner.lasts ∙ inner.kept;
            lasts = lasts_after (ended c'.at p.nullable p) r f₁ f₂ marks inner.lasts;
            reads = reads;
            within = λ h. omega (arith, inner.within h, next-after (ended c'.at p.nullable p) r f₁ f₂ marks);
            sure = sure inner.sure;
          }
        where
          closes : nesting (d + 1) (drop p.at s) ≡ max (d + 1) (nesting d (drop c'.at s))
          closes = past-closing s p.at c' d shut

          part : (u : Tree) (v w : Bytes) → past_mark closing v ≡ some w → Read labels s k (d + 1) u v follow enter p f₁ e₁
              → Read labels s k d u w follow enter (ended c'.at p.nullable p) f₁ e₁
          part u v w m done =
              let end : drop c'.at s ≡ w = some_same (drop c'.at s) w (sym shut.past ∙ ap (past_mark closing) done.left ∙ m) in
              record {
                left = end;
                shallow = omega (arith, done.shallow, closes, ap (nesting (d + 1)) done.left, ap (nesting d) end);
                built = built-ended k (numbered labels u) c'.at follow enter p f₁ e₁ done.built;
              }

          reads : Reads factors 1 labels s at k d follow enter r f₂ e₁
          reads zero t rest enough e room shallow = absurd (omega arith)
          reads (suc n) t rest enough e room shallow =
              let (u, w, q, h) = suffixed-cases (closed (alternatives n (drop c.at s))) t rest (sym (group_reads not-unit n) ∙ e) in
              let (v, a, m) = closed-cases (alternatives n (drop c.at s)) u w q in
              with-marks u t w rest (ended c'.at p.nullable p) r f₁ f₂ e₁ marks h room
              (λ small. part u v w m
              (inner.reads n u v (omega (arith, opened.inside, opened.next)) a small (omega (arith, nests))))

          sure : Sure alternatives 3 labels s c.at k (d + 1) p → Sure factors 1 labels s at k d r
          sure x =
              sure-marks x.tree (ended c'.at p.nullable p) r f₁ f₂ marks x.names x.next (omega (arith, x.shallow, nests, closes))
              (λ n enough. group_reads not-unit n
              ∙ ap suffixed (closed_at (alternatives n (drop c.at s)) x.tree (drop p.at s) (drop c'.at s)
              (x.read n (omega (arith, opened.inside, opened.next))) shut.past))

      -- It is not closed, and so is no factor.
      pub factor-open : past_mark closing (drop p.at s) ≡ none → Unbuilt factors 1 labels s at k d follow
      factor-open not-closed = record { none = none_read }
        where
          none_read : (n : ℕ) (t : Tree) (rest : Bytes) → 3 * (length s - at) + 1 < n → factors n (drop at s) ≡ parsed t rest
              → Room labels t k follow → nesting d (drop at s) ≤ most_nesting → ⊥
          none_read zero t rest enough e room shallow = omega arith
          none_read (suc n) t rest enough e room shallow =
              let (u, w, q, h) = suffixed-cases (closed (alternatives n (drop c.at s))) t rest (sym (group_reads not-unit n) ∙ e) in
              let (v, a, m) = closed-cases (alternatives n (drop c.at s)) u w q in
              let done = inner.reads n u v (omega (arith, opened.inside, opened.next)) a (room_after u t w rest h room)
              (omega (arith, nests)) in
              never (past_mark closing (drop p.at s)) w not-closed (ap (past_mark closing) done.left ∙ m)
