-- `build` meets its contract: the whole expression is built from place 1 on, and the start comes in front of it; the text is fine where
-- it has been read to its end without fault.
use Prim.Native.Nat.{ℕ, suc, ◌-◌, ◌≤◌, ◌<◌}
use mathlib.Core.Bool.{true, false}
use mathlib.Core.List.{List, [], ◌∷◌, ◌++◌}
use mathlib.Core.Path.{◌≡◌, refl, sym, ap, ap₂, ◌∙◌, subst}
use native.Mathlib.Omega.{arith}
use lib.ListN.{length, drop, set, replicate, length-drop, drop_of_length-le}
use Rattle.theory.specs.Expression.{Expression}
use Rattle.theory.specs.Standing.{size}
use Rattle.theory.specs.Places.{none, one, union, when}
use Rattle.theory.specs.Automaton.{first, follows, glushkov}
use Rattle.theory.proofs.AutomatonLaws.{length-follows}
use Rattle.syntax.specs.declared.build.Automaton.{Automaton as Answer}
use Rattle.syntax.specs.declared.parts.Part.{Part}
use Rattle.syntax.specs.Byte.{Bytes}
use Rattle.syntax.specs.Parser.{parsed, alternatives, calls}
use Rattle.syntax.specs.Limits.{most_bytes, most_nesting, nesting}
use Rattle.syntax.specs.LimitsLaws.{leaves-size}
use Rattle.syntax.specs.Resolve.{names_at, numbered}
use Rattle.syntax.specs.Check.{Checked, fine, faulty, check}
use Rattle.syntax.specs.FineLaws.{fine-cases, whole-fine}
use Rattle.syntax.specs.Splice.{splice_front}
use Rattle.syntax.specs.Build.{Built, Room, Unbuilt, Builds, outcome, automaton, cleared, building}
use Rattle.syntax.proofs.build.build.Goals as goal
use Rattle.syntax.proofs.build.build.Goals.{then-s-le-MOST_BYTES+in-Some+else-s-whole, then-s-le-MOST_BYTES+in_default, else-s-le-MOST_BYTES}
use borrow.Author.Rules.{rules}
use Rattle.std.specs.Prelude.{Some, None}

same-cleared : (follow enter f₁ e₁ : List ℕ) → length f₁ ≡ length follow → length e₁ ≡ length enter → cleared f₁ e₁ ≡ cleared follow enter
same-cleared follow enter f₁ e₁ l m =
    ap₂ (λ a b. record { fine = false; size = 0; accepting = none; follow = replicate a none; enter = replicate b none }) l m

-- A text with a fault gives cleared tables.
faulted : (c : Checked) (follow enter : List ℕ) → ((e : Expression) → c ≡ fine e → ⊥) → cleared follow enter ≡ building c follow enter
faulted (fine e) follow enter never = absurd (never e refl)
faulted (faulty r) follow enter never = refl

too_long : (labels : List Bytes) (s : Bytes) → most_bytes < length s → (e : Expression) → check labels s ≡ fine e → ⊥
too_long labels s long e checked = omega (arith, (fine-cases labels s e checked).short)

module _ (labels : List Bytes) (s : Bytes) (follow enter : List ℕ) (p : Part) (f₁ e₁ : List ℕ) (room : 64 ≤ length follow)
    (builds : Builds alternatives 3 labels s 0 1 0 follow enter p f₁ e₁) where
  module _ (e : Expression) (checked : check labels s ≡ fine e) where
    whole : (drop p.at s ≡ []) × Built 1 e follow enter p f₁ e₁
    whole =
        let f = fine-cases labels s e checked in
        let many = leaves-size labels f.tree in
        let same = ap size f.expression in
        let fits : Room labels f.tree 1 follow =
        record { names = f.names; few = omega (arith, f.few); long = omega (arith, f.few) } in
        let all = builds.reads (calls (length s)) f.tree [] (omega arith) f.whole fits f.shallow in
        (all.left, subst (λ x. Built 1 x follow enter p f₁ e₁) f.expression all.built)

    -- What is fine is read to its end.
    fine-read : length s ≤ p.at
    fine-read = omega (arith, ap length whole.0, length-drop p.at s)

    -- The start in front of what is built.
    made : (r : Answer) (f₂ : List ℕ) → r.size ≡ p.next - 1
        → r.accepting.0 ≡ union (when p.nullable (one 0)) p.last.0 → f₂ ≡ set f₁ 0 p.first.0
        → outcome (Some r) f₂ e₁ ≡ automaton e follow enter
    unfolding glushkov
    made r f₂ places accepting stored =
        let built = whole.1 in
        let sizes : r.size ≡ size e = omega (arith, built.next) in
        let accepts : r.accepting.0 ≡ (glushkov e).accepting =
        accepting ∙ ap₂ union (ap (λ b. when b (one 0)) built.empty-path) built.lasts in
        let follow-sets : f₂ ≡ (glushkov e).follow ++ drop (suc (size e)) follow =
        stored ∙ ap₂ (λ t x. set t 0 x) built.follow-sets built.firsts
        ∙ splice_front (first 1 e) (follows 1 e) follow (omega arith)
        ∙ ap (λ n. (first 1 e ∷ follows 1 e) ++ drop (suc n) follow) (length-follows 1 e) in
        λ i. record { fine = true; size = sizes i; accepting = accepts i; follow = follow-sets i; enter = built.enter-sets i }

  -- What is read to its end is fine.
  read-fine : length s ≤ most_bytes → length s ≤ p.at → check labels s ≡ fine (numbered labels builds.sure.tree)
  unfolding nesting
  read-fine short end =
      let x = builds.sure in
      let nothing_left : drop p.at s ≡ [] = drop_of_length-le s end in
      let shallow : nesting 0 s ≤ most_nesting = rw nothing_left at x.shallow in
      whole-fine labels s x.tree short shallow x.names (omega (arith, x.next, builds.within (omega arith)))
      (x.read (calls (length s)) (omega arith) ∙ ap (parsed x.tree) nothing_left)

  makes : length s ≤ most_bytes → length s ≤ p.at → (r : Answer) (f₂ : List ℕ) → r.size ≡ p.next - 1
      → r.accepting.0 ≡ union (when p.nullable (one 0)) p.last.0 → f₂ ≡ set f₁ 0 p.first.0
      → outcome (Some r) f₂ e₁ ≡ building (check labels s) follow enter
  makes short end r f₂ places accepting stored =
      let checked = read-fine short end in
      made _ checked r f₂ places accepting stored ∙ ap (λ c. building c follow enter) (sym checked)

-- What has no part has a fault.
unbuilt : (labels : List Bytes) (s : Bytes) (follow : List ℕ) → 64 ≤ length follow → Unbuilt alternatives 3 labels s 0 1 0 follow
    → (e : Expression) → check labels s ≡ fine e → ⊥
unbuilt labels s follow room none e checked =
    let f = fine-cases labels s e checked in
    let many = leaves-size labels f.tree in
    let same = ap size f.expression in
    none.none (calls (length s)) f.tree [] (omega arith) f.whole
    record { names = f.names; few = omega (arith, f.few); long = omega (arith, f.few) } f.shallow

pub returns : goal.returns
returns c =
    let a = c.args in
    let labels = names_at a.names.text.now a.names.spans.now in
    let t = c.if-s-le-MOST_BYTES in
    let e : c.fill.new.self ≡ replicate (length t.follow) 0 = search rules in
    let f : c.fill-2.new.self ≡ replicate (length t.enter) 0 = search rules in
    let never : (x : Expression) → check labels a.s.now ≡ fine x → ⊥ = elim t.branch [
      | then-s-le-MOST_BYTES+in-Some+else-s-whole w ↦
          λ x checked. omega (
            arith,
            w.if-s-whole.false,
            fine-read labels a.s.now a.follow.now a.enter.now w.in-Some.whole
                w.alternative.new.follow w.alternative.new.enter c.requires w.in-Some.ensures x checked,
          )
      | then-s-le-MOST_BYTES+in_default w ↦ unbuilt labels a.s.now a.follow.now c.requires w.in_default.ensures.1
      | else-s-le-MOST_BYTES w ↦ too_long labels a.s.now w.if-s-le-MOST_BYTES.false
    ] in
    ap₂ (λ x y. outcome None x y) e f
    ∙ same-cleared a.follow.now a.enter.now t.follow t.enter t.auto.follow t.auto.enter
    ∙ faulted (check labels a.s.now) a.follow.now a.enter.now never

pub returns-then-s-whole : goal.returns-then-s-whole
returns-then-s-whole c =
    let a = c.args in
    let labels = names_at a.names.text.now a.names.spans.now in
    let w = c.alternative in
    makes labels a.s.now a.follow.now a.enter.now c.in-Some.whole w.new.follow w.new.enter c.requires c.in-Some.ensures
    c.if-s-le-MOST_BYTES.true c.if-s-whole.true _ _ refl
    (c.union.ensures ∙ ap (λ x. union x c.in-Some.whole.last.0) c.when-start.ensures) c.put.ensures
