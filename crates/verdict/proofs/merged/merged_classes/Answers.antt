-- Where each test holds, the classes are found; where one fails, there are none.
use Rattle.std.specs.Prelude.{◌≡◌, ℕ, ◌+◌}
use mathlib.Core.Path.{◌∙◌, subst}
use native.Mathlib.Nat.{mul-le-mul_left}
use Rattle.verdict.specs.Tables.{occupied}
use Rattle.verdict.specs.TablesLaws.{ready-width}
use Rattle.verdict.specs.Classes.{Numbered}
use native.Mathlib.Omega.{arith}
use borrow.Author.Rules.{rules}
use Rattle.verdict.proofs.merged.merged_classes.Goals as goal

pub leading-requires : goal.leading-requires
leading-requires c =
    let s = c in
    let r = c.in_ok-w.ensures.told.ready c.in_ok-w.ensures.some in
    (s.requires.0, r.follow-room, s.requires.1)

pub classify-requires : goal.classify-requires
classify-requires c =
    let s = c in
    let r = c.in_ok-w.ensures.told.ready c.in_ok-w.ensures.some in (
      s.requires.0,
      omega (arith, c.if-tables-gt32.false),
      r.follow-room,
      r.enter-room,
      omega (arith, s.requires.1, c.leading.auto.before),
      (c.leading.ensures c.if-not-leading.false).within,
      omega (arith, r.wide),
      omega (arith, r.wide, s.requires.2),
      omega (arith, r.wide, s.requires.3),
    )

pub merge-requires : goal.merge-requires
merge-requires c =
    let s = c in
    let r = c.in_ok-w.ensures.told.ready c.in_ok-w.ensures.some in
    let f = c.classify in
    let wide : c.in_ok-w.w ≡ occupied s.args.tables.sizes.now 0 s.args.tables.lists + 1 = omega (arith, r.wide) in (
      s.requires.0,
      omega (arith, c.if-tables-gt32.false),
      r.enter-room,
      omega (arith, s.requires.1, c.leading.auto.before),
      (c.leading.ensures c.if-not-leading.false).within,
      omega (arith, s.requires.2, f.auto.keys),
      subst (λ (z : ℕ). Numbered z c.in_ok-k.k f.new.classes) wide c.in_ok-k.ensures.0,
      omega (arith, s.requires.3, f.auto.classes),
      c.in_ok-k.ensures.1 ∙ s.requires.4,
      search rules,
    )

pub ending_lists-requires : goal.ending_lists-requires
ending_lists-requires c =
    let s = c in
    let r = c.in_ok-w.ensures.told.ready c.in_ok-w.ensures.some in
    let f = c.classify in
    let numbered = c.in_ok-k.ensures.0 in (
      s.requires.0,
      r.accepting-room,
      omega (arith, s.requires.3, f.auto.classes),
      λ o a b. omega (arith, numbered.few, (numbered.inside o a (omega (arith, r.wide))).1),
      s.requires.5,
    )

pub returns : goal.returns
returns c =
    let s = c in
    let w = c.in_ok-w.w in
    let r = c.in_ok-w.ensures.told.ready c.in_ok-w.ensures.some in
    let f = c.classify in
    let numbered = c.in_ok-k.ensures.0 in
    record {
      ready = ready-width s.args.tables.states s.args.tables.lists w _ _ _ _ _ r;
      some-class = numbered.some;
      few-classes = numbered.few;
      few-places = omega (arith, r.few-places, mul-le-mul_left s.args.tables.states numbered.narrow);
      few-labels = omega (arith, c.if-tables-gt32.false);
      before = c.leading.new.before;
      leading = c.leading.ensures c.if-not-leading.false;
      stable = c.merge.ensures c.if-not-merge.false;
      ending = c.ending_lists.ensures;
    }
