-- The turns of the loops that read parts joined by a mark. Their invariant: what is to be built from here on, joined to the part read so
-- far, is what is to be built from the beginning.
use Prim.Native.Nat.{ℕ, ◌+◌, ◌≤◌, ◌<◌}
use mathlib.Core.List.{List, ◌++◌}
use mathlib.Core.Logic.{◌⊎◌, inl, inr, ⊎_elim}
use mathlib.Core.Option.{none}
use mathlib.Core.Path.{◌≡◌, sym, ap, ◌∙◌, subst}
use native.Mathlib.Omega.{arith}
use lib.ListN.{length, take, drop}
use lib.Seq.{length-take-le, drop-drop, drop_at}
use Rattle.theory.specs.Places.{Member, when}
use Rattle.theory.specs.PlacesLaws.{member-none, member_union, member-when}
use Rattle.theory.specs.Automaton.{link, follows}
use Rattle.theory.proofs.AutomatonLaws.{length-link}
use Rattle.syntax.specs.declared.cursor.Cursor.{Cursor}
use Rattle.syntax.specs.declared.parts.Part.{Part}
use Rattle.syntax.specs.Byte.{Bytes, dot, bar}
use Rattle.syntax.specs.Parser.{Parsed, past_mark, alternatives, sequences, factors}
use Rattle.syntax.specs.Resolve.{numbered}
use Rattle.syntax.specs.PlaceLaws.{Past}
use Rattle.syntax.specs.Part.{unit, nothing, either, both}
use Rattle.syntax.specs.Link.{link-over, take_link, drop-link}
use Rattle.syntax.specs.Splice.{splice}
use Rattle.syntax.specs.Joining.{either-nothing, either-either, both-unit, both-both, link-link}
use Rattle.syntax.specs.Joining.{up_to, length-up_to, take-up_to, link-up_to}
use Rattle.syntax.specs.Build.{Reads, Unbuilt, Builds, TablesKept}
use Rattle.syntax.proofs.TablesKept.{tables-same, tables-built, tables-on}
use Rattle.syntax.proofs.Ways.{alternative-none, alternative-none-after, alternative-alone, alternative-more}
use Rattle.syntax.proofs.Ways.{sequence-none, sequence-none-after, sequence-alone, sequence-more}

-- The part p has been read of alternatives that begin at the place `at₀`; the next one is read from the place `at` on.
pub record Choosing (labels : List Bytes) (s : Bytes) (at₀ k₀ d : ℕ) (follow₀ enter₀ : List ℕ) (p : Part) (at : ℕ) (follow enter : List ℕ)
    : Type 0 where
  pub onward : at₀ ≤ at
  pub counts : k₀ ≤ p.next
  pub tables : TablesKept k₀ follow₀ enter₀ follow enter
  pub whole : (r : Part) (f' e' : List ℕ) → Builds alternatives 3 labels s at p.next d follow enter r f' e'
      → Builds alternatives 3 labels s at₀ k₀ d follow₀ enter₀ (either p r) f' e'
  pub none : Unbuilt alternatives 3 labels s at p.next d follow → Unbuilt alternatives 3 labels s at₀ k₀ d follow₀

module _ (labels : List Bytes) (s : Bytes) (at₀ k₀ d : ℕ) (follow₀ enter₀ : List ℕ) where
  pub choosing-start : (p : Part) → p ≡ nothing at₀ k₀ → Choosing labels s at₀ k₀ d follow₀ enter₀ p at₀ follow₀ enter₀
  choosing-start p e =
      subst (λ x. Choosing labels s at₀ k₀ d follow₀ enter₀ x at₀ follow₀ enter₀) (sym e)
      record {
        onward = omega arith;
        counts = omega arith;
        tables = tables-same k₀ follow₀ enter₀;
        whole = λ r f' e' b.
            subst (λ x. Builds alternatives 3 labels s at₀ k₀ d follow₀ enter₀ x f' e') (sym (either-nothing at₀ k₀ r)) b;
        none = λ u. u;
      }

  pub choosing-none : (p : Part) (at : ℕ) (follow enter : List ℕ) → Choosing labels s at₀ k₀ d follow₀ enter₀ p at follow enter
      → Unbuilt sequences 2 labels s at p.next d follow → Unbuilt alternatives 3 labels s at₀ k₀ d follow₀
  choosing-none p at follow enter so_far right = so_far.none (alternative-none labels s at p.next d follow right)

  pub choosing-tables : (p : Part) (at : ℕ) (follow enter f₁ e₁ : List ℕ) → Choosing labels s at₀ k₀ d follow₀ enter₀ p at follow enter
      → TablesKept p.next follow enter f₁ e₁ → TablesKept k₀ follow₀ enter₀ f₁ e₁
  choosing-tables p at follow enter f₁ e₁ so_far right =
      tables-on k₀ p.next follow₀ enter₀ follow enter f₁ e₁ so_far.counts so_far.tables right

  module _ (p : Part) (at : ℕ) (follow enter : List ℕ) (so_far : Choosing labels s at₀ k₀ d follow₀ enter₀ p at follow enter)
      (q : Part) (f₁ e₁ : List ℕ) (right : Builds sequences 2 labels s at p.next d follow enter q f₁ e₁) where
    pub choosing-on : (c : Cursor) → Past bar s q.at c → Choosing labels s at₀ k₀ d follow₀ enter₀ (either p q) c.at f₁ e₁
    choosing-on c mark =
        record {
          onward = omega (arith, so_far.onward, right.onward, mark.next);
          counts = omega (arith, so_far.counts, right.counts);
          tables = choosing-tables p at follow enter f₁ e₁ so_far (tables-built right);
          whole = λ r f' e' b.
              subst (λ x. Builds alternatives 3 labels s at₀ k₀ d follow₀ enter₀ x f' e') (sym (either-either p q r))
              (so_far.whole (either q r) f' e'
              (alternative-more labels s at p.next d follow enter q f₁ e₁ right c r f' e' mark b));
          none = λ u. so_far.none (alternative-none-after labels s at p.next d follow enter q f₁ e₁ right c mark u);
        }

    pub choosing-end : past_mark bar (drop q.at s) ≡ none
        → Builds alternatives 3 labels s at₀ k₀ d follow₀ enter₀ (either p q) f₁ e₁
    choosing-end no-mark =
        so_far.whole q f₁ e₁ (alternative-alone labels s at p.next d follow enter q f₁ e₁ right no-mark)

-- Building from the place j on does the same on two tables that differ only in the entries before it.
module _ (f : ℕ → Bytes → Parsed) (rank : ℕ) (labels : List Bytes) (s : Bytes) (at j d : ℕ) (follow other enter : List ℕ)
    (long : length other ≡ length follow) (behind : drop j other ≡ drop j follow) (r : Part) (f₁ e₁ : List ℕ)
    (builds : Builds f rank labels s at j d other enter r f₁ e₁) where
  longs : length follow ≡ length f₁
  longs = sym (builds.same-follow ∙ long)

  spliced : (a : List ℕ) → j ≤ length follow → f₁ ≡ splice j a other → up_to j follow f₁ ≡ splice j a follow
  unfolding splice
  spliced a room e =
      let front : length (take j other) ≡ j = length-take-le j other (omega arith) in
      let rest : drop (j + length a) other ≡ drop (j + length a) follow =
      sym (drop-drop (length a) j other) ∙ ap (drop (length a)) behind ∙ drop-drop (length a) j follow in
      ap (λ x. take j follow ++ x)
      (ap (drop j) e ∙ drop_at (take j other) (a ++ drop (j + length a) other) j front ∙ ap (λ x. a ++ x) rest)

  pub builds-up_to : Builds f rank labels s at j d follow enter r (up_to j follow f₁) e₁
  builds-up_to =
      record {
        onward = builds.onward;
        counts = builds.counts;
        same-follow = length-up_to j follow f₁ longs;
        same-enter = builds.same-enter;
        kept = take-up_to j follow f₁ longs;
        lasts = builds.lasts;
        reads = reads;
        within = builds.within;
        sure = builds.sure;
      }
    where
      reads : Reads f rank labels s at j d follow enter r (up_to j follow f₁) e₁
      reads n t rest enough e room shallow =
          let all = builds.reads n t rest enough e
          record { names = room.names; few = room.few; long = omega (arith, room.long) } shallow in
          let built = all.built in
          record {
            left = all.left;
            shallow = all.shallow;
            built =
                record {
                  next = built.next;
                  empty-path = built.empty-path;
                  firsts = built.firsts;
                  lasts = built.lasts;
                  follow-sets = spliced (follows j (numbered labels t)) (omega (arith, room.long)) built.follow-sets;
                  enter-sets = built.enter-sets;
                };
          }

-- The part p has been read of a sequence that begins at the place `at₀`; the next factor is read from the place `at` on. The links from p
-- to what comes next are added to the table when that has been read.
pub record Chaining (labels : List Bytes) (s : Bytes) (at₀ k₀ d : ℕ) (follow₀ enter₀ : List ℕ) (p : Part) (at : ℕ) (follow enter : List ℕ)
    : Type 0 where
  pub onward : at₀ ≤ at
  pub counts : k₀ ≤ p.next
  pub tables : TablesKept k₀ follow₀ enter₀ follow enter
  pub lasts : (x : ℕ) → Member x p.last.0 → (k₀ ≤ x) × (x < p.next)
  pub whole : (r : Part) (f' e' : List ℕ) → Builds sequences 2 labels s at p.next d follow enter r f' e'
      → Builds sequences 2 labels s at₀ k₀ d follow₀ enter₀ (both p r) (link p.last.0 r.first.0 0 f') e'
  pub none : Unbuilt sequences 2 labels s at p.next d follow → Unbuilt sequences 2 labels s at₀ k₀ d follow₀

module _ (labels : List Bytes) (s : Bytes) (at₀ k₀ d : ℕ) (follow₀ enter₀ : List ℕ) where
  same-builds : (p q : Part) (f₁ f₂ e₁ : List ℕ) → p ≡ q → f₁ ≡ f₂ → Builds sequences 2 labels s at₀ k₀ d follow₀ enter₀ q f₂ e₁
      → Builds sequences 2 labels s at₀ k₀ d follow₀ enter₀ p f₁ e₁
  same-builds p q f₁ f₂ e₁ same same-table b =
      subst (λ x. Builds sequences 2 labels s at₀ k₀ d follow₀ enter₀ x f₁ e₁) (sym same)
      (subst (λ x. Builds sequences 2 labels s at₀ k₀ d follow₀ enter₀ q x e₁) (sym same-table) b)

  pub chaining-start : (p : Part) → p ≡ unit at₀ k₀ → Chaining labels s at₀ k₀ d follow₀ enter₀ p at₀ follow₀ enter₀
  chaining-start p e =
      subst (λ x. Chaining labels s at₀ k₀ d follow₀ enter₀ x at₀ follow₀ enter₀) (sym e)
      record {
        onward = omega arith;
        counts = omega arith;
        tables = tables-same k₀ follow₀ enter₀;
        lasts = λ x m. absurd (member-none x m);
        whole = λ r f' e' b.
            same-builds (both (unit at₀ k₀) r) r (link 0 r.first.0 0 f') f' e' (both-unit at₀ k₀ r) (link-over r.first.0 f') b;
        none = λ u. u;
      }

  pub chaining-none : (p : Part) (at : ℕ) (follow enter : List ℕ) → Chaining labels s at₀ k₀ d follow₀ enter₀ p at follow enter
      → Unbuilt factors 1 labels s at p.next d follow → Unbuilt sequences 2 labels s at₀ k₀ d follow₀
  chaining-none p at follow enter so_far right = so_far.none (sequence-none labels s at p.next d follow right)

  pub chaining-tables : (p : Part) (at : ℕ) (follow enter f₁ e₁ : List ℕ) → Chaining labels s at₀ k₀ d follow₀ enter₀ p at follow enter
      → TablesKept p.next follow enter f₁ e₁ → TablesKept k₀ follow₀ enter₀ f₁ e₁
  chaining-tables p at follow enter f₁ e₁ so_far right =
      tables-on k₀ p.next follow₀ enter₀ follow enter f₁ e₁ so_far.counts so_far.tables right

  module _ (p : Part) (at : ℕ) (follow enter : List ℕ) (so_far : Chaining labels s at₀ k₀ d follow₀ enter₀ p at follow enter)
      (q : Part) (f₁ e₁ : List ℕ) (right : Builds factors 1 labels s at p.next d follow enter q f₁ e₁) where
    abbrev linked : List ℕ
    linked = link p.last.0 q.first.0 0 f₁

    before : (x : ℕ) → Member x p.last.0 → x < q.next
    before x m = omega (arith, (so_far.lasts x m).1, right.counts)

    whole-on : (c : Cursor) → Past dot s q.at c → (r : Part) (f' e' : List ℕ)
        → Builds sequences 2 labels s c.at q.next d linked e₁ r f' e'
        → Builds sequences 2 labels s at₀ k₀ d follow₀ enter₀ (both (both p q) r) (link (both p q).last.0 r.first.0 0 f') e'
    whole-on c mark r f' e' b =
        let long : length linked ≡ length f₁ = length-link p.last.0 q.first.0 0 f₁ in
        let f'' : List ℕ = up_to q.next f₁ f' in
        let alike = builds-up_to sequences 2 labels s c.at q.next d f₁ linked e₁ long
        (drop-link p.last.0 q.first.0 q.next f₁ before) r f' e' b in
        let more = sequence-more labels s at p.next d follow enter q f₁ e₁ right c r f'' e' mark alike in
        let same : f' ≡ link p.last.0 q.first.0 0 f'' =
        sym (link-up_to p.last.0 q.first.0 q.next f₁ f' (sym (b.same-follow ∙ long)) b.kept before) in
        same-builds (both (both p q) r) (both p (both q r)) (link (both p q).last.0 r.first.0 0 f')
        (link p.last.0 (both q r).first.0 0 (link q.last.0 r.first.0 0 f'')) e' (both-both p q r)
        (ap (link (both p q).last.0 r.first.0 0) same
        ∙ link-link q.nullable p.last.0 q.last.0 q.first.0 r.first.0 0 f'')
        (so_far.whole (both q r) (link q.last.0 r.first.0 0 f'') e' more)

    own : (x : ℕ) → Member x p.last.0 ⊎ Member x q.last.0 → (k₀ ≤ x) × (x < q.next)
    own x (inl m) = ((so_far.lasts x m).0, before x m)
    own x (inr m) = (omega (arith, so_far.counts, (right.lasts x m).0), (right.lasts x m).1)

    -- The links from p are in entries of its own places.
    tables_linked : TablesKept k₀ follow₀ enter₀ linked e₁
    tables_linked =
        let all = chaining-tables p at follow enter f₁ e₁ so_far (tables-built right) in
        record {
          same-follow = length-link p.last.0 q.first.0 0 f₁ ∙ all.same-follow;
          same-enter = all.same-enter;
          kept = take_link p.last.0 q.first.0 k₀ f₁ (λ x m. (so_far.lasts x m).0) ∙ all.kept;
        }

    pub chaining-on : (c : Cursor) → Past dot s q.at c → Chaining labels s at₀ k₀ d follow₀ enter₀ (both p q) c.at linked e₁
    chaining-on c mark =
        record {
          onward = omega (arith, so_far.onward, right.onward, mark.next);
          counts = omega (arith, so_far.counts, right.counts);
          tables = tables_linked;
          lasts = λ x m. own x (⊎_elim (λ n. inl ((member-when q.nullable x p.last.0).0 n).1) inr
              ((member_union x (when q.nullable p.last.0) q.last.0).0 m));
          whole = whole-on c mark;
          none = λ u. so_far.none (sequence-none-after labels s at p.next d follow enter q f₁ e₁ right c mark linked
              (length-link p.last.0 q.first.0 0 f₁) u);
        }

    pub chaining-end : past_mark dot (drop q.at s) ≡ none
        → Builds sequences 2 labels s at₀ k₀ d follow₀ enter₀ (both p q) linked e₁
    chaining-end no-mark = so_far.whole q f₁ e₁ (sequence-alone labels s at p.next d follow enter q f₁ e₁ right no-mark)
