-- An occurrence of a label: what the parser of names reads is the run of name bytes, and its place is the next one.
use Prim.Native.Nat.{ℕ, ◌+◌, ◌-◌, ◌≤◌, ◌<◌}
use mathlib.Core.Bool.{Bool, true, false, ◌&&◌, false≢true}
use mathlib.Core.List.{List, [], ◌∷◌}
use mathlib.Core.Path.{◌≡◌, refl, sym, ap, ◌∙◌, subst}
use native.Mathlib.Nat.{zero-lt-suc}
use native.Mathlib.Omega.{arith}
use lib.Dec.{ltb}
use lib.ListN.{length, take, drop, set, get_or, length-set, length-drop}
use lib.Seq.{take-set-le}
use borrow.Author.Tests.{lt-ltb, le-ltb}
use Rattle.theory.specs.Expression.{label}
use Rattle.theory.specs.Places.{Member, none, one, union, when}
use Rattle.theory.specs.PlacesLaws.{member-one}
use Rattle.places.specs.declared.Places.{Places}
use Rattle.syntax.specs.declared.parts.Part.{Part}
use Rattle.syntax.specs.Byte.{Bytes}
use Rattle.syntax.specs.Name.{is_name, find}
use Rattle.syntax.specs.Grammar.{Tree}
use Rattle.syntax.specs.Parser.{Parsed, failed, parsed, run, past_run, named}
use Rattle.syntax.specs.Limits.{nesting, leaves}
use Rattle.syntax.specs.NestingLaws.{run-nests}
use Rattle.syntax.specs.Resolve.{numbered, known}
use Rattle.syntax.specs.Part.{single}
use Rattle.syntax.specs.Build.{Room, Reads, Unbuilt, Builds}
use Rattle.syntax.specs.BuildLaws.{built-label}
use Rattle.std.specs.Prelude.{Some, None}
use Rattle.syntax.specs.declared.cursor.Cursor.{Cursor}
use Rattle.syntax.specs.Name.{place_of}
use Rattle.syntax.specs.Place.{parsed_to}
use Rattle.syntax.specs.TableLaws.{place-found, place-missing}
use Rattle.syntax.specs.Unread.{named-unread}
use Rattle.syntax.proofs.Reading.{parsed-to, parsed-onward, not-parsed}
use Rattle.syntax.proofs.Run.{run-part}

name-some : (n : Bytes) → is_name n ≡ true → 0 < length n
unfolding is_name
name-some [] e = absurd (false≢true e)
name-some (b ∷ n) e = zero-lt-suc (length n)

named-cases : (s : Bytes) (t : Tree) (rest : Bytes) → named s ≡ parsed t rest → (t ≡ label (run s)) × (rest ≡ past_run s) × (0 < length (run s))
unfolding named
named-cases s t rest e = go (is_name (run s)) refl e
  where
    go : (b : Bool) → is_name (run s) ≡ b → elim b as (λ x. Parsed) [ true ↦ parsed (label (run s)) (past_run s) | false ↦ failed ] ≡ parsed t rest
        → (t ≡ label (run s)) × (rest ≡ past_run s) × (0 < length (run s))
    go true d e = (cc, cc, name-some (run s) d)
    go false d e = let z : ◌≡◌ {A = ℕ} 0 1 = cc in absurd (omega arith)

-- A name stands at the place `at`, and ends at the place `end`.
pub record NameAt (s : Bytes) (at end : ℕ) : Type 0 where
  pub onward : at < end
  pub in_text : end ≤ length s
  pub there : named (drop at s) ≡ parsed (label (run (drop at s))) (drop end s)
  pub left : drop end s ≡ past_run (drop at s)
  pub part : take (end - at) (drop at s) ≡ run (drop at s)

pub name-at : (s : Bytes) (at : ℕ) (end : Cursor) → Some end ≡ parsed_to s (named (drop at s)) → NameAt s at end.at
name-at s at end e =
    let (t, reads) = parsed-to s at (named (drop at s)) end (named-unread (drop at s)) e in
    let (onward, in_text) = parsed-onward s at (named (drop at s)) end (named-unread (drop at s)) e in
    let (name, left, some) = named-cases (drop at s) t (drop end.at s) reads in
    let n : end.at - at ≡ length (drop at s) - length (past_run (drop at s)) =
    omega (arith, ap length left, length-drop at s, length-drop end.at s) in
    record {
      onward = onward;
      in_text = in_text;
      there = reads ∙ ap (λ x. parsed x (drop end.at s)) name;
      left = left;
      part = ap (λ m. take m (drop at s)) n ∙ run-part (drop at s);
    }

module _ (labels : List Bytes) (s : Bytes) (at k : ℕ) (follow : List ℕ) where
  pub occurrence-read : (end : ℕ) → NameAt s at end → (enter : List ℕ) (a : ℕ) (p : Places) (r : Part) (f₁ e₁ : List ℕ) → k < 64
      → Some a ≡ place_of (take (end - at) (drop at s)) labels
      → p.0 ≡ when (ltb k 64) (one k) → f₁ ≡ set follow k none → e₁ ≡ set enter a (union (get_or enter a 0) p.0)
      → r ≡ single end (k + 1) p → (d : ℕ) → Builds (λ n. named) 0 labels s at k d follow enter r f₁ e₁
  unfolding numbered leaves known
  occurrence-read end at_name enter a p r f₁ e₁ few found place stored entered same d =
      record {
        onward = omega (arith, at_name.onward, ap (λ (x : Part). x.at) same);
        counts = omega (arith, ap (λ (x : Part). x.next) same);
        same-follow = ap length stored ∙ length-set follow k none;
        same-enter = ap length entered ∙ length-set enter a (union (get_or enter a 0) p.0);
        kept = ap (take k) stored ∙ take-set-le k follow k none (omega arith);
        lasts = lasts;
        reads = reads;
        within = λ h. omega (arith, ap (λ (x : Part). x.next) same);
        sure = record {
          tree = label (run (drop at s));
          read = λ n enough. at_name.there ∙ ap (λ (x : Part). parsed (label (run (drop at s))) (drop x.at s)) (sym same);
          names = ap (λ b. b && true) (lt-ltb (find (run (drop at s)) 0 labels) (length labels) (omega (arith, named-a)));
          next = ap (λ (x : Part). x.next) same;
          shallow = omega (arith, nests);
        };
      }
    where
      found-a : (a ≡ find (take (end - at) (drop at s)) 0 labels) × (a < length labels)
      found-a = place-found (take (end - at) (drop at s)) labels a found

      is_one : p.0 ≡ one k
      is_one = place ∙ ap (λ b. when b (one k)) (lt-ltb k 64 few)

      lasts : (x : ℕ) → Member x r.last.0 → (k ≤ x) × (x < r.next)
      lasts x m =
          let here : x ≡ k = (member-one x k).0 (subst (Member x) (ap (λ (y : Part). y.last.0) same ∙ is_one) m) in
          (omega arith, omega (arith, ap (λ (y : Part). y.next) same))

      entered-one : e₁ ≡ set enter a (union (get_or enter a 0) (one k))
      entered-one = entered ∙ ap (λ x. set enter a (union (get_or enter a 0) x)) is_one

      named-a : (find (run (drop at s)) 0 labels ≡ a) × (a < length labels)
      named-a = (ap (λ n. find n 0 labels) (sym at_name.part) ∙ sym found-a.0, found-a.1)

      left : drop r.at s ≡ past_run (drop at s)
      left = ap (λ (x : Part). drop x.at s) same ∙ at_name.left

      nests : nesting d (drop at s) ≡ nesting d (drop r.at s)
      nests = run-nests d (drop at s) ∙ ap (nesting d) (sym left)

      reads : Reads (λ n. named) 0 labels s at k d follow enter r f₁ e₁
      reads n t rest enough e room shallow =
          let (name, gone, some) = named-cases (drop at s) t rest e in
          let is : numbered labels t ≡ label a = ap (numbered labels) name ∙ ap label named-a.0 in
          let small : Room labels (label (run (drop at s))) k follow = rw name at room in
          record {
            left = left ∙ sym gone;
            shallow = rw (gone, ← left) (omega (arith, nests));
            built = rw (is, same, stored, entered-one) (built-label k a end p follow enter is_one (omega (arith, small.long)));
          }

  -- No name stands there.
  pub no_name : None ≡ parsed_to s (named (drop at s)) → (d : ℕ) → Unbuilt (λ n. named) 0 labels s at k d follow
  no_name h d =
      record {
        none = λ n t rest enough e room shallow.
            let f : named (drop at s) ≡ failed = not-parsed s at (named (drop at s)) h in
            let z : ◌≡◌ {A = ℕ} 0 1 = cc in
            omega arith;
      }

  -- No place is left.
  pub no_place : 64 ≤ k → (d : ℕ) → Unbuilt (λ n. named) 0 labels s at k d follow
  unfolding leaves
  no_place h d =
      record {
        none = λ n t rest enough e room shallow.
            let (name, gone, some) = named-cases (drop at s) t rest e in
            let small : Room labels (label (run (drop at s))) k follow = rw name at room in
            omega (arith, small.few);
      }

  -- The name is of no label.
  pub unknown : (end : ℕ) → NameAt s at end → None ≡ place_of (take (end - at) (drop at s)) labels
      → (d : ℕ) → Unbuilt (λ n. named) 0 labels s at k d follow
  unfolding leaves known
  unknown end at_name missing d =
      record {
        none = λ n t rest enough e room shallow.
            let (name, gone, some) = named-cases (drop at s) t rest e in
            let small : Room labels (label (run (drop at s))) k follow = rw name at room in
            let l : length labels ≤ find (run (drop at s)) 0 labels =
            rw at_name.part at (place-missing (take (end - at) (drop at s)) labels missing) in
            let no : ltb (find (run (drop at s)) 0 labels) (length labels) ≡ false =
            le-ltb (find (run (drop at s)) 0 labels) (length labels) l in
            false≢true (ap (λ b. b && true) (sym no) ∙ small.names);
      }
