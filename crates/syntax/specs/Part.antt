-- Parts of an expression as Glushkov's construction joins them.
use Rattle.std.specs.Prelude.{ℕ, Bool, true, false, ◌||◌, ◌&&◌, ◌≡◌}
use Rattle.places.specs.declared.Places.{Places}
use Rattle.theory.specs.Places.{none, union, when}
use Rattle.syntax.specs.declared.parts.Part.{Part}

abbrev pub places : ℕ → Places
places s = record { 0 = s }

-- `()`, which ends at the byte `at` and before the place `next`.
abbrev pub unit : ℕ → ℕ → Part
unit at next = record { at = at; next = next; nullable = true; first = places none; last = places none }

-- The part before all alternatives: it has no path.
abbrev pub nothing : ℕ → ℕ → Part
nothing at next = record { at = at; next = next; nullable = false; first = places none; last = places none }

-- One occurrence of a label.
abbrev pub single : ℕ → ℕ → Places → Part
single at next place = record { at = at; next = next; nullable = false; first = place; last = place }

-- A part or the one read after it.
abbrev pub either : Part → Part → Part
either l r =
    record {
      at = r.at;
      next = r.next;
      nullable = l.nullable || r.nullable;
      first = places (union l.first.0 r.first.0);
      last = places (union l.last.0 r.last.0);
    }

-- A part and then the one read after it.
abbrev pub both : Part → Part → Part
both l r =
    record {
      at = r.at;
      next = r.next;
      nullable = l.nullable && r.nullable;
      first = places (union l.first.0 (when l.nullable r.first.0));
      last = places (union (when r.nullable l.last.0) r.last.0);
    }

-- A part is known by its numbers.
pub same-part : (p q : Part) → p.at ≡ q.at → p.next ≡ q.next → p.nullable ≡ q.nullable → p.first.0 ≡ q.first.0
    → p.last.0 ≡ q.last.0 → p ≡ q
same-part p q at next nullable first last =
    λ i. record { at = at i; next = next i; nullable = nullable i; first = record { 0 = first i }; last = record { 0 = last i } }

-- A part with the marks after it, which end at the byte `at` and leave it with or without the empty path.
abbrev pub ended : ℕ → Bool → Part → Part
ended at n p = record { at = at; next = p.next; nullable = n; first = p.first; last = p.last }
