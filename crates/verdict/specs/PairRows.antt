-- What the loops of the exploration of pairs keep, and what one turn of each does: what is left gives what the whole gives.
use Rattle.std.specs.Prelude.{◌≡◌, ℕ, suc, ◌+◌, ◌-◌, ◌*◌, ◌<◌, ◌≤◌, Bool, true, false, not, List, [], ◌∷◌, ◌++◌, length, ◌≢◌, slice_index, slice_index_or, Option, Some, None}
use Rattle.std.proofs.Math.Path.{refl, sym, ap, subst}
use Rattle.std.proofs.Common.{◌∙◌, add-one}
use native.Mathlib.Omega.{arith}
use Rattle.std.proofs.Math.ListN.{length-append}
use Rattle.theory.specs.Automaton.{step}
use Rattle.theory.specs.Exploration.{Entry, over, known, grow, extend, row, sweep, explore}
use Rattle.theory.specs.Explored.{entry_at}
use Rattle.theory.proofs.ExplorationSteps.{grow-known, grow-new, grow-over, extend-some, row-end, row_on, row-over, sweep-end, sweep-on, sweep-over}
use Rattle.theory.proofs.ExplorationSteps.{explore-some, explore-none}
use Rattle.places.specs.Words.{number_of}
use Rattle.verdict.specs.Cover.{cover_step}
use Rattle.verdict.specs.CoverTold.{StartStands, StepStands}
use Rattle.verdict.specs.Coded.{Layout, StandsAs, Coded}
use Rattle.verdict.specs.Pairs.{Pair, pairs}
use Rattle.verdict.specs.PairCounts.{pair-tests}
use Rattle.verdict.specs.PairTable.{words_at, Holds, Stored, Seen}
use Rattle.verdict.specs.PairTableLaws.{same-words, earlier-entry, holds-first, holds_more, stored-pair, seen-known, seen-new}
use Rattle.verdict.specs.Tables.{automaton_at, automata_of, rewritten}
use Rattle.verdict.specs.Workspace.{pair}
use Rattle.verdict.specs.PairsTold.{Lent, Lending, system_of, QueryStep, RowCase, RowTold, PairsCase, PairsTold}

-- The labels of the entry number i: the labels from a on are left, and m entries are found.
pub record RowLeft (D : Lent) (L : Layout) (flags : List ℕ) (limit i a : ℕ) (l : List (Entry Pair)) (m : ℕ) (space : List ℕ) : Type 0 where
  pub entries : List (Entry Pair)
  pub held : Holds L D.states (system_of D flags) space entries
  pub count : length entries ≡ m
  pub entry : entry_at (system_of D flags) entries i ≡ entry_at (system_of D flags) l i
  pub left : row (system_of D flags) limit (entry_at (system_of D flags) l i) (D.labels - a) a entries
      ≡ row (system_of D flags) limit (entry_at (system_of D flags) l i) D.labels 0 l

pub record RowLoop (D : Lent) (L : Layout) (limit i n : ℕ) (space₀ : List ℕ) (a m : ℕ) (space : List ℕ) : Type 0 where
  pub symbol : a ≤ D.labels
  pub kept : n ≤ m
  pub within : m ≤ limit
  pub size : length space ≡ length space₀
  pub words : words_at space (18 * i + 1) 16 ≡ words_at space₀ (18 * i + 1) 16
  pub beyond : (j : ℕ) → 18 * limit ≤ j → slice_index space j ≡ slice_index space₀ j
  pub told : Lending D → (flags : List ℕ) (l : List (Entry Pair)) → Holds L D.states (system_of D flags) space₀ l → length l ≡ n
      → RowLeft D L flags limit i a l m space

-- The pair that the label a leads to from the pair number i.
pub record Stepped (D : Lent) (L : Layout) (space : List ℕ) (i a standing : ℕ) (cover : List ℕ) : Type 0 where
  pub from : ℕ
  pub from_at : slice_index_or space (18 * i) 0 ≡ from
  pub words : List ℕ
  pub words-at : words ≡ words_at space (18 * i + 1) 16
  pub query : QueryStep D.follow D.enter D.sizes a from standing
  pub covered : StepStands L D.states D.lists D.follow D.enter D.sizes D.accepting D.table a words cover

pub row-start : (D : Lent) (L : Layout) (limit i n : ℕ) (space : List ℕ) → n ≤ limit → RowLoop D L limit i n space 0 n space
row-start D L limit i n space h =
    record {
      symbol = omega arith;
      kept = omega arith;
      within = h;
      size = refl;
      words = refl;
      beyond = λ j k. refl;
      told = λ p flags l held count.
          record {
            entries = l;
            held = held;
            count = count;
            entry = refl;
            left =
                let e : D.labels - 0 ≡ D.labels = omega arith in
                ap (λ k. row (system_of D flags) limit (entry_at (system_of D flags) l i) k 0 l) e;
          };
    }

module _ (D : Lent) (L : Layout) (limit i n : ℕ) (space₀ : List ℕ) (a m : ℕ) (space : List ℕ) (loop : RowLoop D L limit i n space₀ a m space)
    (more : a < D.labels) (inside : i < n) (standing : ℕ) (cover : List ℕ) (stepped : Stepped D L space₀ i a standing cover) where
  module _ (p : Lending D) (flags : List ℕ) (l : List (Entry Pair)) (held : Holds L D.states (system_of D flags) space₀ l) (count : length l ≡ n) where
    -- The pair that the system's step gives stands as the pair computed.
    next : Pair
    next =
        record {
          standing = step (automaton_at D.follow D.enter D.sizes D.accepting 0) (entry_at (system_of D flags) l i).value.standing a;
          cover = cover_step (rewritten D.states D.table flags) (automata_of D.follow D.enter D.sizes D.accepting D.lists)
              (entry_at (system_of D flags) l i).value.cover a;
        }

    next-coded : Coded L D.states next (pair standing cover)
    unfolding next
    next-coded =
        let b : i < length l = omega (arith, count) in
        let k : a < 32 = omega (arith, p.few-labels) in
        let r = p.proper.ready in
        let e = held.value i b in
        record {
          standing =
              ap (λ x. step (automaton_at D.follow D.enter D.sizes D.accepting 0) x a) (e.standing ∙ stepped.from_at)
              ∙ sym (stepped.query.told p.query (omega (arith, r.follow-room)) (omega (arith, r.enter-room)) k (omega (arith, r.counted.room)) D.accepting);
          cover =
              stepped.covered.told p.proper k flags (entry_at (system_of D flags) l i).value.cover
              (subst (λ x. StandsAs L D.states (entry_at (system_of D flags) l i).value.cover (number_of x)) (sym stepped.words-at) e.cover);
        }

    new : Entry Pair
    new = record { value = next; trail = a ∷ (entry_at (system_of D flags) l i).trail }

    s : RowLeft D L flags limit i a l m space
    s = loop.told p flags l held count

    extended : extend (system_of D flags) limit (entry_at (system_of D flags) l i) a s.entries ≡ grow (system_of D flags) limit new s.entries
    unfolding new next
    extended = extend-some (system_of D flags) limit (entry_at (system_of D flags) l i) a s.entries next refl

    whole : row (system_of D flags) limit (entry_at (system_of D flags) l i) (suc (D.labels - (a + 1))) a s.entries
        ≡ row (system_of D flags) limit (entry_at (system_of D flags) l i) D.labels 0 l
    whole =
        let e : suc (D.labels - (a + 1)) ≡ D.labels - a = omega arith in
        ap (λ k. row (system_of D flags) limit (entry_at (system_of D flags) l i) k a s.entries) e ∙ s.left

    left-known : (r : Bool) → Seen m space (pair standing cover) r → r ≡ true → RowLeft D L flags limit i (a + 1) l m space
    unfolding new
    left-known r seen e =
        record {
          entries = s.entries;
          held = s.held;
          count = s.count;
          entry = s.entry;
          left =
              ap (λ k. row (system_of D flags) limit (entry_at (system_of D flags) l i) (D.labels - (a + 1)) k s.entries) (add-one a)
              ∙ sym (row_on (system_of D flags) limit (entry_at (system_of D flags) l i) (D.labels - (a + 1)) a s.entries s.entries
              (extended ∙ grow-known (system_of D flags) limit new s.entries
              (seen-known L D.states (system_of D flags) (pair-tests _ _ _ _) space s.entries s.held m s.count next (pair standing cover) next-coded r seen e)))
              ∙ whole;
        }

    fresh : (r : Bool) → Seen m space (pair standing cover) r → r ≡ false → known (system_of D flags) new.value s.entries ≡ false
    unfolding new
    fresh r seen e =
        seen-new L D.states (system_of D flags) (pair-tests _ _ _ _) space s.entries s.held m s.count next (pair standing cover) next-coded r seen
        p.proper.some-state e

    left-new : (r : Bool) (space' : List ℕ) → Seen m space (pair standing cover) r → r ≡ false → m < limit → limit ≤ 4096
        → length cover ≡ 16 → Stored space m standing cover (a * 8192 + i) space' → RowLeft D L flags limit i (a + 1) l (m + 1) space'
    unfolding new
    left-new r space' seen e room few sized stored =
        record {
          entries = s.entries ++ (new ∷ []);
          held =
              subst (λ t. Holds L D.states (system_of D flags) space' (s.entries ++ (record { value = next; trail = a ∷ t } ∷ [])))
              (ap (λ x. x.trail) s.entry)
              (holds_more L D.states (system_of D flags) space space' s.entries i a next standing cover s.held
              (subst (λ k. Stored space k standing cover (a * 8192 + i) space') (sym s.count) stored) sized next-coded
              (omega (arith, s.count, loop.kept)) (omega (arith, loop.kept)) (omega (arith, p.few-labels)));
          count = length-append s.entries (new ∷ []) ∙ omega (arith, s.count);
          entry = earlier-entry (system_of D flags) s.entries new i (omega (arith, s.count, loop.kept)) ∙ s.entry;
          left =
              ap (λ k. row (system_of D flags) limit (entry_at (system_of D flags) l i) (D.labels - (a + 1)) k (s.entries ++ (new ∷ []))) (add-one a)
              ∙ sym (row_on (system_of D flags) limit (entry_at (system_of D flags) l i) (D.labels - (a + 1)) a s.entries (s.entries ++ (new ∷ []))
              (extended ∙ grow-new (system_of D flags) limit new s.entries (fresh r seen e) (omega (arith, s.count))))
              ∙ whole;
        }

    left_over : (r : Bool) → Seen m space (pair standing cover) r → r ≡ false → limit ≤ m
        → row (system_of D flags) limit (entry_at (system_of D flags) l i) D.labels 0 l ≡ over
    unfolding new
    left_over r seen e full =
        sym whole
        ∙ row-over (system_of D flags) limit (entry_at (system_of D flags) l i) (D.labels - (a + 1)) a s.entries
        (extended ∙ grow-over (system_of D flags) limit new s.entries (fresh r seen e) (omega (arith, s.count)))

  -- The pair is known.
  pub row-known : (r : Bool) → Seen m space (pair standing cover) r → r ≡ true → RowLoop D L limit i n space₀ (a + 1) m space
  row-known r seen e =
      record {
        symbol = omega arith;
        kept = loop.kept;
        within = loop.within;
        size = loop.size;
        words = loop.words;
        beyond = loop.beyond;
        told = λ p flags l held count. left-known p flags l held count r seen e;
      }

  -- It is new, and stored.
  pub row_new : (r : Bool) (space' : List ℕ) → Seen m space (pair standing cover) r → r ≡ false → m < limit → limit ≤ 4096 → length cover ≡ 16
      → Stored space m standing cover (a * 8192 + i) space' → RowLoop D L limit i n space₀ (a + 1) (m + 1) space'
  row_new r space' seen e room few sized stored =
      record {
        symbol = omega arith;
        kept = omega (arith, loop.kept);
        within = omega arith;
        size = stored.size ∙ loop.size;
        words =
            same-words space space' (18 * i + 1) 16 (λ j k. stored.others (18 * i + 1 + j) (λ x y. omega (arith, loop.kept))) ∙ loop.words;
        beyond = λ j k. stored.others j (λ x y. omega arith) ∙ loop.beyond j k;
        told = λ p flags l held count. left-new p flags l held count r space' seen e room few sized stored;
      }

  -- It is new, and there is no room.
  pub row-exceeds : (r : Bool) → Seen m space (pair standing cover) r → r ≡ false → limit ≤ m → RowTold D L limit i n space₀ None space
  unfolding RowCase
  row-exceeds r seen e full =
      record {
        bounds = λ k q. absurd (over-not-all q);
        beyond = loop.beyond;
        told = λ p flags l held count. left_over p flags l held count r seen e full;
      }
    where
      over-not-all : {k : ℕ} → None ≢ Some k
      over-not-all q = let z : ◌≡◌ {A = ℕ} 0 1 = cc in omega arith

-- All labels are tried.
pub row_told : (D : Lent) (L : Layout) (limit i n : ℕ) (space₀ : List ℕ) (a m : ℕ) (space : List ℕ) → RowLoop D L limit i n space₀ a m space → D.labels ≤ a
    → RowTold D L limit i n space₀ (Some m) space
unfolding RowCase
row_told D L limit i n space₀ a m space loop h =
    record {
      bounds = λ k q. let z : m ≡ k = cc in (omega (arith, loop.kept), omega (arith, loop.within));
      beyond = loop.beyond;
      told = λ p flags l held count.
          let s = loop.told p flags l held count in
          let e : D.labels - a ≡ 0 = omega arith in (
            s.entries,
            sym s.left ∙ ap (λ k. row (system_of D flags) limit (entry_at (system_of D flags) l i) k a s.entries) e
                ∙ row-end (system_of D flags) limit (entry_at (system_of D flags) l i) a s.entries,
            s.held,
            s.count,
          );
    }

-- All entries: those from i on are left, and n are found.
pub record SweepLeft (D : Lent) (L : Layout) (flags : List ℕ) (limit i n : ℕ) (space : List ℕ) : Type 0 where
  pub entries : List (Entry Pair)
  pub held : Holds L D.states (system_of D flags) space entries
  pub count : length entries ≡ n
  pub left : sweep (system_of D flags) limit (limit - i) i entries ≡ explore (system_of D flags) limit

pub record SweepLoop (D : Lent) (L : Layout) (limit : ℕ) (space₀ : List ℕ) (i n : ℕ) (space : List ℕ) : Type 0 where
  pub inside : i ≤ n
  pub within : n ≤ limit
  pub size : length space ≡ length space₀
  pub beyond : (j : ℕ) → 18 * limit ≤ j → slice_index space j ≡ slice_index space₀ j
  pub told : Lending D → (flags : List ℕ) → SweepLeft D L flags limit i n space

-- The first pair is stored.
pub sweep-start : (D : Lent) (L : Layout) (limit : ℕ) (space₀ space : List ℕ) (cover : List ℕ) → 0 < limit → length cover ≡ 16
    → StartStands L D.states D.lists D.follow D.enter D.sizes D.accepting D.table cover → Stored space₀ 0 1 cover 0 space
    → SweepLoop D L limit space 0 1 space
sweep-start D L limit space₀ space cover room sized started stored =
    record {
      inside = omega arith;
      within = room;
      size = refl;
      beyond = λ j k. refl;
      told = λ p flags.
          record {
            entries = record { value = (system_of D flags).start; trail = [] } ∷ [];
            held =
                holds-first L D.states (system_of D flags) space
                (subst (Coded L D.states (system_of D flags).start) (sym (stored-pair stored sized))
                (record { standing = refl; cover = started.told p.proper flags }));
            count = refl;
            left =
                let e : limit - 0 ≡ limit = omega arith in
                ap (λ k. sweep (system_of D flags) limit k 0 (record { value = (system_of D flags).start; trail = [] } ∷ [])) e
                ∙ sym (explore-some (system_of D flags) limit room);
          };
    }

module _ (D : Lent) (L : Layout) (limit : ℕ) (space₀ : List ℕ) (i n : ℕ) (space : List ℕ) (loop : SweepLoop D L limit space₀ i n space) (more : i < n)
    (r : Option ℕ) (space' : List ℕ) (told : RowTold D L limit i n space r space') where
  beyond-both : (j : ℕ) → 18 * limit ≤ j → slice_index space' j ≡ slice_index space₀ j
  beyond-both j k = told.beyond j k ∙ loop.beyond j k

  fuel : suc (limit - (i + 1)) ≡ limit - i
  fuel = omega (arith, loop.within)

  -- The entry number i is done.
  pub sweep-turn : (m : ℕ) → r ≡ Some m → length space' ≡ length space → SweepLoop D L limit space₀ (i + 1) m space'
  unfolding RowCase
  sweep-turn m e kept =
      record {
        inside = omega (arith, (told.bounds m e).0);
        within = (told.bounds m e).1;
        size = kept ∙ loop.size;
        beyond = beyond-both;
        told = λ p flags.
            let s = loop.told p flags in
            let (entries, done, held, count) =
            subst (RowCase D L flags limit i s.entries space') e (told.told p flags s.entries s.held s.count) in
            record {
              entries = entries;
              held = held;
              count = count;
              left =
                  ap (λ k. sweep (system_of D flags) limit (limit - (i + 1)) k entries) (add-one i)
                  ∙ sym (sweep-on (system_of D flags) limit (limit - (i + 1)) i s.entries entries (omega (arith, s.count)) done)
                  ∙ ap (λ k. sweep (system_of D flags) limit k i s.entries) fuel
                  ∙ s.left;
            };
      }

  -- There are more pairs than the limit.
  pub sweep-exceeds : r ≡ None → PairsTold D L limit space₀ None space'
  unfolding RowCase PairsCase pairs
  sweep-exceeds e =
      record {
        few = λ k q. let z : ◌≡◌ {A = ℕ} 0 1 = cc in absurd (omega arith);
        beyond = beyond-both;
        told = λ p few room flags.
            let s = loop.told p flags in
            let done = subst (RowCase D L flags limit i s.entries space') e (told.told p flags s.entries s.held s.count) in
            sym s.left
            ∙ sym (ap (λ k. sweep (system_of D flags) limit k i s.entries) fuel)
            ∙ sweep-over (system_of D flags) limit (limit - (i + 1)) i s.entries (omega (arith, s.count)) done;
      }

-- All entries are done.
pub pairs-told : (D : Lent) (L : Layout) (limit : ℕ) (space₀ : List ℕ) (i n : ℕ) (space : List ℕ) → SweepLoop D L limit space₀ i n space → n ≤ i
    → limit ≤ 4096 → 18 * limit ≤ length space₀ → PairsTold D L limit space₀ (Some n) space
unfolding PairsCase pairs
pairs-told D L limit space₀ i n space loop h most room =
    record {
      few = λ k q. let z : n ≡ k = cc in (omega (arith, loop.within), most, room);
      beyond = loop.beyond;
      told = λ p few room flags.
          let s = loop.told p flags in
          (s.entries, sym s.left ∙ sweep-end (system_of D flags) limit (limit - i) i s.entries (omega (arith, s.count)), s.held, s.count);
    }

-- What is told after the first pair is stored is told of the workspace before.
pub told-before : (D : Lent) (L : Layout) (limit : ℕ) (space₀ space : List ℕ) (cover : List ℕ) (r : Option ℕ) (space' : List ℕ) → 0 < limit
    → Stored space₀ 0 1 cover 0 space → PairsTold D L limit space r space' → PairsTold D L limit space₀ r space'
told-before D L limit space₀ space cover r space' room stored t =
    record {
      few = λ m e. let (few, most, fits) = t.few m e in (few, most, omega (arith, stored.size));
      beyond = λ j k. t.beyond j k ∙ stored.others j (λ x y. omega arith);
      told = λ p few fits flags. t.told p few (omega (arith, stored.size)) flags;
    }

-- No pair is allowed.
pub pairs-none : (D : Lent) (L : Layout) (limit : ℕ) (space : List ℕ) → limit ≡ 0 → PairsTold D L limit space None space
unfolding PairsCase pairs
pairs-none D L limit space e =
    record {
      few = λ k q. let z : ◌≡◌ {A = ℕ} 0 1 = cc in absurd (omega arith);
      beyond = λ j k. refl;
      told = λ p few room flags. explore-none (system_of D flags) limit e;
    }

-- Nothing is promised.
pub pairs-unfit : (D : Lent) (L : Layout) (limit : ℕ) (space : List ℕ) → (Lending D → limit ≤ 4096 → 18 * limit ≤ length space → ⊥)
    → PairsTold D L limit space None space
pairs-unfit D L limit space h =
    record {
      few = λ k q. let z : ◌≡◌ {A = ℕ} 0 1 = cc in absurd (omega arith);
      beyond = λ j k. refl;
      told = λ p few room flags. absurd (h p few room);
    }

-- A test that is turned round.

pub not-true : (b : Bool) → not b ≡ true → b ≡ false
not-true true e = sym e
not-true false e = refl

pub not-false : (b : Bool) → not b ≡ false → b ≡ true
not-false true e = refl
not-false false e = sym e
