-- A rewriting, read as a deterministic table over the lists (Find: deterministic): it is complete, numbered by first words, and accepts the
-- accepted words of the job. Where words with the same continuations have one state, its states are apart, so that it is the only such
-- table: no complete table that accepts the same words has fewer states, and two jobs with the same accepted words have the same table.
use Rattle.std.specs.Prelude.{◌≡◌, ℕ, ◌+◌, ◌*◌, ◌/◌, ◌%◌, ◌<◌, ◌↔◌, [], ◌∷◌, ◌++◌, length, slice_index}
use Rattle.std.proofs.Math.Logic.Iff
use Rattle.std.specs.Prelude.{refl}
use Rattle.std.proofs.Common.{sym, ap, subst, ◌∙◌, arith, eqb-true, eq-eqb, ext_get_or}
use Rattle.std.proofs.Math.Decide.{dec_lt}
use Rattle.theory.specs.Path.{Below}
use Rattle.theory.specs.PathsBelow.{below-append}
use Rattle.theory.specs.Word.{Word}
use Rattle.theory.specs.Job.{Job, IsWord}
use Rattle.theory.specs.Rewriting.{Accepted}
use Rattle.theory.specs.Deterministic.{Deterministic, run, Accepts, Complete, Apart, Minimal, Numbered, Canonical, Agree}
use Rattle.theory.specs.DeterministicLaws.{run-append, numbered-reached}
use Rattle.theory.specs.Minimal.{apart-minimal, numbered-unique}
use Rattle.finding.specs.Find.{Rewriting, row_width, deterministic}
use Rattle.finding.specs.Finds.{followed, FindsBy, Finds}
use Rattle.finding.specs.Table.{flag_same}
use Rattle.finding.specs.RewrittenLaws.{finds-decides}

-- The rewriting of a job as a deterministic table.
abbrev pub table_for : Job → Rewriting → Deterministic
table_for J R = deterministic R.states (length J.lists) R.table R.flags

pub run-followed : (J : Job) (R : Rewriting) (s : ℕ) (w : Word) → run (table_for J R) s w ≡ followed R.table s w
unfolding run followed
run-followed J R s [] = refl
run-followed J R s (v ∷ w) = run-followed J R (slice_index R.table (row_width * s + v)) w

module _ {Same : Word → Word → Type 0} (J : Job) {R : Rewriting} (F : FindsBy Same J R) where
  pub finds-complete : Complete (table_for J R)
  finds-complete = record { start = (finds-decides J R F).some-state; next = (finds-decides J R F).next }

  pub finds-numbered : Numbered (table_for J R)
  finds-numbered =
      record {
        word = F.word;
        reached = λ s h. ((F.reached s h).0, run-followed J R 0 (F.word s) ∙ (F.reached s h).1);
        least = λ s w h b e. F.least s w h b (sym (run-followed J R 0 w) ∙ e);
        ordered = F.ordered;
      }

  pub finds-accepts : (w : Word) → IsWord J w → Accepts (table_for J R) w ↔ Accepted J w
  finds-accepts w b =
      let (there, back) = F.accepted w b in (
        λ t. there (ap (λ s. slice_index R.flags s) (sym (run-followed J R 0 w)) ∙ eqb-true _ 1 t),
        λ a. eq-eqb _ 1 (ap (λ s. slice_index R.flags s) (run-followed J R 0 w) ∙ back a),
      )

module _ (J : Job) {R : Rewriting} (F : Finds J R) where
  finds-apart : Apart (table_for J R)
  finds-apart q r h k s =
      let (b, d) = F.reached q h in
      let (c, e) = F.reached r k in
      sym d ∙ (F.same (F.word q) (F.word r) b c).1 (λ u l.
      Iff.trans (Iff.symm (finds-accepts J F (F.word q ++ u) (below-append b l)))
      (Iff.trans (together u l (F.word q ++ u) (F.word r ++ u) (from (F.word q) u d) (from (F.word r) u e)) (finds-accepts J F (F.word r ++ u) (below-append c l)))) ∙ e
    where
      -- Behind the first word of a state, a continuation leads on from that state.
      from : {q : ℕ} (v u : Word) → followed R.table 0 v ≡ q → run (table_for J R) 0 (v ++ u) ≡ run (table_for J R) q u
      from v u d = run-append (table_for J R) 0 v u ∙ ap (λ p. run (table_for J R) p u) (run-followed J R 0 v ∙ d)

      together : (u : Word) → IsWord J u → (v w : Word) → run (table_for J R) 0 v ≡ run (table_for J R) q u
          → run (table_for J R) 0 w ≡ run (table_for J R) r u → Accepts (table_for J R) v ↔ Accepts (table_for J R) w
      together u l v w d e =
          let same = ap (table_for J R).accepting d ∙ s u l ∙ sym (ap (table_for J R).accepting e) in
          (λ t. sym same ∙ t, λ t. same ∙ t)

  pub finds-canonical : Canonical (table_for J R)
  finds-canonical = record { complete = finds-complete J F; apart = finds-apart; numbered = finds-numbered J F }

  -- No complete table that accepts the same words has fewer states.
  pub finds-minimal : Minimal (table_for J R)
  finds-minimal = apart-minimal (finds-complete J F) (numbered-reached (finds-numbered J F)) finds-apart

-- Two jobs with as many lists, whose accepted words are the same.
module _ (J K : Job) {R S : Rewriting} (F : Finds J R) (G : Finds K S) (lists : length J.lists ≡ length K.lists)
    (words : (w : Word) → IsWord J w → Accepted J w ↔ Accepted K w) where
  finds-agree : Agree (table_for J R) (table_for K S)
  finds-agree =
      numbered-unique (finds-canonical J F) (finds-canonical K G)
      (record {
        symbols = lists;
        words = λ w b.
            Iff.trans (finds-accepts J F w b)
            (Iff.trans (words w b) (Iff.symm (finds-accepts K G w (subst (λ n. Below n w) lists b))));
      })

  pub same-states : R.states ≡ S.states
  same-states = finds-agree.states

  pub same-table : R.table ≡ S.table
  same-table =
      ext_get_or 0 R.table S.table (omega (arith, F.rows, G.rows, same-states))
      (λ i h. at i (i / row_width) (i % row_width) (omega arith) (omega arith) (omega (arith, F.rows))
      (dec_lt (i % row_width) (length J.lists)))
    where
      next-same : (s v : ℕ) → s < R.states → v < length J.lists
          → slice_index R.table (row_width * s + v) ≡ slice_index S.table (row_width * s + v)
      next-same s v h k = finds-agree.next s v h k

      at : (i s v : ℕ) → i ≡ row_width * s + v → v < row_width → s < R.states → Dec (v < length J.lists)
          → slice_index R.table i ≡ slice_index S.table i
      at i s v e l h (yes k) = rw e (next-same s v h k)
      at i s v e l h (no k) =
          rw e (F.unused s v h (omega arith) l ∙ sym (G.unused s v (omega (arith, same-states)) (omega (arith, lists)) l))

  pub same_flags : R.flags ≡ S.flags
  same_flags =
      ext_get_or 0 R.flags S.flags (F.flag-count ∙ same-states ∙ sym G.flag-count)
      (λ s h. at s (omega (arith, F.flag-count)) (omega (arith, F.flag-count, same-states)))
    where
      at : (s : ℕ) → s < R.states → s < S.states → slice_index R.flags s ≡ slice_index S.flags s
      at s h k = flag_same (slice_index R.flags s) (slice_index S.flags s) (F.flag-value s h) (G.flag-value s k) (finds-agree.accepting s h)
