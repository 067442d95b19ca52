-- The greatest rewriting with its states merged: words end at one state exactly when they have the same continuations, and everything else
-- that document 01 says of a rewriting stays.
use Rattle.std.specs.Prelude.{◌≡◌, ◌<◌, ◌≤◌, ◌↔◌, ◌++◌, length, slice_index}
use Rattle.std.proofs.Math.Logic.Iff
use Rattle.std.proofs.Math.Path.{sym}
use Rattle.std.proofs.Common.{◌∙◌}
use Rattle.theory.specs.PathsBelow.{below-append}
use Rattle.theory.specs.Word.{Word}
use Rattle.theory.specs.Job.{Job, IsWord}
use Rattle.theory.specs.Rewriting.{SameContinuations, Accepted}
use Rattle.theory.specs.Deterministic.{Deterministic, run, Accepts, Canonical}
use Rattle.theory.specs.DeterministicLaws.{run-within, end-exactly}
use Rattle.theory.specs.Quotient.{quotient}
use Rattle.theory.specs.Minimized.{minimized, merged as merged_by}
use Rattle.theory.proofs.MinimizedLaws.{minimized-words, minimized-canonical}
use Rattle.finding.specs.Find.{Rewriting, row_width, table_of, flags_of, merged}
use Rattle.finding.specs.Finds.{followed, FindsUnmerged, Finds}
use Rattle.finding.specs.Table.{flag-value, flag-exactly}
use Rattle.finding.specs.TableOfLaws.{table-length, table-unused, flags-length, flag_at, table-followed}
use Rattle.finding.specs.FindsCanonical.{table_for, finds-complete, finds-numbered, finds-accepts}

module _ (J : Job) (R : Rewriting) (fits : length J.lists ≤ row_width) (F : FindsUnmerged J R) where
  abbrev M : Deterministic
  M = minimized (table_for J R)

  canonical : Canonical M
  canonical = minimized-canonical (finds-complete J F) (finds-numbered J F)

  ends : (w : Word) → IsWord J w → followed (table_of M) 0 w ≡ run M 0 w
  unfolding minimized merged_by quotient
  ends w b = table-followed canonical.complete fits 0 canonical.complete.start b

  accepts : (w : Word) → IsWord J w → Accepts M w ↔ Accepted J w
  unfolding minimized merged_by quotient
  accepts w b = Iff.trans (Iff.symm ((minimized-words (finds-complete J F)).words w b)) (finds-accepts J F w b)

  within : (w : Word) → IsWord J w → run M 0 w < M.states
  unfolding minimized merged_by quotient
  within w b = run-within canonical.complete canonical.complete.start b

  flag-accepts : (w : Word) → IsWord J w → (slice_index (flags_of M) (followed (table_of M) 0 w) ≡ 1) ↔ Accepted J w
  flag-accepts w b =
      rw (ends w b, flag_at M (run M 0 w) (within w b)) (Iff.trans (flag-exactly (M.accepting (run M 0 w))) (accepts w b))

  ends-together : (v w : Word) → IsWord J v → IsWord J w → (followed (table_of M) 0 v ≡ followed (table_of M) 0 w) ↔ SameContinuations J v w
  unfolding minimized merged_by quotient
  ends-together v w b c =
      let (there, back) = end-exactly canonical.complete canonical.apart b c in (
        λ e u l. Iff.trans (Iff.symm (accepts (v ++ u) (below-append b l)))
            (Iff.trans (there (sym (ends v b) ∙ e ∙ ends w c) u l) (accepts (w ++ u) (below-append c l))),
        λ s. ends v b ∙ back (λ u l. Iff.trans (accepts (v ++ u) (below-append b l))
            (Iff.trans (s u l) (Iff.symm (accepts (w ++ u) (below-append c l))))) ∙ sym (ends w c),
      )

  pub merged-finds : Finds J (merged (length J.lists) R)
  unfolding minimized merged_by quotient
  merged-finds =
      record {
        standings = F.standings;
        rows = table-length M;
        unused = λ s v h k l. table-unused M s v h k l;
        flag-count = flags-length M;
        flag-value = λ s h. rw (flag_at M s h) (flag-value (M.accepting s));
        within = λ w b. rw (ends w b) (within w b);
        accepted = flag-accepts;
        same = ends-together;
        word = canonical.numbered.word;
        reached = λ s h.
            let (b, e) = canonical.numbered.reached s h in
            (b, ends (canonical.numbered.word s) b ∙ e);
        least = λ s w h b e. canonical.numbered.least s w h b (sym (ends w b) ∙ e);
        ordered = canonical.numbered.ordered;
        first = F.first;
        nothing = F.nothing;
      }
