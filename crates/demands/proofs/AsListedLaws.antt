-- The three ways in which an operation is as listed: it refuses and changes nothing, it refuses and zeroes, or it answers.
use Rattle.std.specs.Prelude.{ℕ, ◌≤◌, ◌<◌, List, [], ◌∷◌, ◌++◌, ◌↔◌, ◌≡◌, length, drop, replicate}
use Rattle.std.proofs.Common.{inl, inr, sym, ap, ◌∙◌, arith, length-append, length-drop, drop_at}
use Rattle.std.proofs.lemmas.List.{length-replicate}
use Rattle.syntax.specs.Reply.{Reply}
use Rattle.demands.specs.Checks.{Check, Passes}
use Rattle.demands.specs.ChecksLaws.{Refusing}
use Rattle.demands.specs.Lent.{Lent, lent, Unchanged, Zeroed, Within, Each}
use Rattle.demands.specs.AsListed.{Zeroing, AsListed}

-- The buffer has room for its named part.
abbrev pub Roomy : Lent → Type 0
Roomy b = b.named ≤ length b.before

-- A named part that is written anew, as long as it was.
pub written-within : (n : ℕ) (part before : List ℕ) → length part ≡ n → n ≤ length before → Within (lent n before (part ++ drop n before))
written-within n part before e h = (
  omega (arith, length-append part (drop n before), length-drop n before),
  drop_at part (drop n before) n e,
)

pub unchanged-within : (l : List Lent) → Each Unchanged l → Each Within l
unchanged-within [] u = tt
unchanged-within (b ∷ l) (e, u) = ((ap length e, ap (drop b.named) e), unchanged-within l u)

pub zeroed-within : (l : List Lent) → Each Roomy l → Each Zeroed l → Each Within l
zeroed-within [] r z = tt
zeroed-within (b ∷ l) (h, r) (e, z) =
    let w = written-within b.named (replicate b.named 0) b.before (length-replicate b.named 0) h in
    ((ap length e ∙ w.0, ap (drop b.named) e ∙ w.1), zeroed-within l r z)

module _ {c : Check} (reply : Reply) (l : List Lent) where
  refused-exactly : {n k : ℕ} → Refusing c n k → reply.number ≡ n → reply.line ≡ k
      → (m i : ℕ) → c m i ↔ ((0 < m) × (reply.number ≡ m) × (reply.line ≡ i))
  refused-exactly {n} {k} r e f m i = (
    λ x. let (a, b) = r.only m i x in (omega (arith, r.numbered), omega arith, omega arith),
    λ (h, a, b).
        let p : n ≡ m = omega arith in
        let q : k ≡ i = omega arith in
        rw (sym p, sym q) r.given,
  )

  never-answers : {n k : ℕ} → Refusing c n k → reply.number ≡ n → Passes c ↔ (reply.number ≡ 0)
  never-answers {n} {k} r e = (λ p. absurd (p n k r.given), λ z. absurd (omega (arith, r.numbered)))

  pub listed-unchanged : {n k : ℕ} → Refusing c n k → reply ≡ record { number = n; line = k; values = [] } → ¬ Zeroing n
      → Each Unchanged l → AsListed c reply l
  listed-unchanged {n} {k} r e f u =
      let number = ap (λ t. t.number) e in
      record {
        refuses = refused-exactly r number (ap (λ t. t.line) e);
        answers = never-answers r number;
        lineless = λ z. absurd (omega (arith, r.numbered));
        valueless = λ h. ap (λ t. t.values) e;
        zeroes = λ z. absurd (f (rw number at z));
        keeps = λ h z. u;
        within = unchanged-within l u;
      }

  pub listed-zeroed : {n k : ℕ} → Refusing c n k → reply ≡ record { number = n; line = k; values = [] } → Zeroing n
      → Each Roomy l → Each Zeroed l → AsListed c reply l
  listed-zeroed {n} {k} r e z h u =
      let number = ap (λ t. t.number) e in
      record {
        refuses = refused-exactly r number (ap (λ t. t.line) e);
        answers = never-answers r number;
        lineless = λ z. absurd (omega (arith, r.numbered));
        valueless = λ h. ap (λ t. t.values) e;
        zeroes = λ z. u;
        keeps = λ h f. absurd (f (rw number z));
        within = zeroed-within l h u;
      }

  pub listed-answered : {values : List ℕ} → Passes c → reply ≡ record { number = 0; line = 0; values = values } → Each Within l
      → AsListed c reply l
  listed-answered p e w =
      let number = ap (λ t. t.number) e in
      record {
        refuses = λ m i. (λ x. absurd (p m i x), λ (h, a, b). absurd (omega arith));
        answers = (λ q. number, λ z. p);
        lineless = λ z. ap (λ t. t.line) e;
        valueless = λ h. absurd (omega arith);
        zeroes = λ z. absurd (unzeroing z number);
        keeps = λ h z. absurd (omega arith);
        within = w;
      }
    where
      unzeroing : {n : ℕ} → Zeroing n → ¬ (n ≡ 0)
      unzeroing (inl a) z = omega arith
      unzeroing (inr (inl a)) z = omega arith
      unzeroing (inr (inr (inl a))) z = omega arith
      unzeroing (inr (inr (inr a))) z = omega arith
