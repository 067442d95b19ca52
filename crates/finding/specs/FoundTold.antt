-- What the code for the answer promises, where all states are found: the counts, the first accepted word and the flags.
use Rattle.std.specs.Prelude.{◌≡◌, ℕ, ◌-◌, ◌≤◌, List, ◌++◌, map, length, take, drop, replicate, Option}
use Rattle.std.proofs.Common.{sym, ap, ap₂, ◌∙◌, arith, length-append, length-drop}
use Rattle.std.proofs.lemmas.List.{length-replicate}
use Rattle.theory.specs.Automaton.{Automaton}
use Rattle.theory.specs.Exploration.{Entry}
use Rattle.finding.specs.declared.answer.Found.{Found as Told}
use Rattle.finding.specs.declared.first.FirstWord.{FirstWord}
use Rattle.finding.specs.Standings.{values}
use Rattle.finding.specs.States.{accepting_standings, state_accepts, first_accepted}
use Rattle.finding.specs.Find.{flag}
use Rattle.finding.specs.Trailed.{Trailed, trails}
use Rattle.finding.specs.WordTold.{first_word}
use Rattle.finding.specs.FirstWords.{FirstTold}
use Rattle.finding.specs.Outcome.{counted}
use Rattle.finding.specs.Padded.{states-flags, flags-front}
use Rattle.finding.specs.Named.{cleared}

cleared-length : (n : ℕ) (lent : List ℕ) → n ≤ length lent → length (cleared n lent) ≡ length lent
cleared-length n lent h = simp (length-append, length-replicate, length-drop) (omega arith)

abbrev pub found_with : ℕ → ℕ → ℕ → List (Entry ℕ) → Told
found_with count n good l = counted count n (first_word (first_accepted good l))

abbrev pub marked : ℕ → List (Entry ℕ) → List ℕ → List ℕ
marked good l lent = (map (λ X. flag (state_accepts good X)) (values l) ++ replicate (256 - length l) 0) ++ drop 256 lent

-- The states l are stored, and the flags of `lent` are cleared.
pub record Reached (explored : List ℕ) (n : ℕ) (parents symbols flags : List ℕ) (l : List (Entry ℕ)) (lent : List ℕ) : Type 0 where
  pub size : n ≡ length l
  pub most : n ≤ 256
  pub numbers : take n explored ≡ values l
  pub trailed : Trailed parents symbols (trails l)
  pub long : 256 ≤ length lent
  pub clear : flags ≡ cleared 256 lent

pub record FoundTold (found : List ℕ) (count accepting : ℕ) (explored : List ℕ) (n : ℕ) (parents symbols flags : List ℕ)
    (r : Told) (flags' : List ℕ) : Type 0 where
  pub answer : count ≤ 64 → count ≤ length found → (A : Automaton) → A.accepting ≡ accepting → (l : List (Entry ℕ)) (lent : List ℕ)
      → Reached explored n parents symbols flags l lent → r ≡ found_with count n (accepting_standings A (take count found)) l
  pub marks : count ≤ 64 → count ≤ length found → (A : Automaton) → A.accepting ≡ accepting → (l : List (Entry ℕ)) (lent : List ℕ)
      → Reached explored n parents symbols flags l lent → flags' ≡ marked (accepting_standings A (take count found)) l lent

module _ (found : List ℕ) (count accepting : ℕ) (explored : List ℕ) (n : ℕ) (parents symbols flags flags' : List ℕ) (good : ℕ) (word : Option FirstWord)
    (goods : (A : Automaton) → A.accepting ≡ accepting → count ≤ 64 → count ≤ length found → good ≡ accepting_standings A (take count found))
    (flagged : n ≤ length explored → n ≤ length flags
    → flags' ≡ map (λ X. flag (state_accepts good X)) (take n explored) ++ drop n flags)
    (first : FirstTold flags' n parents symbols word) (room : length explored ≡ 256) where
  marks-left : (l : List (Entry ℕ)) (lent : List ℕ) → Reached explored n parents symbols flags l lent → flags' ≡ marked good l lent
  marks-left l lent h =
      states-flags good l explored lent flags' (ap (λ i. take i explored) (sym h.size) ∙ h.numbers) (omega (arith, h.size, h.most))
      (flagged (omega (arith, h.most)) (omega (arith, h.most, h.long, ap length h.clear, cleared-length 256 lent h.long))
      ∙ ap₂ (λ i s. map (λ X. flag (state_accepts good X)) (take i explored) ++ drop i s) h.size h.clear)

  word-told : (l : List (Entry ℕ)) (lent : List ℕ) → Reached explored n parents symbols flags l lent → word ≡ first_word (first_accepted good l)
  word-told l lent h =
      first.told good l h.size h.most
      (ap (λ i. take i flags') h.size ∙ flags-front good l lent flags' (marks-left l lent h)) h.trailed

  pub found-told : FoundTold found count accepting explored n parents symbols flags (counted count n word) flags'
  found-told =
      record {
        answer = λ c b A a l lent h.
            ap (counted count n)
            (word-told l lent h ∙ ap (λ i. first_word (first_accepted i l)) (goods A a c b));
        marks = λ c b A a l lent h. marks-left l lent h ∙ ap (λ i. marked i l lent) (goods A a c b);
      }
