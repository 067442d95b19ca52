-- `fitting` meets its contract: the tests are those of the sizes, one after the other.
use Rattle.std.specs.Prelude.{◌*◌, ◌≤◌, length}
use mathlib.Core.Bool.{false≢true}
use native.Mathlib.Nat.{mul-le-mul}
use borrow.Author.Tests.{leb-true, leb-false}
use native.Mathlib.Omega.{arith}
use Rattle.answering.proofs.set_search.fitting.Goals as goal

pub returns-then-states-eq0 : goal.returns-then-states-eq0
returns-then-states-eq0 c = record { fits = λ e. absurd (false≢true e); unfit = λ e f. omega arith }

pub returns-then-words-gt4 : goal.returns-then-words-gt4
returns-then-words-gt4 c = record { fits = λ e. absurd (false≢true e); unfit = λ e f. omega arith }

pub returns-then-words-states : goal.returns-then-words-states
returns-then-words-states c = record { fits = λ e. absurd (false≢true e); unfit = λ e f. omega arith }

pub returns-then-symbols-gt32 : goal.returns-then-symbols-gt32
returns-then-symbols-gt32 c = record { fits = λ e. absurd (false≢true e); unfit = λ e f. omega arith }

pub returns-then-recordings-gt4096 : goal.returns-then-recordings-gt4096
returns-then-recordings-gt4096 c = record { fits = λ e. absurd (false≢true e); unfit = λ e f. omega arith }

pub returns-then-recordings-start : goal.returns-then-recordings-start
returns-then-recordings-start c = record { fits = λ e. absurd (false≢true e); unfit = λ e f. omega arith }

pub overflow_mul-words-2 : goal.overflow_mul-words-2
overflow_mul-words-2 c =
    let a = c.args in
    let h : a.words ≤ 4 = omega arith in
    let k : a.recordings ≤ 4096 = omega arith in
    let p : a.words * a.recordings ≤ 4 * 4096 = mul-le-mul h k in
    omega arith

pub returns-then-reached-words : goal.returns-then-reached-words
returns-then-reached-words c = record { fits = λ e. absurd (false≢true e); unfit = λ e f. omega arith }

pub overflow_mul-result : goal.overflow_mul-result
overflow_mul-result c =
    let a = c.args in
    let h : a.words ≤ 4 = omega arith in
    let k : a.symbols ≤ 32 = omega arith in
    let s : a.states ≤ 256 = omega arith in
    let p : a.symbols * a.states ≤ 32 * 256 = mul-le-mul k s in
    let q : a.words * (a.symbols * a.states) ≤ 4 * (32 * 256) = mul-le-mul h p in
    omega arith

pub overflow_mul-result-2 : goal.overflow_mul-result-2
overflow_mul-result-2 c =
    let a = c.args in
    let h : a.words ≤ 4 = omega arith in
    let k : a.symbols ≤ 32 = omega arith in
    let s : a.states ≤ 256 = omega arith in
    let p : a.symbols * a.states ≤ 32 * 256 = mul-le-mul k s in
    let q : a.words * (a.symbols * a.states) ≤ 4 * (32 * 256) = mul-le-mul h p in
    omega arith

pub returns : goal.returns
returns c =
    let a = c.args in
    let l = length a.sets.now in
    record {
      fits = λ e. record {
        some = omega arith;
        width = omega arith;
        few_words = omega arith;
        few-symbols = omega arith;
        few = omega arith;
        begins = omega arith;
        room = omega arith;
        rows = leb-true (a.words * (a.symbols * a.states)) l e;
      };
      unfit = λ e f. omega (arith, leb-false (a.words * (a.symbols * a.states)) l e, f.rows);
    }
