-- `sufficing` meets its contract: the tests are those of the sizes, one after the other.
use Rattle.std.specs.Prelude.{◌/◌, ◌<◌, length}
use mathlib.Core.Bool.{false≢true}
use native.Mathlib.Nat.{le-div_iff_mul-le, mul_comm}
use borrow.Author.Tests.{leb-true, leb-false}
use native.Mathlib.Omega.{arith}
use Rattle.answering.proofs.marks.sufficing.Goals as goal

pub returns-then-words-eq0 : goal.returns-then-words-eq0
returns-then-words-eq0 c = record { fits = λ e. absurd (false≢true e); unfit = λ e f. omega arith }

pub returns-then-words-gt4 : goal.returns-then-words-gt4
returns-then-words-gt4 c = record { fits = λ e. absurd (false≢true e); unfit = λ e f. omega arith }

pub returns-then-marks-recordings : goal.returns-then-marks-recordings
returns-then-marks-recordings c = record { fits = λ e. absurd (false≢true e); unfit = λ e f. omega arith }

pub returns : goal.returns
returns c =
    let a = c.args in
    let l = length a.reached.now in
    let k : 0 < a.words = omega arith in
    let swap = mul_comm a.recordings a.words in
    record {
      fits = λ e. record {
        some = k;
        few_words = omega arith;
        room = let m = (le-div_iff_mul-le {x = a.recordings} {y = l} k).0 (leb-true a.recordings (l / a.words) e) in omega arith;
        marks-fit = omega arith;
      };
      unfit = λ e f.
          let m = leb-false a.recordings (l / a.words) e in
          let b = f.room in
          let n = (le-div_iff_mul-le {x = a.recordings} {y = l} k).1 (omega arith) in
          omega arith;
    }
