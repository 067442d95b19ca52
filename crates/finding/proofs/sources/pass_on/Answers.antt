-- `pass_on` meets its contract: with what it adds, the search gains as if that were put in at once.
use Rattle.std.specs.Prelude.{◌≡◌, ◌+◌, ◌*◌, ◌%◌, ◌^◌, get_or, set}
use mathlib.Core.Path.{sym, ap, ◌∙◌, subst}
use Rattle.theory.specs.Places.{union}
use Rattle.finding.specs.Sources.{gain_of, gathered, Followed, Only}
use Rattle.finding.specs.SourcesLaws.{followed-only}
use Rattle.finding.specs.SourcesGathered.{gain-up, gathered-more}
use native.Mathlib.Omega.{arith}
use Rattle.finding.proofs.sources.pass_on.Goals as goal

pub returns : goal.returns
returns c pending waiting slots few =
    let x = c.args in
    let p = c.requires in
    let k = x.count * x.next + x.to in
    let old = get_or x.from.now k 0 in
    let all = union old (get_or x.from.now (x.count * x.p + x.s) 0) in
    let e : c.gain.result * 2 ^ x.to % 2 ^ 64 ≡ gain_of old all * 2 ^ x.to =
    ap (λ g. g * 2 ^ x.to % 2 ^ 64) c.gain.ensures ∙ gain-up old all x.to (omega arith) in
    subst
    (λ z. Followed x.count (Only x.p x.s x.next x.to) (gathered x.from.now pending waiting x.next x.added)
    (gathered (set x.from.now k all) pending waiting x.next (union x.added z)))
    (sym e)
    (followed-only p.2
    (gathered-more x.count x.next x.to (get_or x.from.now (x.count * x.p + x.s) 0) x.from.now pending waiting x.added p.3
    (omega arith) (omega (arith, p.3, p.5)) (omega (arith, p.1, slots)) p.1 few))
