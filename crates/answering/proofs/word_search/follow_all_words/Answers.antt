use Rattle.std.specs.Prelude.{◌≡◌, ℕ, ◌+◌, ◌*◌, ◌<◌, ◌≤◌, List, length, get_or, drop, refl}
use Rattle.std.proofs.Common.{arith, rules, sym, ◌∙◌, subst, length-set}
use Rattle.theory.specs.PlacesLaws.{member-one}
use Rattle.answering.specs.Rest.{rest_back, back-length}
use Rattle.answering.specs.Waiting.{waiting-most}
use Rattle.answering.specs.Grown.{Ready, front-inside, front_below, ready_moved, ready-back}
use Rattle.answering.specs.SetSearchRun.{set-going-begin, set-going-next, set-going-moved, set-going-done}
use Rattle.answering.specs.WordSteps.{WordRoom, next-room, words_spread}
use Rattle.answering.specs.WordsPending.{pending_of, DoneReached, words-room, words-begin, words-front, words-grown}
use Rattle.answering.specs.WordsPending.{pending-within, done-zeroed, done-taken, states-taken}
use Rattle.std.specs.Int.Bits.{bit_xor}
use Rattle.answering.proofs.word_search.follow_all_words.Goals as goal

-- The recording at the front is one of them, and its words are there.
module _ {N x top : ℕ} {reached : List ℕ} (head : ℕ) (stack : List ℕ) where
  taken-below : {pending : List ℕ} → Ready 1 N reached pending (drop head stack) top → 0 < top → x ≡ get_or stack head 0 → x < N
  taken-below r l e = subst (λ x. x < N) (sym e) (front_below head stack r l)

  taken-room : {done : List ℕ} → Ready 1 N reached (pending_of reached done) (drop head stack) top → DoneReached reached done
      → 0 < top → x ≡ get_or stack head 0 → WordRoom x reached done (drop head stack) top
  taken-room r w l e = words-room (record { ready = r; within = w }) (taken-below r l e)

pub add_word-top-requires : goal.add_word-top-requires
add_word-top-requires c =
    let begun = words-begin c.requires.0 (λ i. search rules) (λ i. search rules) in
    words-room begun c.requires.0.starting.fits.begins

pub loop-top-init : goal.loop-top-init
loop-top-init c =
    let p = c.requires.0 in
    let r = words-begin c.requires.0 (λ i. search rules) (λ i. search rules) in
    let f = c.add_word-top.ensures c.args.steps.sizes.recordings r p.starting.fits.begins in
    let within = pending-within p (λ i. search rules) (λ i. search rules) in (
      refl,
      refl,
      refl,
      refl,
      λ e. refl,
      set-going-begin p.starting within ((member-one 0 0).1 refl) (λ s l m. (member-one s 0).0 m) f,
      omega (arith, p.starting.fits.begins),
      (words-grown r.within f.grown).within,
    )

pub bounds-stack-head : goal.bounds-stack-head
bounds-stack-head c =
    let l = c.loop-top in front-inside l.head l.stack l.invariant.5.ready

pub offset_bounds-reached-x : goal.offset_bounds-reached-x
offset_bounds-reached-x c =
    let l = c.loop-top in
    omega (arith, (taken-room l.head l.stack l.invariant.5.ready l.invariant.7 c.loop-top-test.true c.from-x.ensures).small)

pub bounds-reached-x : goal.bounds-reached-x
bounds-reached-x c =
    let l = c.loop-top in
    (taken-room l.head l.stack l.invariant.5.ready l.invariant.7 c.loop-top-test.true c.from-x.ensures).known

pub offset_bounds-done-x : goal.offset_bounds-done-x
offset_bounds-done-x c =
    let l = c.loop-top in
    omega (arith, (taken-room l.head l.stack l.invariant.5.ready l.invariant.7 c.loop-top-test.true c.from-x.ensures).small)

pub bounds-done-x : goal.bounds-done-x
bounds-done-x c =
    let l = c.loop-top in
    (taken-room l.head l.stack l.invariant.5.ready l.invariant.7 c.loop-top-test.true c.from-x.ensures).waits

pub offset_bounds-done-x-in-loop-top : goal.offset_bounds-done-x-in-loop-top
offset_bounds-done-x-in-loop-top c =
    let l = c.loop-top in
    omega (arith, (taken-room l.head l.stack l.invariant.5.ready l.invariant.7 c.loop-top-test.true c.from-x.ensures).small)

pub bounds-done-x-in-loop-top : goal.bounds-done-x-in-loop-top
bounds-done-x-in-loop-top c =
    let l = c.loop-top in
    (taken-room l.head l.stack l.invariant.5.ready l.invariant.7 c.loop-top-test.true c.from-x.ensures).waits

pub offset_bounds-begins-x : goal.offset_bounds-begins-x
offset_bounds-begins-x c =
    let l = c.loop-top in
    omega (arith, (taken-room l.head l.stack l.invariant.5.ready l.invariant.7 c.loop-top-test.true c.from-x.ensures).small)

pub bounds-begins-x : goal.bounds-begins-x
bounds-begins-x c =
    let l = c.loop-top in
    let below = taken-below l.head l.stack l.invariant.5.ready c.loop-top-test.true c.from-x.ensures in
    omega (arith, c.requires.2.fits)

pub slice_bounds-follow_states-count : goal.slice_bounds-follow_states-count
slice_bounds-follow_states-count c =
    let l = c.loop-top in omega (arith, front-inside l.head l.stack l.invariant.5.ready)

pub follow_states-top-requires : goal.follow_states-top-requires
follow_states-top-requires c =
    let p = c.requires in
    let a = c.args in
    let l = c.loop-top in
    let v = l.invariant in
    let x = c.from-x.result in
    let below = taken-below l.head l.stack v.5.ready c.loop-top-test.true c.from-x.ensures in
    let long : 2 * c.args.steps.sizes.recordings < length l.stack = omega (arith, l.invariant.3, c.add_word-top.auto.stack, c.requires.3) in
    let pending = bit_xor (get_or l.reached x 0) (get_or l.done x 0) in (
      rw c.states_below-known.ensures
          (next-room a.steps.cut a.steps.sizes.symbols a.steps.sizes.states pending a.steps.rows.now l.images a.steps.fit (omega (arith, v.1, p.1))),
      words-front l.head l.stack (record { ready = v.5.ready; within = v.7 }) c.loop-top-test.true (omega (arith, v.6)) c.from-x.ensures,
      rw c.from.ensures (p.2.first x below),
      p.4,
    )

pub move_front-requires : goal.move_front-requires
move_front-requires c =
    let f = c.follow_states-top in
    let l = c.loop-top in
    let long : 2 * c.args.steps.sizes.recordings < length l.stack = omega (arith, l.invariant.3, c.add_word-top.auto.stack, c.requires.3) in
    let inside : l.head + 1 ≤ length l.stack = omega (arith, front-inside l.head l.stack l.invariant.5.ready) in
    let e = back-length (l.head + 1) l.stack f.new.stack inside
    f.auto.stack in
    let most = waiting-most f.ensures.followed.grown.ready.waiting in
    subst (λ n. l.head + 1 + f.result ≤ n) (sym e) (omega (arith, most, long, l.invariant.6))

pub loop-top-preserved-then-head-steps : goal.loop-top-preserved-then-head-steps
loop-top-preserved-then-head-steps c =
    let f = c.follow_states-top in
    let l = c.loop-top in
    let v = l.invariant in
    let x = c.from-x.result in
    let word = get_or l.reached x 0 in
    let p = c.requires.0.starting.fits in
    let rest = f.new.stack in
    let inside : l.head + 1 ≤ length l.stack = omega (arith, front-inside l.head l.stack v.5.ready) in
    let long-back = back-length (l.head + 1) l.stack rest inside f.auto.stack in
    let back = ready-back (l.head + 1) l.stack rest f.ensures.followed.grown.ready inside in
    let known = c.states_below-known in
    let a = c.args in
    let below = taken-below l.head l.stack v.5.ready c.loop-top-test.true c.from-x.ensures in
    let room = taken-room l.head l.stack v.5.ready v.7 c.loop-top-test.true c.from-x.ensures in
    let spread = words_spread a.steps.cut a.steps.sizes.symbols a.steps.sizes.states a.steps.rows.now (omega (arith, p.width)) v.4
    (states-taken a.steps.sizes.states known.result room known.ensures) in
    let going = set-going-next v.5 x p.width below spread (done-zeroed l.reached l.done x) f.ensures.followed in
    let within = (words-grown (done-taken l.reached l.done x room.waits v.7) f.ensures.followed.grown).within in
    let m = c.move_front in
    let whole = rest_back (l.head + 1) l.stack rest in (
      f.auto.reached ∙ v.0,
      f.auto.images ∙ v.1,
      length-set l.done x word ∙ v.2,
      m.auto.stack ∙ long-back ∙ v.3,
      λ e. f.ensures.same e ∙ v.4 e,
      set-going-moved going (ready_moved (l.head + 1) whole back m.auto.stack m.ensures),
      omega (arith, p.begins),
      within,
    )

pub loop-top-preserved : goal.loop-top-preserved
loop-top-preserved c =
    let f = c.follow_states-top in
    let l = c.loop-top in
    let v = l.invariant in
    let x = c.from-x.result in
    let word = get_or l.reached x 0 in
    let p = c.requires.0.starting.fits in
    let rest = f.new.stack in
    let inside : l.head + 1 ≤ length l.stack = omega (arith, front-inside l.head l.stack v.5.ready) in
    let long-back = back-length (l.head + 1) l.stack rest inside f.auto.stack in
    let back = ready-back (l.head + 1) l.stack rest f.ensures.followed.grown.ready inside in
    let known = c.states_below-known in
    let a = c.args in
    let below = taken-below l.head l.stack v.5.ready c.loop-top-test.true c.from-x.ensures in
    let room = taken-room l.head l.stack v.5.ready v.7 c.loop-top-test.true c.from-x.ensures in
    let spread = words_spread a.steps.cut a.steps.sizes.symbols a.steps.sizes.states a.steps.rows.now (omega (arith, p.width)) v.4
    (states-taken a.steps.sizes.states known.result room known.ensures) in
    let going = set-going-next v.5 x p.width below spread (done-zeroed l.reached l.done x) f.ensures.followed in
    let within = (words-grown (done-taken l.reached l.done x room.waits v.7) f.ensures.followed.grown).within in (
      f.auto.reached ∙ v.0,
      f.auto.images ∙ v.1,
      length-set l.done x word ∙ v.2,
      long-back ∙ v.3,
      λ e. f.ensures.same e ∙ v.4 e,
      set-going-moved going back,
      omega (arith, c.if-head-steps.false, v.6),
      within,
    )

pub returns : goal.returns
returns c =
    let p = c.requires.0 in
    let f = p.starting.fits in
    let begun = words-begin c.requires.0 (λ i. search rules) (λ i. search rules) in
    let a = c.add_word-top.ensures c.args.steps.sizes.recordings begun f.begins in
    set-going-done c.loop-top.invariant.5 (omega arith) f.begins f.width a.grown.beyond
