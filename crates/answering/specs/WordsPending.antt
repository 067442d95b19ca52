-- What is pending where each set of states is one word (WordSteps), told by two lists: what is reached, and what has been followed of it.
use Rattle.std.specs.Prelude.{◌≡◌, ℕ, zero, suc, ◌+◌, ◌-◌, ◌*◌, ◌^◌, ◌<◌, ◌≤◌, Bool, true, false, ◌⊎◌, ◌↔◌, List, [], ◌∷◌, length, drop, set, bit_and, bit_xor, slice_index, slice_index_or, slice_set}
use Rattle.std.proofs.Common.{inl, inr, sym, ap, ◌∙◌, subst, one-mul, mul-one, mul-add, arith, length-set, get_or-set_same, get_or-set_other, get_or-drop}
use Rattle.std.specs.Prelude.{refl}
use Rattle.std.proofs.Math.Decide.{ℕ_discrete}
use Rattle.std.specs.Int.Bits.{xor_self, xor_zero_r}
use Rattle.std.specs.Int.Count.{count_trailing_zeros}
use Rattle.theory.specs.Graph.{Table}
use Rattle.theory.specs.Places.{Member, union}
use Rattle.theory.specs.PlacesLaws.{dec_member, member-none, member_below, member_union, member-intersection, equal-members, no-members}
use Rattle.theory.specs.PlacesWithin.{member-without}
use Rattle.places.specs.NextPlace.{trailing-here}
use Rattle.places.specs.Followed.{least-left}
use Rattle.answering.specs.Rest.{rest_of, rest_all}
use Rattle.answering.specs.Pairs.{Has}
use Rattle.answering.specs.WordsFrom.{Zeroed}
use Rattle.answering.specs.Grown.{Ready, Grown, front_below, ready-front}
use Rattle.answering.specs.SetSteps.{StatesAdded, RowsFollowed, rows_same}
use Rattle.answering.specs.SetSearchRun.{SetBeginning}
use Rattle.answering.specs.WordSteps.{rows_of, WordImage, NextOf, NextRoom, NextImages, WordRoom, Raised, new_word, has_word}
use Rattle.answering.specs.WordSteps.{ones, word_room, word-added, zeroed-one}

-- Of each word that is reached what has not been followed, for as many words as there are in both.
pub pending_of : List ℕ → List ℕ → List ℕ
pending_of [] done = []
pending_of (r ∷ reached) [] = []
pending_of (r ∷ reached) (d ∷ done) = bit_xor r d ∷ pending_of reached done

pub pending-at : (R D : List ℕ) (i : ℕ) → i < length R → i < length D → slice_index (pending_of R D) i ≡ bit_xor (slice_index R i) (slice_index D i)
unfolding pending_of
pending-at [] D i h k = absurd (omega arith)
pending-at (r ∷ R) [] i h k = absurd (omega arith)
pending-at (r ∷ R) (d ∷ D) zero h k = refl
pending-at (r ∷ R) (d ∷ D) (suc i) h k = pending-at R D i (omega arith) (omega arith)

-- There are as many words as in both.

pub pending-long : (R D : List ℕ) (n : ℕ) → n ≤ length R → n ≤ length D → n ≤ length (pending_of R D)
unfolding pending_of
pending-long [] D n h k = h
pending-long (r ∷ R) [] n h k = k
pending-long (r ∷ R) (d ∷ D) zero h k = omega arith
pending-long (r ∷ R) (d ∷ D) (suc n) h k = let m = pending-long R D n (omega arith) (omega arith) in omega arith

pub pending-short : (R D : List ℕ) → length (pending_of R D) ≤ length D
unfolding pending_of
pending-short [] D = omega arith
pending-short (r ∷ R) [] = omega arith
pending-short (r ∷ R) (d ∷ D) = let m = pending-short R D in omega arith

-- One word of what is reached, or of what has been followed, has changed.

pub pending-reached : (R D : List ℕ) (i v : ℕ) → pending_of (slice_set R i v) D ≡ slice_set (pending_of R D) i (bit_xor v (slice_index D i))
unfolding pending_of
pending-reached [] D i v = refl
pending-reached (r ∷ R) [] zero v = refl
pending-reached (r ∷ R) [] (suc i) v = refl
pending-reached (r ∷ R) (d ∷ D) zero v = refl
pending-reached (r ∷ R) (d ∷ D) (suc i) v = ap (λ l. bit_xor r d ∷ l) (pending-reached R D i v)

pub pending_done : (R D : List ℕ) (i v : ℕ) → pending_of R (slice_set D i v) ≡ slice_set (pending_of R D) i (bit_xor (slice_index R i) v)
unfolding pending_of
pending_done [] D i v = refl
pending_done (r ∷ R) [] i v = refl
pending_done (r ∷ R) (d ∷ D) zero v = refl
pending_done (r ∷ R) (d ∷ D) (suc i) v = ap (λ l. bit_xor r d ∷ l) (pending_done R D i v)

-- What has been followed is reached.
abbrev pub DoneReached : List ℕ → List ℕ → Type 0
DoneReached reached done = (y s : ℕ) → s < 64 → Has 1 done y s → Has 1 reached y s

-- There is room in each part (Grown), what waits being what is reached and not followed.
pub record WordsReady (N : ℕ) (reached done stack : List ℕ) (h : ℕ) : Type 0 where
  pub ready : Ready 1 N reached (pending_of reached done) stack h
  pub within : DoneReached reached done

pub words-room : {N y : ℕ} {R D S : List ℕ} {h : ℕ} → WordsReady N R D S h → y < N → WordRoom y R D S h
words-room {R = R} {D = D} w k =
    let r = word_room w.ready k in
    let m = pending-short R D in
    let l = r.waits in
    record { known = r.known; waits = omega arith; behind = r.behind; small = r.small; low = r.low }

-- What was followed stays reached.
pub words-grown : {N : ℕ} {Source : ℕ → ℕ → Type 0} {R D P R' S' : List ℕ} {h h' : ℕ} → DoneReached R D
    → Grown 1 N Source R P h R' (pending_of R' D) S' h' → WordsReady N R' D S' h'
words-grown w g = record { ready = g.ready; within = λ y s l m. g.kept y s (w y s l m) }

-- The states that one link brings.

-- What is left of a word without a part of it.
pub left-of : (r d : ℕ) → ((s : ℕ) → Member s d → Member s r) → bit_xor r d ≡ bit_xor r (bit_and r d)
left-of r d h = ap (bit_xor r) (equal-members d (bit_and r d) λ s. (
  λ m. (member-intersection s r d).1 (h s m, m),
  λ m. ((member-intersection s r d).0 m).1,
))

-- A word gets an image: what is new of it is left as well.
left-more : (old done image : ℕ) → ((s : ℕ) → Member s done → Member s old)
    → union (bit_xor old done) (bit_xor (union old image) old) ≡ bit_xor (union old image) done
left-more old done image h =
    ap (λ z. union z (bit_xor all old)) (left-of old done h) ∙ ap (union (bit_xor old (bit_and old done))) (left-of all old kept)
    ∙ equal-members (union (bit_xor old (bit_and old done)) (bit_xor all (bit_and all old))) (bit_xor all (bit_and all done)) (λ s. (
      λ m. there s ((member_union s (bit_xor old (bit_and old done)) (bit_xor all (bit_and all old))).0 m),
      λ m. (member_union s (bit_xor old (bit_and old done)) (bit_xor all (bit_and all old))).1 (back s ((member-without all done s).0 m)),
    ))
    ∙ sym (left-of all done (λ s m. kept s (h s m)))
  where
    all : ℕ
    all = union old image

    kept : (s : ℕ) → Member s old → Member s all
    kept s m = (member_union s old image).1 (inl m)

    there : (s : ℕ) → Member s (bit_xor old (bit_and old done)) ⊎ Member s (bit_xor all (bit_and all old))
        → Member s (bit_xor all (bit_and all done))
    there s (inl m) = let (a, d) = (member-without old done s).0 m in (member-without all done s).1 (kept s a, d)
    there s (inr m) = let (a, d) = (member-without all old s).0 m in (member-without all done s).1 (a, λ n. d (h s n))

    back : (s : ℕ) → Member s all × ¬ Member s done → Member s (bit_xor old (bit_and old done)) ⊎ Member s (bit_xor all (bit_and all old))
    back s (a, d) = go (dec_member s old)
      where
        go : Dec (Member s old) → Member s (bit_xor old (bit_and old done)) ⊎ Member s (bit_xor all (bit_and all old))
        go (yes o) = inl ((member-without old done s).1 (o, d))
        go (no o) = inr ((member-without all old s).1 (a, o))

pub done-added : {N image y : ℕ} {R D S : List ℕ} {h h' : ℕ} → WordRoom y R D S h → image < 2 ^ 64 → slice_index D y < 2 ^ 64
    → Raised h (bit_xor (slice_index R y) (slice_index D y)) (new_word image R y) h' → WordsReady N R D S h → y < N
    → StatesAdded 1 N (λ t. Member t image) y R (pending_of R D) h (slice_set R y (union (slice_index R y) image))
    (pending_of (slice_set R y (union (slice_index R y) image)) D) (slice_set S h y) h'
done-added {N} {image} {y} {R} {D} {S} {h} {h'} room small low u w k =
    subst (λ P'. StatesAdded 1 N (λ t. Member t image) y R (pending_of R D) h R' P' (slice_set S h y) h') same
    (word-added room' small (subst (λ z. Raised h z (new_word image R y) h') (sym here) u) w.ready k)
  where
    R' : List ℕ
    R' = slice_set R y (union (slice_index R y) image)

    here : slice_index_or (pending_of R D) y 0 ≡ bit_xor (slice_index R y) (slice_index D y)
    here = pending-at R D y room.known room.waits

    room' : WordRoom y R (pending_of R D) S h
    room' = record {
      known = room.known;
      waits =
          let l = room.known in
          let k = room.waits in
          let m = pending-long R D (y + 1) (omega arith) (omega arith) in omega arith;
      behind = room.behind;
      small = room.small;
      low = room.low;
    }

    within : (s : ℕ) → Member s (slice_index D y) → Member s (slice_index R y)
    within s m =
        let l = member_below 64 (slice_index D y) s low m in
        (has_word R y s l).0 (w.within y s l ((has_word D y s l).1 m))

    same : set (pending_of R D) y (union (slice_index (pending_of R D) y) (new_word image R y)) ≡ pending_of R' D
    same =
        ap (λ z. set (pending_of R D) y (union z (new_word image R y))) here
        ∙ ap (set (pending_of R D) y) (left-more (slice_index R y) (slice_index D y) image within)
        ∙ sym (pending-reached R D y (union (slice_index R y) image))

-- The search begins: nothing has been followed, and nothing is reached.

-- Words without states are zero.
none-word : (l : List ℕ) (y : ℕ) → slice_index l y < 2 ^ 64 → ((s : ℕ) → s < 64 → ¬ Has 1 l y s) → slice_index l y ≡ 0
none-word l y small n =
    no-members (slice_index l y) (λ s m. let b = member_below 64 (slice_index l y) s small m in n s b ((has_word l y s b).1 m))

-- Where nothing has been followed, all that is reached is pending.
pending-all : (R D : List ℕ) → ((i : ℕ) → slice_index D i ≡ 0) → (i : ℕ)
    → (slice_index (pending_of R D) i ≡ slice_index R i) ⊎ (slice_index (pending_of R D) i ≡ 0)
unfolding pending_of
pending-all [] D z i = inr refl
pending-all (r ∷ R) [] z i = inr refl
pending-all (r ∷ R) (d ∷ D) z zero = inl (ap (bit_xor r) (z 0) ∙ xor_zero_r r)
pending-all (r ∷ R) (d ∷ D) z (suc i) = pending-all R D (λ i. z (suc i)) i

module _ {k states N start : ℕ} {R D S : List ℕ} (b : SetBeginning 1 k states N start R D S)
    (small : (i : ℕ) → slice_index R i < 2 ^ 64) (small' : (i : ℕ) → slice_index D i < 2 ^ 64) where
  all-pending : (y : ℕ) → (slice_index (pending_of R D) y ≡ slice_index R y) ⊎ (slice_index (pending_of R D) y ≡ 0)
  all-pending = pending-all R D (λ y. none-word D y (small' y) (λ s l. b.idle y s l))

  pub words-begin : WordsReady N R D S 0
  words-begin = record {
    ready = record {
      words = b.ready.words;
      few = b.ready.few;
      waiting = record {
        words = pending-long R D (1 * N) b.ready.words b.ready.waiting.words;
        slots = b.ready.waiting.slots;
        below = λ i l. absurd (omega arith);
        once = λ i j l. absurd (omega arith);
        some = λ i l. absurd (omega arith);
        listed = λ y l (i, c, d). absurd (d (
            let e : 1 * y + i ≡ y = let p = one-mul y in omega arith in
            rw e (zero_word y l (all-pending y))));
      };
    };
    within = λ y s l m. absurd (b.idle y s l m);
  }
    where
      zero_word : (y : ℕ) → y < N → (slice_index (pending_of R D) y ≡ slice_index R y) ⊎ (slice_index (pending_of R D) y ≡ 0)
          → slice_index (pending_of R D) y ≡ 0
      zero_word y l (inl e) = e ∙ none-word R y (small y) (λ s c. b.starting.unreached y s l c)
      zero_word y l (inr e) = e

  pub pending-within : (y s : ℕ) → s < 64 → Has 1 (pending_of R D) y s → Has 1 R y s
  pending-within y s l m = go (all-pending y)
    where
      go : (slice_index (pending_of R D) y ≡ slice_index R y) ⊎ (slice_index (pending_of R D) y ≡ 0) → Has 1 R y s
      go (inl e) = (has_word R y s l).1 (subst (Member s) e ((has_word (pending_of R D) y s l).0 m))
      go (inr e) = absurd (member-none s (subst (Member s) e ((has_word (pending_of R D) y s l).0 m)))

-- The recording at the front is taken: all of it that is reached has been followed.

taken : (R D : List ℕ) (x : ℕ) → pending_of R (slice_set D x (slice_index R x)) ≡ slice_set (pending_of R D) x 0
taken R D x = pending_done R D x (slice_index R x) ∙ ap (set (pending_of R D) x) (xor_self (slice_index R x))

pub done-zeroed : (R D : List ℕ) (x : ℕ) → Zeroed (1 * x) 1 (pending_of R D) (pending_of R (slice_set D x (slice_index R x)))
done-zeroed R D x = subst (Zeroed (1 * x) 1 (pending_of R D)) (sym (taken R D x)) (zeroed-one x (pending_of R D))

pub done-taken : (R D : List ℕ) (x : ℕ) → x < length D → DoneReached R D → DoneReached R (slice_set D x (slice_index R x))
done-taken R D x h w y s l m = (has_word R y s l).1 (go (ℕ_discrete y x) ((has_word (slice_set D x word) y s l).0 m))
  where
    word : ℕ
    word = slice_index R x

    go : Dec (y ≡ x) → Member s (slice_index (slice_set D x word) y) → Member s (slice_index R y)
    go (yes e) n =
        let f : slice_index_or (slice_set D x word) y 0 ≡ slice_index_or R y 0 =
        ap (λ y. slice_index (slice_set D x word) y) e ∙ get_or-set_same D x word 0 h ∙ ap (λ y. slice_index R y) (sym e) in
        subst (Member s) f n
    go (no e) n = (has_word R y s l).0 (w y s l ((has_word D y s l).1 (subst (Member s) (get_or-set_other D x y word 0 e) n)))

pub words-front : (at : ℕ) (S : List ℕ) {N x : ℕ} {R D : List ℕ} {h : ℕ} → WordsReady N R D (drop at S) h → 0 < h
    → N + (at + 1) < length S → x ≡ slice_index S at → WordsReady N R (slice_set D x (slice_index R x)) (rest_of (at + 1) S) (h - 1)
words-front at S {N} {x} {R} {D} {h} w l long e = record {
  ready = ready-front at S w.ready l long e (ap length (taken R D x) ∙ length-set (pending_of R D) x 0) (done-zeroed R D x);
  within = done-taken R D x below w.within;
}
  where
    below : x < length D
    below =
        let b = front_below at S w.ready l in
        let n = one-mul N in
        let m = w.ready.waiting.words in
        let o = pending-short R D in
        omega arith

-- The states taken are those that were pending.
pub states-taken : (n : ℕ) {x : ℕ} {R D S : List ℕ} {h : ℕ} (known : ℕ) → WordRoom x R D S h → known ≡ 2 ^ n - 1
    → bit_and (bit_xor (slice_index R x) (slice_index D x)) known ≡ bit_and (slice_index (pending_of R D) x) (2 ^ n - 1)
states-taken n {x} {R} {D} known room e =
    ap (bit_and (bit_xor (slice_index R x) (slice_index D x))) e
    ∙ ap (λ z. bit_and z (2 ^ n - 1)) (sym (pending-at R D x room.known room.waits))

-- All links of a recording are followed from the states of a set; where the rows are cut, the words of the symbols stay as they are.
pub record LinksFollowed (cut : Bool) (N k : ℕ) (table : Table) (x : ℕ) (rows : List ℕ) (states : ℕ) (images images' : List ℕ)
    (reached done : List ℕ) (h : ℕ) (reached' stack' : List ℕ) (h' : ℕ) : Type 0 where
  pub followed : RowsFollowed 1 N k table x (NextOf cut rows k images states) reached (pending_of reached done) h
      reached' (pending_of reached' done) stack' h'
  pub same : cut ≡ true → images' ≡ images

pub links-joined : {cut : Bool} {N k : ℕ} {table : Table} {x : ℕ} {rows : List ℕ} {states : ℕ} {images images' : List ℕ} {next : ℕ}
    {R D : List ℕ} {h : ℕ} {R' S' : List ℕ} {h' : ℕ} → NextImages cut k rows states images images' next
    → RowsFollowed 1 N k table x (WordImage images' next) R (pending_of R D) h R' (pending_of R' D) S' h'
    → LinksFollowed cut N k table x rows states images images' R D h R' S' h'
links-joined made f = record { followed = rows_same (λ a t c l. made.exactly a t c (omega arith)) f; same = made.same }

-- The row of a state that is alone has its next states.

-- Whether a set has one state alone, its least.
pub record Alone (states : ℕ) (r : Bool) : Type 0 where
  pub only : r ≡ true → (s : ℕ) → Member s states ↔ (s ≡ count_trailing_zeros 64 states)

pub alone-least : (states : ℕ) → ¬ (states ≡ 0) → states < 2 ^ 64 → bit_and states (states - 1) ≡ 0
    → (s : ℕ) → Member s states ↔ (s ≡ count_trailing_zeros 64 states)
alone-least states d h e s = (
  λ m. go m (ℕ_discrete s (count_trailing_zeros 64 states)),
  λ q. subst (λ s. Member s states) (sym q) (trailing-here 64 states d h),
)
  where
    go : Member s states → Dec (s ≡ count_trailing_zeros 64 states) → s ≡ count_trailing_zeros 64 states
    go m (yes q) = q
    go m (no q) = absurd (member-none s (subst (Member s) e ((least-left 64 states d h s).1 (m, q))))

-- The row lies within the rows.
pub row-long : {cut : Bool} {k : ℕ} {rows : List ℕ} {states : ℕ} {images : List ℕ} (s : ℕ) → NextRoom cut k rows states images
    → cut ≡ false → Member s states → k * s + k ≤ length rows
row-long {cut} {k} {rows} s room c m =
    let h = subst (λ cut. rows_of cut k (s + 1) ≤ length rows) c (room.inside s m) in
    let e = one-mul (k * (s + 1)) in
    let f = mul-add k s 1 in
    let g = mul-one k in
    omega arith

pub links-alone : {cut : Bool} {N k : ℕ} {table : Table} {x : ℕ} {rows : List ℕ} {states : ℕ} (images : List ℕ) (s : ℕ)
    {R D : List ℕ} {h : ℕ} {R' S' : List ℕ} {h' : ℕ} → cut ≡ false → ((t : ℕ) → Member t states ↔ (t ≡ s))
    → RowsFollowed 1 N k table x (WordImage (rest_of (k * s) rows) 18446744073709551615) R (pending_of R D) h R' (pending_of R' D) S' h'
    → LinksFollowed cut N k table x rows states images images R D h R' S' h'
links-alone {cut} {N} {k} {table} {x} {rows} {states} images s {R} {D} {h} {R'} {S'} {h'} c only f =
    subst (λ cut. LinksFollowed cut N k table x rows states images images R D h R' S' h') (sym c) (record {
      followed = rows_same same f;
      same = λ d. refl;
    })
  where
    word : (a : ℕ) → slice_index (rest_of (k * s) rows) a ≡ slice_index rows (k * s + a)
    word a = ap (λ l. slice_index l a) (rest_all (k * s) rows) ∙ get_or-drop (k * s) rows a 0

    same : (a t : ℕ) → a < k → t < 64 * 1 → WordImage (rest_of (k * s) rows) 18446744073709551615 a t ↔ NextOf false rows k images states a t
    same a t b l = (
      λ (m, i). (s, (only s).1 refl, (has_word rows (k * s + a) t (omega arith)).1 (subst (Member t) (word a) m)),
      λ (u, p, q).
          let m = (has_word rows (k * s + a) t (omega arith)).0 (subst (λ u. Has 1 rows (k * u + a) t) ((only u).0 p) q) in
          (subst (Member t) (sym (word a)) m, ones t (omega arith)),
    )
