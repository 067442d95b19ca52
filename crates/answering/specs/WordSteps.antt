-- The steps of the search where each set of states is one word (SetSteps): the next states of all that is pending at a recording, and the
-- states that one link brings.
use Rattle.std.specs.Prelude.{◌≡◌, ℕ, suc, ◌+◌, ◌-◌, ◌*◌, ◌/◌, ◌%◌, ◌^◌, ◌<◌, ◌≤◌, Bool, true, false, ◌⊎◌, ◌↔◌, List, [], ◌∷◌, length, set, bit_and, bit_xor, slice_index, slice_set}
use Rattle.std.proofs.lemmas.Bool.{false≢true}
use Rattle.std.proofs.Common.{inl, inr, sym, ap, ◌∙◌, subst, subst₂, one-mul, mul-le-mul_left, mod-eq_of_lt, arith, length-set}
use Rattle.std.specs.Prelude.{refl}
use Rattle.std.proofs.Math.Decide.{ℕ_discrete, dec_lt}
use Rattle.std.proofs.lemmas.Nat.{and_mask}
use Rattle.std.specs.Int.Bits.{or_zero_r}
use Rattle.std.proofs.Math.Pow.{pow-lt}
use Rattle.std.proofs.lemmas.List.{set-get_or}
use Rattle.theory.specs.Places.{Member, union}
use Rattle.theory.specs.PlacesLaws.{member-none, member-one, member_below, member_union, member-intersection, member-union_over}
use Rattle.theory.specs.PlacesLaws.{equal-members}
use Rattle.theory.specs.PlacesShift.{member-cut}
use Rattle.theory.specs.PlacesWithin.{member-without}
use Rattle.places.specs.Joined.{joined}
use Rattle.answering.specs.ProductLaws.{node-below}
use Rattle.answering.specs.Pairs.{Has}
use Rattle.answering.specs.WordsFrom.{Zeroed, zeroed-none, zeroed-more}
use Rattle.answering.specs.Waiting.{waiting-behind, waiting-most}
use Rattle.answering.specs.Grown.{Ready}
use Rattle.answering.specs.SetRows.{word_of, new_of, United, SomeNew, united-none, united-more, none-new, some-new}
use Rattle.answering.specs.SetSearch.{Steps}
use Rattle.answering.specs.SetSteps.{Spread, StatesAdded, added-same, states-known, states-stay, states-push}
use Rattle.answering.specs.PlaceSteps.{PlaceStep}

-- The place of a recording's only word.
word-place : (y : ℕ) → 1 * y + 0 ≡ y
word-place y = let e = one-mul y in omega arith

pub has_word : (l : List ℕ) (y t : ℕ) → t < 64 → Has 1 l y t ↔ Member t (slice_index l y)
unfolding Has
has_word l y t h =
    let e : t % 64 ≡ t = omega arith in
    let f : 1 * y + t / 64 ≡ y = let p = one-mul y in omega arith in
    (λ m. rw (e, f) at m, λ m. rw (e, f) m)

-- The next states of what is pending.

-- The steps that rows give, which may be cut by a word of each symbol, and how many words n states have.
abbrev pub WordStep : Bool → List ℕ → ℕ → List ℕ → ℕ → ℕ → ℕ → Type 0
WordStep true rows k enter s a t = PlaceStep rows enter s a t
WordStep false rows k enter s a t = Steps rows k 1 s a t

abbrev pub rows_of : Bool → ℕ → ℕ → ℕ
rows_of true k n = n
rows_of false k n = 1 * (k * n)

-- The states of an image that are in one word.
abbrev pub WordImage : List ℕ → ℕ → ℕ → ℕ → Type 0
WordImage images next a t = Member t (slice_index images a) × Member t next

-- The next states of the states of a set.
abbrev pub NextOf : Bool → List ℕ → ℕ → List ℕ → ℕ → ℕ → ℕ → Type 0
NextOf cut rows k images states a t = (s : ℕ) × Member s states × WordStep cut rows k images s a t

-- The states have their words, and the symbols their images.
pub record NextRoom (cut : Bool) (k : ℕ) (rows : List ℕ) (states : ℕ) (images : List ℕ) : Type 0 where
  pub inside : (s : ℕ) → Member s states → rows_of cut k (s + 1) ≤ length rows
  pub fits : k ≤ length images

-- The images have the next states of a set.
pub record NextImages (cut : Bool) (k : ℕ) (rows : List ℕ) (states : ℕ) (images images' : List ℕ) (next : ℕ) : Type 0 where
  pub exactly : (a t : ℕ) → a < k → t < 64 → WordImage images' next a t ↔ NextOf cut rows k images states a t
  pub same : cut ≡ true → images' ≡ images

-- The images stay as they are where the rows are cut ..
pub cut-images : {cut : Bool} (k : ℕ) (rows : List ℕ) {states : ℕ} (images : List ℕ) {next : ℕ} → cut ≡ true → states < 2 ^ 64
    → next ≡ joined rows 0 1 states → NextImages cut k rows states images images next
cut-images {cut} k rows {states} images {next} c small e =
    subst (λ cut. NextImages cut k rows states images images next) (sym c) (record {
      exactly = λ a t h l. (
        λ (i, m).
            let (s, b, p, q) = (member-union_over row 64 states t).0 (subst (Member t) e m) in
            (s, p, (rw (word-place s) at q, i)),
        λ (s, p, (q, i)). (
          i,
          subst (Member t) (sym e) ((member-union_over row 64 states t).1 (s, member_below 64 states s small p, p, rw (word-place s) q)),
        ),
      );
      same = λ c. refl;
    })
  where
    row : ℕ → ℕ
    row s = slice_index rows (1 * s + 0)

-- .. and are made anew where they are not.

pub ones : (t : ℕ) → t < 64 → Member t 18446744073709551615
ones t h =
    let e : bit_and (2 ^ t) 18446744073709551615 ≡ 2 ^ t = and_mask (2 ^ t) 64 ∙ mod-eq_of_lt (pow-lt h) in
    ((member-intersection t (2 ^ t) 18446744073709551615).0 (subst (Member t) (sym e) ((member-one t t).1 refl))).1

pub spread-images : {cut : Bool} {k : ℕ} {rows : List ℕ} {states : ℕ} {images images' : List ℕ} → cut ≡ false → states < 2 ^ 64
    → ((a : ℕ) → a < k → slice_index images' a ≡ joined rows a k states)
    → NextImages cut k rows states images images' 18446744073709551615
spread-images {cut} {k} {rows} {states} {images} {images'} c small made =
    subst (λ cut. NextImages cut k rows states images images' 18446744073709551615) (sym c) (record {
      exactly = λ a t h l. (
        λ (i, m).
            let (s, b, p, q) = (member-union_over (row a) 64 states t).0 (subst (Member t) (made a h) i) in
            (s, p, (has_word rows (k * s + a) t l).1 q),
        λ (s, p, q).
            let b = member_below 64 states s small p in
            let i = (member-union_over (row a) 64 states t).1 (s, b, p, (has_word rows (k * s + a) t l).0 q) in
            (subst (Member t) (sym (made a h)) i, ones t l),
      );
      same = λ d. absurd (false≢true d);
    })
  where
    row : ℕ → ℕ → ℕ
    row a s = slice_index rows (k * s + a)

-- The states below n of a set.
states-cut : (n p s : ℕ) → Member s (bit_and p (2 ^ n - 1)) ↔ ((s < n) × Member s p)
states-cut n p s = (
  λ m. (member-cut n s p).0 (rw (and_mask p n) at m),
  λ m. rw (and_mask p n) ((member-cut n s p).1 m),
)

rows_more : (cut : Bool) (k n s : ℕ) → s < n → rows_of cut k (s + 1) ≤ rows_of cut k n
rows_more true k n s h = omega arith
rows_more false k n s h =
    let m : k * (s + 1) ≤ k * n = mul-le-mul_left k (omega arith) in
    let e = one-mul (k * (s + 1)) in
    let f = one-mul (k * n) in
    omega arith

pub next-room : (cut : Bool) (k n p : ℕ) (rows images : List ℕ) → rows_of cut k n ≤ length rows → k ≤ length images
    → NextRoom cut k rows (bit_and p (2 ^ n - 1)) images
next-room cut k n p rows images h l = record {
  inside = λ s m. let g = rows_more cut k n s ((states-cut n p s).0 m).0 in omega arith;
  fits = l;
}

-- The place of a word of a row.
pub row_inside : (k s : ℕ) {a m : ℕ} → a < k → 1 * (k * (s + 1)) ≤ m → k * s + a < m
row_inside k s {a} h l =
    let e = one-mul (k * (s + 1)) in
    let n : k * s + a < k * (s + 1) = node-below k (s + 1) (omega arith) h in
    omega arith

step_kept : (cut : Bool) (rows : List ℕ) (k : ℕ) {images enter : List ℕ} (s a t : ℕ) → (cut ≡ true → images ≡ enter)
    → WordStep cut rows k images s a t ↔ WordStep cut rows k enter s a t
step_kept true rows k s a t same =
    (subst (λ l. PlaceStep rows l s a t) (same refl), subst (λ l. PlaceStep rows l s a t) (sym (same refl)))
step_kept false rows k s a t same = (λ m. m, λ m. m)

pub words_spread : (cut : Bool) (k n : ℕ) (rows : List ℕ) {x : ℕ} {pending images enter : List ℕ} {states : ℕ} → n ≤ 64
    → (cut ≡ true → images ≡ enter) → states ≡ bit_and (slice_index pending x) (2 ^ n - 1)
    → Spread 1 k (WordStep cut rows k enter) x n pending (NextOf cut rows k images states)
words_spread cut k n rows {x} {pending} {images} {enter} {states} h same e = record {
  exactly = λ a t l b. (
    λ (s, p, q).
        let (d, i) = (states-cut n (slice_index pending x) s).0 (subst (Member s) e p) in
        (s, d, (has_word pending x s (omega arith)).1 i, (step_kept cut rows k s a t same).0 q),
    λ (s, d, p, q).
        let i = (states-cut n (slice_index pending x) s).1 (d, (has_word pending x s (omega arith)).0 p) in
        (s, subst (Member s) (sym e) i, (step_kept cut rows k s a t same).1 q),
  );
}

-- The only word of a recording has become zero.
pub zeroed-one : (x : ℕ) (l : List ℕ) → Zeroed (1 * x) 1 l (slice_set l x 0)
zeroed-one x l = rw (word-place x) at (zeroed-more (zeroed-none (1 * x) l))

-- The states that one link brings.

-- The words of the recording y are there, and a place behind the stack.
pub record WordRoom (y : ℕ) (reached pending stack : List ℕ) (h : ℕ) : Type 0 where
  pub known : y < length reached
  pub waits : y < length pending
  pub behind : h < length stack
  pub small : y < 65536
  pub low : h < 65536

pub word_room : {N y : ℕ} {R P S : List ℕ} {h : ℕ} → Ready 1 N R P S h → y < N → WordRoom y R P S h
word_room {N} {h = h} r k =
    let e = one-mul N in
    let w = r.words in
    let v = r.waiting.words in
    let u = r.waiting.slots in
    let f = r.few in
    let m = waiting-most r.waiting in
    record { known = omega arith; waits = omega arith; behind = omega arith; small = omega arith; low = omega arith }

-- A height is one more where nothing waited and something is new.
pub record Raised (h waited new r : ℕ) : Type 0 where
  pub up : waited ≡ 0 → ¬ (new ≡ 0) → r ≡ h + 1
  pub on : ¬ (waited ≡ 0) → r ≡ h
  pub same : new ≡ 0 → r ≡ h

-- What a word lacks of another.
lacking : (old image : ℕ) → bit_xor (union old image) old ≡ bit_xor image (bit_and image old)
lacking old image = ap (bit_xor (union old image)) (sym kept) ∙ equal-members (bit_xor (union old image) (bit_and (union old image) old))
    (bit_xor image (bit_and image old)) λ i. (
      λ m.
          let (a, d) = (member-without (union old image) old i).0 m in
          (member-without image old i).1 (new i d ((member_union i old image).0 a), d),
      λ m.
          let (a, d) = (member-without image old i).0 m in
          (member-without (union old image) old i).1 ((member_union i old image).1 (inr a), d),
    )
  where
    kept : bit_and (union old image) old ≡ old
    kept = equal-members (bit_and (union old image) old) old λ i. (
      λ m. ((member-intersection i (union old image) old).0 m).1,
      λ m. (member-intersection i (union old image) old).1 ((member_union i old image).1 (inl m), m),
    )

    new : (i : ℕ) → ¬ Member i old → Member i old ⊎ Member i image → Member i image
    new i d (inl m) = absurd (d m)
    new i d (inr m) = m

-- One word is united with another.
united-one : (y : ℕ) (new : ℕ → ℕ) (l : List ℕ) → y < length l → United (1 * y) 1 new l (slice_set l y (union (slice_index l y) (new 0)))
united-one y new l h =
    let e = word-place y in
    rw e at (united-more (united-none (1 * y) new l) (omega arith))

ready-behind : {w N : ℕ} {R P S : List ℕ} {h : ℕ} (y : ℕ) → Ready w N R P S h → Ready w N R P (slice_set S h y) h
ready-behind y r = record { words = r.words; few = r.few; waiting = waiting-behind y r.waiting }

-- The states of a word that stands alone.
alone : (image t : ℕ) → Has 1 (image ∷ []) 0 t → Member t image
unfolding Has
alone image t m = go (dec_lt t 64)
  where
    go : Dec (t < 64) → Member t image
    go (yes h) = (has_word (image ∷ []) 0 t h).0 m
    go (no h) =
        let e : 1 * 0 + t / 64 ≡ suc (t / 64 - 1) = omega arith in
        absurd (member-none (t % 64) (subst (λ i. Member (t % 64) (slice_index (image ∷ []) i)) e m))

-- What an image brings that is new at y.
abbrev pub new_word : ℕ → List ℕ → ℕ → ℕ
new_word image reached y = bit_xor (union (slice_index reached y) image) (slice_index reached y)

pub word-added : {N image y : ℕ} {R P S : List ℕ} {h h' : ℕ} → WordRoom y R P S h → image < 2 ^ 64
    → Raised h (slice_index P y) (new_word image R y) h' → Ready 1 N R P S h → y < N
    → StatesAdded 1 N (λ t. Member t image) y R P h (slice_set R y (union (slice_index R y) image))
    (slice_set P y (union (slice_index P y) (new_word image R y))) (slice_set S h y) h'
word-added {N} {image} {y} {R} {P} {S} {h} {h'} room small u r k = go (ℕ_discrete new 0) (ℕ_discrete waited 0)
  where
    old : ℕ
    old = slice_index R y

    images : List ℕ
    images = image ∷ []

    a : ℕ
    a = 0

    new : ℕ
    new = new_word image R y

    waited : ℕ
    waited = slice_index P y

    R' : List ℕ
    R' = slice_set R y (union old image)

    P' : List ℕ
    P' = slice_set P y (union waited new)

    same : new ≡ new_of images (1 * a) R (1 * y) 0
    same = lacking old image ∙ rw (word-place y) refl

    nothing : new ≡ 0 → (i : ℕ) → Member i image → Member i old
    nothing z = none-new image old (sym (lacking old image) ∙ z)

    known : new ≡ 0 → (j : ℕ) → j < 1 → (i : ℕ) → Member i (word_of images (1 * a) j) → Member i (word_of R (1 * y) j)
    known z j l i m =
        let e : j ≡ 0 = omega arith in
        let f : 1 * y + j ≡ y = let p = one-mul y in omega arith in
        rw f (nothing z i (subst (λ j. Member i (word_of images (1 * a) j)) e m))

    R-same : new ≡ 0 → R' ≡ R
    R-same z = ap (set R y) same_word ∙ set-get_or R y 0
      where
        back : (i : ℕ) → Member i old ⊎ Member i image → Member i old
        back i (inl m) = m
        back i (inr m) = nothing z i m

        same_word : union old image ≡ old
        same_word = equal-members (union old image) old λ i. (
          λ m. back i ((member_union i old image).0 m),
          λ m. (member_union i old image).1 (inl m),
        )

    P-same : new ≡ 0 → P' ≡ P
    P-same z = ap (λ n. set P y (union waited n)) z ∙ ap (set P y) (or_zero_r waited) ∙ set-get_or P y 0

    united : United (1 * y) 1 (word_of images (1 * a)) R R'
    united = united-one y (word_of images (1 * a)) R room.known

    united' : United (1 * y) 1 (new_of images (1 * a) R (1 * y)) P P'
    united' = subst (λ n. United (1 * y) 1 (new_of images (1 * a) R (1 * y)) P (slice_set P y (union waited n))) (sym same)
        (united-one y (new_of images (1 * a) R (1 * y)) P room.waits)

    some : ¬ (new ≡ 0) → SomeNew (1 * y) 1 images (1 * a) R
    some d = some-new 0 (omega arith) small (λ z. d (same ∙ z))

    goes : {R'' P'' : List ℕ} {n : ℕ} → h' ≡ n → R' ≡ R'' → P' ≡ P'' → StatesAdded 1 N (Has 1 images a) y R P h R'' P'' (slice_set S h y) n
        → StatesAdded 1 N (λ t. Member t image) y R P h R' P' (slice_set S h y) h'
    goes e f g m =
        subst₂ (λ R' P'. StatesAdded 1 N (λ t. Member t image) y R P h R' P' (slice_set S h y) h') (sym f) (sym g)
        (subst (StatesAdded 1 N (λ t. Member t image) y R P h _ _ (slice_set S h y)) (sym e)
        (added-same (alone image) (λ t l i. (has_word images a t (omega arith)).1 i) m))

    go : Dec (new ≡ 0) → Dec (waited ≡ 0) → StatesAdded 1 N (λ t. Member t image) y R P h R' P' (slice_set S h y) h'
    go (yes z) w = goes (u.same z) (R-same z) (P-same z) (states-known images a (ready-behind y r) (known z))
    go (no d) (no w) =
        goes (u.on w) refl refl (states-stay a y (ready-behind y r) k (some d) (length-set R y (union old image))
        (length-set P y (union waited new)) united united' (0, omega arith, λ z. w (rw (word-place y) at z)))
    go (no d) (yes w) =
        goes (u.up w d) refl refl (states-push a y r k (some d) (length-set R y (union old image)) (length-set P y (union waited new))
        united united' (λ (j, l, n). n (let e : 1 * y + j ≡ y = let p = one-mul y in omega arith in rw e w)))

-- The states of an image that are in one word are those of their intersection.
pub image-added : {N : ℕ} (images : List ℕ) (next a : ℕ) {y : ℕ} {R P : List ℕ} {h : ℕ} {R' P' S' : List ℕ} {h' : ℕ}
    → StatesAdded 1 N (λ t. Member t (bit_and (slice_index images a) next)) y R P h R' P' S' h'
    → StatesAdded 1 N (WordImage images next a) y R P h R' P' S' h'
image-added images next a =
    added-same (λ t m. (member-intersection t (slice_index images a) next).0 m) (λ t l m. (member-intersection t (slice_index images a) next).1 m)
