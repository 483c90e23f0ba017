-- Laws of words of marks.
-- Assumes nothing.
use Rattle.std.proofs.Common.{◌≡◌, ℕ, zero, suc, ◌+◌, ◌-◌, ◌*◌, ◌^◌, ◌<◌, ◌≤◌, Bool, true, false, cond, not, ◌&&◌, ◌||◌, eqb, ltb, leb, ◌⊎◌, sym, refl, ap, ◌∙◌, subst, ap₂, inl, inr, ⊎_elim, pow-suc, arith, pow_pos, pow_mono, le-ltb, lt-ltb, eq-eqb, ne_eqb, eqb-true, le-leb}
use borrow.Author.Tests.{eqb-false, lt-leb}
use lib.Bits.{bit_and, bit_or, and_block, or_block}
use lib.Count.{count_leading_zeros, leading_top}
use Rattle.image_fields.proofs.Tests.{split, less}
use Rattle.scope_stack.specs.Word.{word_of, slot, word_at, Top, Newest}

at-or-below : (j n : ℕ) → j < suc n → (j ≡ n) ⊎ (j < n)
at-or-below j n h = ⊎_elim (λ (l : j < n). inr l) (λ (l : n ≤ j). inl (omega arith)) (less j n)

bit-lt : (b : Bool) (n w : ℕ) → w < 2 ^ n → cond b 1 0 * 2 ^ n + w < 2 ^ suc n
bit-lt true n w h = omega (arith, pow-suc 2 n)
bit-lt false n w h = omega (arith, pow-suc 2 n)

pub word_lt : (n : ℕ) (p : ℕ → Bool) → word_of n p < 2 ^ n
unfolding word_of
word_lt zero p = omega arith
word_lt (suc n) p = bit-lt (p n) n (word_of n p) (word_lt n p)

-- the same bits make the same word
pub word_same : (n : ℕ) (p q : ℕ → Bool) → ((k : ℕ) → k < n → p k ≡ q k) → word_of n p ≡ word_of n q
unfolding word_of
word_same zero p q h = refl
word_same (suc n) p q h =
    let rest : word_of n p ≡ word_of n q = word_same n p q (λ k l. h k (omega arith)) in
    let top : p n ≡ q n = h n (omega arith) in
    rw (top, rest)

pub word_none : (n : ℕ) (p : ℕ → Bool) → ((k : ℕ) → k < n → p k ≡ false) → word_of n p ≡ 0
unfolding word_of
word_none zero p h = refl
word_none (suc n) p h =
    let rest : word_of n p ≡ 0 = word_none n p (λ k l. h k (omega arith)) in
    let top : p n ≡ false = h n (omega arith) in
    rw (top, rest) (omega arith)

and-bit : (a b : Bool) → bit_and (cond a 1 0) (cond b 1 0) ≡ cond (a && b) 1 0
and-bit true true = refl
and-bit true false = refl
and-bit false b = refl

or-bit : (a b : Bool) → bit_or (cond a 1 0) (cond b 1 0) ≡ cond (a || b) 1 0
or-bit true true = refl
or-bit true false = refl
or-bit false true = refl
or-bit false false = refl

pub word_and : (n : ℕ) (p q : ℕ → Bool) → bit_and (word_of n p) (word_of n q) ≡ word_of n (λ k. p k && q k)
unfolding word_of
word_and zero p q = refl
word_and (suc n) p q =
    and_block n (cond (p n) 1 0) (cond (q n) 1 0) (word_of n p) (word_of n q) (word_lt n p) (word_lt n q)
    ∙ ap₂ (λ (x y : ℕ). x * 2 ^ n + y) (and-bit (p n) (q n)) (word_and n p q)

pub word-or : (n : ℕ) (p q : ℕ → Bool) → bit_or (word_of n p) (word_of n q) ≡ word_of n (λ k. p k || q k)
unfolding word_of
word-or zero p q = refl
word-or (suc n) p q =
    or_block n (cond (p n) 1 0) (cond (q n) 1 0) (word_of n p) (word_of n q) (word_lt n p) (word_lt n q)
    ∙ ap₂ (λ (x y : ℕ). x * 2 ^ n + y) (or-bit (p n) (q n)) (word-or n p q)

all-step : (b : Bool) (n x y : ℕ) → x + y ≡ 2 ^ n - 1 → (cond b 1 0 * 2 ^ n + x) + (cond (not b) 1 0 * 2 ^ n + y) ≡ 2 ^ suc n - 1
all-step true n x y h = omega (arith, pow-suc 2 n, pow_pos n)
all-step false n x y h = omega (arith, pow-suc 2 n, pow_pos n)

-- every bit is set in one of a word and its complement
pub word-all : (n : ℕ) (p : ℕ → Bool) → word_of n p + word_of n (λ k. not (p k)) ≡ 2 ^ n - 1
unfolding word_of
word-all zero p = refl
word-all (suc n) p = all-step (p n) n (word_of n p) (word_of n (λ k. not (p k))) (word-all n p)

pub word-not : (n : ℕ) (p : ℕ → Bool) → (2 ^ n - 1) - word_of n p ≡ word_of n (λ k. not (p k))
word-not n p = omega (arith, word-all n p)

-- a bit past the others
pub word_more : (n : ℕ) (p : ℕ → Bool) → p n ≡ true → word_of (n + 1) p ≡ word_of n p + 2 ^ n
unfolding word_of
word_more n p e =
    let s : n + 1 ≡ suc n = omega arith in
    rw (s, e) (omega arith)

pub word-skip : (n : ℕ) (p : ℕ → Bool) → p n ≡ false → word_of (n + 1) p ≡ word_of n p
unfolding word_of
word-skip n p e =
    let s : n + 1 ≡ suc n = omega arith in
    rw (s, e) (omega arith)

one-here : (n i : ℕ) → i ≡ n → cond (eqb n i) 1 0 * 2 ^ n + word_of n (λ k. eqb k i) ≡ 2 ^ i
one-here n i e =
    let no : (k : ℕ) → k < n → eqb k i ≡ false = λ k l. let ne : k ≡ i → ⊥ = λ q. omega arith in ne_eqb k i ne in
    let z : word_of n (λ k. eqb k i) ≡ 0 = word_none n (λ k. eqb k i) no in
    let t : eqb n i ≡ true = eq-eqb n i (sym e) in
    let p : 2 ^ i ≡ 2 ^ n = ap (λ (x : ℕ). 2 ^ x) e in
    rw (t, z) (omega arith)

one-older : (n i : ℕ) → i < n → word_of n (λ k. eqb k i) ≡ 2 ^ i → cond (eqb n i) 1 0 * 2 ^ n + word_of n (λ k. eqb k i) ≡ 2 ^ i
one-older n i l ih =
    let ne : n ≡ i → ⊥ = λ q. omega arith in
    rw (ne_eqb n i ne) (omega arith)

-- one bit
pub word-one : (n i : ℕ) → i < n → word_of n (λ k. eqb k i) ≡ 2 ^ i
unfolding word_of
word-one zero i h = absurd (omega arith)
word-one (suc n) i h = ⊎_elim (λ (e : i ≡ n). one-here n i e) (λ (l : i < n). one-older n i l (word-one n i l)) (at-or-below i n h)

-- a word with a bit set, and cleared
choose-on : (b a : Bool) → (a || b) ≡ cond b true a
choose-on true true = refl
choose-on true false = refl
choose-on false true = refl
choose-on false false = refl

choose-off : (b a : Bool) → (a && not b) ≡ cond b false a
choose-off true true = refl
choose-off true false = refl
choose-off false true = refl
choose-off false false = refl

-- the bits of a word are its locals, whatever its number
slot-add : (k i : ℕ) → slot k i ≡ 64 * k + i
slot-add zero i = omega arith
slot-add (suc k) i = omega (arith, slot-add k i)

slot-eqb : (k i j : ℕ) → eqb (slot k i) (slot k j) ≡ eqb i j
slot-eqb k i j =
    ⊎_elim
    (λ (q : eqb i j ≡ true). eq-eqb (slot k i) (slot k j) (ap (slot k) (eqb-true i j q)) ∙ sym q)
    (λ (q : eqb i j ≡ false).
    let ne : slot k i ≡ slot k j → ⊥ = λ e. eqb-false i j q (omega (arith, slot-add k i, slot-add k j)) in
    ne_eqb (slot k i) (slot k j) ne ∙ sym q)
    (split (eqb i j))

slot-leb : (k i j : ℕ) → leb (slot k i) (slot k j) ≡ leb i j
slot-leb k i j =
    ⊎_elim
    (λ (l : j < i). lt-leb (slot k i) (slot k j) (omega (arith, slot-add k i, slot-add k j)) ∙ sym (lt-leb i j l))
    (λ (l : i ≤ j). le-leb (slot k i) (slot k j) (omega (arith, slot-add k i, slot-add k j)) ∙ sym (le-leb i j l))
    (less j i)

pub word_set : (k i : ℕ) (p : ℕ → Bool) → i < 64 → bit_or (word_at k 64 p) (2 ^ i) ≡ word_at k 64 (λ j. cond (eqb j (slot k i)) true (p j))
word_set k i p h =
    ap (λ (x : ℕ). bit_or (word_at k 64 p) x) (sym (word-one 64 i h)) ∙ word-or 64 (λ j. p (slot k j)) (λ j. eqb j i)
    ∙ word_same 64 (λ j. p (slot k j) || eqb j i) (λ j. cond (eqb (slot k j) (slot k i)) true (p (slot k j))) (λ j l. rw (slot-eqb k j i) (choose-on (eqb j i) (p (slot k j))))

pub word-clear : (k i : ℕ) (p : ℕ → Bool) → i < 64 → bit_and (word_at k 64 p) (18446744073709551615 - 2 ^ i) ≡ word_at k 64 (λ j. cond (eqb j (slot k i)) false (p j))
word-clear k i p h =
    ap (λ (x : ℕ). bit_and (word_at k 64 p) (18446744073709551615 - x)) (sym (word-one 64 i h))
    ∙ ap (λ (x : ℕ). bit_and (word_at k 64 p) x) (word-not 64 (λ j. eqb j i)) ∙ word_and 64 (λ j. p (slot k j)) (λ j. not (eqb j i))
    ∙ word_same 64 (λ j. p (slot k j) && not (eqb j i)) (λ j. cond (eqb (slot k j) (slot k i)) false (p (slot k j))) (λ j l. rw (slot-eqb k j i) (choose-off (eqb j i) (p (slot k j))))

-- the bit j alone is as high as the word
top-at : (n m j : ℕ) → 2 ^ n ≤ m → m < 2 ^ suc n → 2 ^ j ≤ m → m < 2 ^ suc j → j ≡ n
top-at n m j low high lo hi =
    ⊎_elim
    (λ (l : j < n). absurd (let up : 2 ^ suc j ≤ 2 ^ n = pow_mono (omega arith) in omega arith))
    (λ (l : n ≤ j). ⊎_elim
    (λ (g : n < j). absurd (let up : 2 ^ suc n ≤ 2 ^ j = pow_mono (omega arith) in omega arith))
    (λ (g : j ≤ n). omega arith) (less n j))
    (less j n)

top-step : (b : Bool) (n : ℕ) (p : ℕ → Bool) (m j : ℕ) → p n ≡ b → m ≡ cond b 1 0 * 2 ^ n + word_of n p → 2 ^ j ≤ m → m < 2 ^ suc j
    → (m ≡ word_of n p → Newest 0 n p m j) → Newest 0 (suc n) p m j
top-step true n p m j e is lo hi ih =
    let w = word_lt n p in
    let eq : j ≡ n = top-at n m j (omega arith) (omega (arith, pow-suc 2 n)) lo hi in
    record {
      below = omega arith;
      set = ap p eq ∙ e;
      clear = λ k a b. absurd (omega arith);
      high = lo;
      rest = rw eq (omega arith);
    }
top-step false n p m j e is lo hi ih =
    let here : m ≡ word_of n p = omega arith in
    let h = ih here in
    record {
      below = omega (arith, h.below);
      set = h.set;
      clear = λ k a b. ⊎_elim (λ (q : k ≡ n). ap p q ∙ e) (λ (l : k < n). h.clear k a l) (at-or-below k n b);
      high = h.high;
      rest = h.rest;
    }

top-word : (n : ℕ) (p : ℕ → Bool) (m j : ℕ) → m ≡ word_of n p → 2 ^ j ≤ m → m < 2 ^ suc j → Newest 0 n p m j
unfolding word_of
top-word zero p m j is lo hi = absurd (omega (arith, pow_pos j))
top-word (suc n) p m j is lo hi = top-step (p n) n p m j refl is lo hi (λ e. top-word n p m j e lo hi)

-- word k of what p says is word 0 of what p says of its locals
newest-at : (k n : ℕ) (p : ℕ → Bool) (m j : ℕ) → Newest 0 n (λ i. p (slot k i)) m j → Newest k n p m j
newest-at k n p m j h = record { below = h.below; set = h.set; clear = h.clear; high = h.high; rest = h.rest }

pub top_of : (m : ℕ) → 0 < m → m < 2 ^ 64
    → (count_leading_zeros 64 m ≤ 63) × (Top m (63 - count_leading_zeros 64 m) × ((k n : ℕ) (p : ℕ → Bool) → m ≡ word_at k n p → Newest k n p m (63 - count_leading_zeros 64 m)))
top_of m h fits =
    let t = leading_top 64 m h fits in
    let e : 63 - count_leading_zeros 64 m ≡ t.0 = omega (arith, t.1) in
    let s : suc t.0 ≡ t.0 + 1 = omega arith in
    (omega (arith, t.1), (rw e (record { low = t.2; high = rw s at t.3; small = omega (arith, t.1) }), λ k n p is. rw e (newest-at k n p m t.0 (top-word n (λ i. p (slot k i)) m t.0 is t.2 t.3))))

-- the highest bit of a word of n bits is below n, and the rest of the word is shorter
pub top_below : (m j n : ℕ) → Top m j → m < 2 ^ n → j < n
top_below m j n t h =
    ⊎_elim (λ (l : j < n). l) (λ (l : n ≤ j). absurd (let up : 2 ^ n ≤ 2 ^ j = pow_mono l in omega (arith, t.low))) (less j n)

pub top-rest : (m j : ℕ) → Top m j → m - 2 ^ j < 2 ^ j
top-rest m j t =
    let s : j + 1 ≡ suc j = omega arith in
    let d : 2 ^ (j + 1) ≡ 2 ^ j * 2 = ap (λ (k : ℕ). 2 ^ k) s ∙ pow-suc 2 j in
    omega (arith, t.low, t.high, pow_pos j)

pub word-full : (n : ℕ) (p : ℕ → Bool) → ((k : ℕ) → k < n → p k ≡ true) → 2 ^ n - 1 ≡ word_of n p
word-full n p h =
    let none : word_of n (λ k. not (p k)) ≡ 0 = word_none n (λ k. not (p k)) (λ k l. ap not (h k l)) in
    omega (arith, word-all n p)

zero-step : (b : Bool) (n w : ℕ) → cond b 1 0 * 2 ^ n + w ≡ 0 → (b ≡ false) × (w ≡ 0)
zero-step true n w h = absurd (omega (arith, pow_pos n))
zero-step false n w h = (refl, omega arith)

-- no bit of 0 is set
pub word-zero : (n : ℕ) (p : ℕ → Bool) → word_of n p ≡ 0 → (k : ℕ) → k < n → p k ≡ false
unfolding word_of
word-zero zero p e k l = absurd (omega arith)
word-zero (suc n) p e k l =
    let z = zero-step (p n) n (word_of n p) e in
    ⊎_elim (λ (q : k ≡ n). ap p q ∙ z.0) (λ (g : k < n). word-zero n p z.1 k g) (at-or-below k n l)

limit-step : (n m : ℕ) (q : ℕ → Bool) → n ≤ m → word_of m (λ k. ltb k n && q k) ≡ word_of n q → cond (ltb m n && q m) 1 0 * 2 ^ m + word_of m (λ k. ltb k n && q k) ≡ word_of n q
limit-step n m q le ih = rw (le-ltb m n le) (omega arith)

-- a longer word with no bit past the first n
pub word-limit : (n m : ℕ) (q : ℕ → Bool) → n ≤ m → word_of m (λ k. ltb k n && q k) ≡ word_of n q
unfolding word_of
word-limit n zero q le = let z : n ≡ 0 = omega arith in rw z
word-limit n (suc m) q le =
    ⊎_elim
    (λ (h : n ≤ m). limit-step n m q h (word-limit n m q h))
    (λ (h : m < n).
    let z : suc m ≡ n = omega arith in
    word_same (suc m) (λ k. ltb k n && q k) q (λ k l. let lt : k < n = omega arith in rw (lt-ltb k n lt)) ∙ ap (λ (x : ℕ). word_of x q) z)
    (⊎_elim (λ (h : m < n). inr h) (λ (h : n ≤ m). inl h) (less m n))

and-limit : (a b c : Bool) → (a && (b && c)) ≡ (b && (a && c))
and-limit true true c = refl
and-limit true false c = refl
and-limit false true c = refl
and-limit false false c = refl

-- the bits set in a word and in a shorter one
pub word-both : (n m : ℕ) (p q : ℕ → Bool) → n ≤ m → bit_and (word_of m p) (word_of n q) ≡ word_of n (λ k. p k && q k)
word-both n m p q le =
    ap (λ (x : ℕ). bit_and (word_of m p) x) (sym (word-limit n m q le)) ∙ word_and m p (λ k. ltb k n && q k)
    ∙ word_same m (λ k. p k && (ltb k n && q k)) (λ k. ltb k n && (p k && q k)) (λ k l. and-limit (p k) (ltb k n) (q k))
    ∙ word-limit n m (λ k. p k && q k) le

-- one bit of a word
pub word-pick : (n i : ℕ) (p : ℕ → Bool) → i < n → bit_and (word_of n p) (2 ^ i) ≡ cond (p i) (2 ^ i) 0
word-pick n i p l =
    ap (λ (x : ℕ). bit_and (word_of n p) x) (sym (word-one n i l)) ∙ word_and n p (λ k. eqb k i) ∙ by_bit (p i) refl
  where
    at : (b : Bool) → p i ≡ b → (k : ℕ) → (p k && eqb k i) ≡ (b && eqb k i)
    at b e k = ⊎_elim (λ (z : eqb k i ≡ true). rw (eqb-true k i z, e)) (λ (z : eqb k i ≡ false). rw z (none (p k) b)) (split (eqb k i))
      where
        none : (x y : Bool) → (x && false) ≡ (y && false)
        none true true = refl
        none true false = refl
        none false true = refl
        none false false = refl

    by_bit : (b : Bool) → p i ≡ b → word_of n (λ k. p k && eqb k i) ≡ cond (p i) (2 ^ i) 0
    by_bit true e = word_same n (λ k. p k && eqb k i) (λ k. eqb k i) (λ k lk. at true e k) ∙ word-one n i l ∙ rw e
    by_bit false e = word_none n (λ k. p k && eqb k i) (λ k lk. at false e k) ∙ rw e

pick-test : (b : Bool) (x : ℕ) → 0 < x → not (eqb (cond b x 0) 0) ≡ b
pick-test true x h = let ne : x ≡ 0 → ⊥ = λ z. omega arith in rw (ne_eqb x 0 ne)
pick-test false x h = refl

pub word-bit : (n i : ℕ) (p : ℕ → Bool) → i < n → not (eqb (bit_and (word_of n p) (2 ^ i)) 0) ≡ p i
word-bit n i p l = ap (λ (x : ℕ). not (eqb x 0)) (word-pick n i p l) ∙ pick-test (p i) (2 ^ i) (pow_pos i)

-- the bits from base on: a mask of those below it, turned over
not-below : (k base : ℕ) → not (ltb k base && true) ≡ leb base k
not-below k base =
    ⊎_elim (λ (l : k < base). rw (lt-ltb k base l, lt-leb base k l)) (λ (l : base ≤ k). rw (le-ltb k base l, le-leb base k l)) (less k base)

pub mask-since : (base : ℕ) → base ≤ 64 → 18446744073709551615 - (2 ^ base - 1) ≡ word_of 64 (λ k. leb base k)
mask-since base le =
    ap (λ (x : ℕ). 18446744073709551615 - x) (word-full base (λ k. true) (λ k l. refl) ∙ sym (word-limit base 64 (λ k. true) le))
    ∙ word-not 64 (λ k. ltb k base && true) ∙ word_same 64 (λ k. not (ltb k base && true)) (λ k. leb base k) (λ k l. not-below k base)

pub word-since : (k n base : ℕ) (p : ℕ → Bool) → n ≤ 64 → base ≤ 64
    → bit_and (18446744073709551615 - (2 ^ base - 1)) (word_at k n p) ≡ word_at k n (λ i. leb (slot k base) i && p i)
word-since k n base p ln lb =
    ap (λ (x : ℕ). bit_and x (word_at k n p)) (mask-since base lb) ∙ word-both n 64 (λ i. leb base i) (λ i. p (slot k i)) ln
    ∙ word_same n (λ i. leb base i && p (slot k i)) (λ i. leb (slot k base) (slot k i) && p (slot k i)) (λ i l. rw (slot-leb k base i))

-- past all bits there is none
pub word-past : (k n base : ℕ) (p : ℕ → Bool) → n ≤ 64 → base ≡ 64 → 0 ≡ word_at k n (λ i. leb (slot k base) i && p i)
word-past k n base p ln e =
    sym (word_none n (λ i. leb (slot k base) (slot k i) && p (slot k i)) (λ i l.
    let h : i < base = omega arith in
    rw (slot-leb k base i, lt-leb base i h)))

-- how many of the lowest n bits are set
unfoldable pub ones : ℕ → ℕ → ℕ
ones zero m = 0
ones (suc n) m = cond (leb (2 ^ n) m) (suc (ones n (m - 2 ^ n))) (ones n m)

ones-short : (n m : ℕ) → m < 2 ^ n → ones (suc n) m ≡ ones n m
unfolding ones
ones-short n m h = rw (lt-leb (2 ^ n) m h)

ones-long : (n m : ℕ) → 2 ^ n ≤ m → ones (suc n) m ≡ suc (ones n (m - 2 ^ n))
unfolding ones
ones-long n m h = rw (le-leb (2 ^ n) m h)

-- without its highest set bit a word has one fewer: a loop that takes these away has a turn for each set bit, and no other
pub ones-without : (n m j : ℕ) → m < 2 ^ n → Top m j → ones n m ≡ suc (ones n (m - 2 ^ j))
ones-without zero m j h t = absurd (omega (arith, t.low, pow_pos j))
ones-without (suc n) m j h t =
    ⊎_elim
    (λ (l : m < 2 ^ n).
    let s : m - 2 ^ j < 2 ^ n = omega arith in
    ones-short n m l ∙ ones-without n m j l t ∙ ap suc (sym (ones-short n (m - 2 ^ j) s)))
    (λ (l : 2 ^ n ≤ m).
    let one : j + 1 ≡ suc j = omega arith in
    let e : j ≡ n = top-at n m j l h t.low (subst (λ (x : ℕ). m < 2 ^ x) one t.high) in
    let s : m - 2 ^ n < 2 ^ n = subst (λ (x : ℕ). m - 2 ^ x < 2 ^ x) e (top-rest m j t) in
    ones-long n m l ∙ ap suc (sym (ones-short n (m - 2 ^ n) s) ∙ ap (λ (x : ℕ). ones (suc n) (m - 2 ^ x)) (sym e)))
    (less m (2 ^ n))

pub ones-less : (m j : ℕ) → Top m j → ones 64 (m - 2 ^ j) < ones 64 m
ones-less m j t =
    let up : 2 ^ (j + 1) ≤ 2 ^ 64 = pow_mono {i = j + 1} {j = 64} (omega (arith, t.small)) in
    let h : m < 2 ^ 64 = omega (arith, t.high) in
    omega (arith, ones-without 64 m j h t)

-- how many of the first n p says so of
unfoldable pub many : ℕ → (ℕ → Bool) → ℕ
many zero p = 0
many (suc n) p = cond (p n) (suc (many n p)) (many n p)

ones_step : (b : Bool) (n w k : ℕ) → w < 2 ^ n → ones n w ≡ k → ones (suc n) (cond b 1 0 * 2 ^ n + w) ≡ cond b (suc k) k
ones_step true n w k h e =
    let s : 1 * 2 ^ n + w - 2 ^ n ≡ w = omega arith in
    ones-long n (1 * 2 ^ n + w) (omega arith) ∙ ap (λ (x : ℕ). suc (ones n x)) s ∙ ap suc e
ones_step false n w k h e =
    let s : 0 * 2 ^ n + w ≡ w = omega arith in
    ap (ones (suc n)) s ∙ ones-short n w h ∙ e

ones-bits : (n : ℕ) (p : ℕ → Bool) → ones n (word_of n p) ≡ many n p
unfolding word_of ones many
ones-bits zero p = refl
ones-bits (suc n) p = ones_step (p n) n (word_of n p) (many n p) (word_lt n p) (ones-bits n p)

ones-wider : (n k m : ℕ) → m < 2 ^ n → ones (n + k) m ≡ ones n m
ones-wider n zero m h = let z : n + 0 ≡ n = omega arith in rw z
ones-wider n (suc k) m h =
    let z : n + suc k ≡ suc (n + k) = omega arith in
    let up : 2 ^ n ≤ 2 ^ (n + k) = pow_mono {i = n} {j = n + k} (omega arith) in
    ap (λ (x : ℕ). ones x m) z ∙ ones-short (n + k) m (omega arith) ∙ ones-wider n k m h

-- the set bits of a word are those that p says so of
pub ones-word : (n : ℕ) (p : ℕ → Bool) → n ≤ 64 → ones 64 (word_of n p) ≡ many n p
ones-word n p le =
    let z : 64 ≡ n + (64 - n) = omega arith in
    ap (λ (x : ℕ). ones x (word_of n p)) z ∙ ones-wider n (64 - n) (word_of n p) (word_lt n p) ∙ ones-bits n p
