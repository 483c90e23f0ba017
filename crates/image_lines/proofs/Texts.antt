-- What is put into a blank line makes the line.
-- Assumes nothing.
use Prim.Native.Nat.{ℕ, zero, suc, ◌+◌, ◌-◌, ◌*◌, ◌/◌, ◌%◌, ◌≤◌, ◌<◌}
use native.Mathlib.Omega.{arith}
use mathlib.Core.Path.{◌≡◌, refl, sym, ◌∙◌, ap, subst}
use mathlib.Core.List.{List, [], ◌∷◌, ◌++◌, append_assoc, append-nil, flat_map}
use native.Mathlib.Numerals.{add-one}
use borrow.Author.Tests.{lt-ltb, le-ltb}
use lib.ListN.{length, get_or, set, take, length-append, replicate-append-replicate}
use lib.Seq.{sets, sets-eq, take_at, take-suc, take_all, length-take-le, drop_at, drop-append-add, slice, length-slice}
use lib.Dec.{leb, leb→le}
use Rattle.rules.proofs.Bools.{and_l}
use Rattle.rules_page.specs.Page.{kind_name, blanks, left_in, right_in, last_digits, digits, column, head, line}
use Rattle.rules_page.proofs.Shape.{all, printable, kind-fit, blanks-length, left-length, digits-length, column-length, columns-length}
use Rattle.image_writing.specs.Stored.{Stored}
use Rattle.image_writing.proofs.Stores.{sets-append, sets-sets}

-- digits, the last one first
abbrev pub tens : ℕ → ℕ
tens zero = 1
tens (suc k) = 10 * tens k

abbrev pub digits_before : List ℕ → ℕ → ℕ → ℕ → List ℕ
digits_before xs e k m = sets xs (e - length (last_digits k m)) (last_digits k m)

pub one-digit : (xs : List ℕ) (i k m : ℕ) → m ≤ 9 → 0 < k → digits_before xs (i + 1) k m ≡ set xs i (48 + m)
unfolding last_digits
one-digit xs i zero m h t = absurd (omega arith)
one-digit xs i (suc k) m h t =
    let e : m % 10 ≡ m = omega arith in
    let p : i + 1 - 1 ≡ i = omega arith in
    rw (lt-ltb m 10 (omega arith), e, p)

pub more-digits : (xs : List ℕ) (i k m : ℕ) → 9 < m → k ≤ i → digits_before (set xs i (48 + m % 10)) i k (m / 10) ≡ digits_before xs (i + 1) (suc k) m
unfolding last_digits
more-digits xs i k m h t =
    let ys = last_digits k (m / 10) in
    let d = 48 + m % 10 in
    let b = digits-length k (m / 10) in
    let l = length-append ys (d ∷ []) in
    let p : i + 1 - length (ys ++ (d ∷ [])) ≡ i - length ys = omega arith in
    let q : i - length ys + length ys ≡ i = omega arith in
    rw (le-ltb m 10 h, p, sets-append, q) (sets-sets xs (i - length ys) i ys (d ∷ []) (omega arith))

pub two-left : (k m : ℕ) → 9 < m → m < tens k → 2 ≤ k
two-left zero m h t = absurd (omega arith)
two-left (suc zero) m h t = absurd (omega arith)
two-left (suc (suc k)) m h t = omega arith

-- blank lines
blanks-append : (m n : ℕ) → blanks m ++ blanks n ≡ blanks (m + n)
unfolding blanks
blanks-append m n = replicate-append-replicate m n 32

sets_over : (a b c v : List ℕ) (i : ℕ) → length a ≡ i → length b ≡ length v → sets (a ++ (b ++ c)) i v ≡ a ++ (v ++ c)
sets_over a b c v i h e =
    let l = a ++ (b ++ c) in
    let n = length-append a (b ++ c) in
    let m = length-append b c in
    let j : i + length v ≡ length a + length v = omega arith in
    sets-eq v l i (omega arith)
    ∙ rw (take_at a (b ++ c) i h, j, drop-append-add, drop_at b c (length v) e, append_assoc)

-- a line's text so far, and more put behind some blanks
pub text-more : (p xs : List ℕ) (k : ℕ) → length p + k + length xs ≤ 73 → sets (left_in 73 p) (length p + k) xs ≡ left_in 73 (p ++ (blanks k ++ xs))
unfolding left_in
text-more p xs k h =
    let m = 73 - (length p + k + length xs) in
    let e : 73 - length p ≡ k + (length xs + m) = omega arith in
    let q = length-append p (blanks k) in
    let b = blanks-length k in
    let t = length-append p (blanks k ++ xs) in
    let u = length-append (blanks k) xs in
    let w : 73 - length (p ++ (blanks k ++ xs)) ≡ m = omega arith in
    let before : p ++ blanks (73 - length p) ≡ (p ++ blanks k) ++ (blanks (length xs) ++ blanks m) = simp (append_assoc, blanks-append) (ap (λ (j : ℕ). p ++ blanks j) e) in
    let after : (p ++ blanks k) ++ (xs ++ blanks m) ≡ (p ++ (blanks k ++ xs)) ++ blanks (73 - length (p ++ (blanks k ++ xs))) = rw w (simp append_assoc) in
    ap (λ (l : List ℕ). sets l (length p + k) xs) before
    ∙ sets_over (p ++ blanks k) (blanks (length xs)) (blanks m) xs (length p + k) (omega arith) (blanks-length (length xs)) ∙ after

-- a name in it, a number, a line's end
blank-text : left_in 73 [] ≡ blanks 73
unfolding left_in
blank-text = refl

no-blanks : (xs : List ℕ) → blanks 0 ++ xs ≡ xs
unfolding blanks
no-blanks xs = refl

left-left : (xs : List ℕ) → length xs ≤ 24 → left_in 73 (left_in 24 xs) ≡ left_in 73 xs
unfolding left_in
left-left xs h =
    let l : length (xs ++ blanks (24 - length xs)) ≡ 24 = left-length 24 xs h in
    let e : 24 - length xs + 49 ≡ 73 - length xs = omega arith in
    rw l (simp (append_assoc, blanks-append) (ap (λ (j : ℕ). xs ++ blanks j) e))

full : (w : ℕ) (xs : List ℕ) → length xs ≡ w → left_in w xs ≡ xs
unfolding left_in blanks
full w xs e = let z : w - length xs ≡ 0 = omega arith in rw z (append-nil xs)

pub text-name : (name : List ℕ) → length name ≤ 24 → sets (blanks 73) 0 name ≡ left_in 73 (left_in 24 name)
text-name name h = ap (λ (l : List ℕ). sets l 0 name) (sym blank-text) ∙ text-more [] name 0 (omega arith) ∙ ap (left_in 73) (no-blanks name) ∙ sym (left-left name h)

pub text-column : (p : List ℕ) (n e : ℕ) → length p + 12 ≡ e → e ≤ 73 → sets (left_in 73 p) (e - length (digits n)) (digits n) ≡ left_in 73 (p ++ column n)
unfolding column right_in digits
text-column p n e h t =
    let d = digits-length 10 n in
    let i : e - length (last_digits 10 n) ≡ length p + (12 - length (last_digits 10 n)) = omega arith in
    rw i (text-more p (last_digits 10 n) (12 - length (last_digits 10 n)) (omega arith))

pub text-ends : (p : List ℕ) → length p ≤ 72 → set (left_in 73 p) 72 10 ≡ left_in 72 p ++ (10 ∷ [])
unfolding left_in
text-ends p h =
    let k = 72 - length p in
    let i : length p + k ≡ 72 = omega arith in
    let l = length-append p (blanks k ++ (10 ∷ [])) in
    let t = length-append (blanks k) (10 ∷ []) in
    let b = blanks-length k in
    ap (λ (j : ℕ). sets (left_in 73 p) j (10 ∷ [])) (sym i) ∙ text-more p (10 ∷ []) k (omega arith)
    ∙ full 73 (p ++ (blanks k ++ (10 ∷ []))) (omega arith) ∙ sym (append_assoc p (blanks k) (10 ∷ []))

-- other places, one after another
columns-snoc : (ps : List ℕ) (n : ℕ) → flat_map column (ps ++ (n ∷ [])) ≡ flat_map column ps ++ column n
unfolding flat_map
columns-snoc [] n = append-nil (column n)
columns-snoc (p ∷ ps) n = rw (append_assoc, columns-snoc ps n)

pub text-others : (h ps text : List ℕ) (i e : ℕ) → length h ≡ 36 → length ps ≤ 3 → i < length ps → e ≡ 48 + 12 * i →
    text ≡ left_in 73 (h ++ flat_map column (take i ps)) →
    sets text (e - length (digits (get_or ps i 0))) (digits (get_or ps i 0)) ≡ left_in 73 (h ++ flat_map column (take (i + 1) ps))
text-others h ps text i e b m t at k =
    let l = length-append h (flat_map column (take i ps)) in
    let c = columns-length (take i ps) in
    let n = length-take-le i ps (omega arith) in
    rw (k, add-one, take-suc ps i 0, columns-snoc, ← append_assoc)
    (text-column (h ++ flat_map column (take i ps)) (get_or ps i 0) e (omega arith) (omega arith))

-- the first 36 columns
pub head-length : (name : List ℕ) (p : ℕ) → length name ≤ 24 → length (head name p) ≡ 36
unfolding head
head-length name p h = let a = left-length 24 name h in let c = column-length p in simp length-append (omega arith)

pub kind-length : (k : ℕ) → length (kind_name k) ≤ 24
kind-length k = leb→le (length (kind_name k)) 24 (and_l (leb (length (kind_name k)) 24) (all printable (kind_name k)) (kind-fit k))

pub head-put : {t u : List ℕ} (name : List ℕ) (p : ℕ) → length name ≤ 24 →
    t ≡ sets (blanks 73) 0 name → u ≡ sets t (36 - length (digits p)) (digits p) → u ≡ left_in 73 (head name p)
unfolding head
head-put name p h a b =
    let l = left-length 24 name h in
    b ∙ rw (a, text-name name h) (text-column (left_in 24 name) p 36 (omega arith) (omega arith))

pub blank-head : left_in 73 (blanks 36) ≡ blanks 73
unfolding left_in blanks
blank-head = refl

-- a whole line stored
module _ {xs ys : List ℕ} {at r : ℕ} where
  pub line-put : (text h ps : List ℕ) → length h ≡ 36 → length ps ≤ 3 → text ≡ left_in 73 (h ++ flat_map column ps) →
      Stored xs at (slice 0 73 (set text 72 10)) ys r → Stored xs at (line h ps) ys r
  unfolding line
  line-put text h ps b m e s =
      let l = length-append h (flat_map column ps) in
      let c = columns-length ps in
      let p = h ++ flat_map column ps in
      let k : length p ≤ 72 = omega arith in
      let w = length-append (left_in 72 p) (10 ∷ []) in
      let n = left-length 72 p k in
      let t : set text 72 10 ≡ left_in 72 p ++ (10 ∷ []) = rw e (text-ends p k) in
      subst (λ (l : List ℕ). Stored xs at l ys r) (ap (take 73) t ∙ take_all 73 (left_in 72 p ++ (10 ∷ [])) (omega arith)) s

  pub line-place : (text : List ℕ) → length (set text 72 10) ≡ 73 → Stored xs at (slice 0 73 (set text 72 10)) ys r → r ≡ at + 73
  line-place text n s =
      let t = length-slice 0 73 (set text 72 10) (omega arith) in
      omega (arith, s.place)
