-- A line is 72 printable bytes and a line feed, and a page is made of such lines, whatever is reported.
-- Assumes nothing.
use Prim.Native.Nat.{ℕ, zero, suc, ◌+◌, ◌-◌, ◌*◌, ◌/◌, ◌%◌, ◌≤◌, ◌<◌}
use native.Mathlib.Omega.{arith}
use mathlib.Core.Path.{◌≡◌, refl, ◌∙◌, ap}
use mathlib.Core.Bool.{Bool, true, false, cond, ◌&&◌}
use mathlib.Core.List.{List, [], ◌∷◌, ◌++◌, flat_map, flatten}
use lib.ListN.{length, get_or, replicate, length-append, length-replicate, get_or-append}
use lib.Seq.{get_or-append-add, get_or_at}
use lib.Dec.{leb, ltb, T as So, leb→le, le→leb}
use Rattle.rules.specs.Report.{Report, error, warning, left}
use Rattle.rules.proofs.Bools.{and_l, and_r, and_i}
use Rattle.rules_page.specs.Page.{bytes, kind_names, kind_name, blanks, left_in, right_in, last_digits, digits, column, head, line, lines, entry, page_lines, page_of}

abbrev pub all : {A : Type 0} → (A → Bool) → List A → Bool
all p [] = true
all p (x ∷ xs) = p x && all p xs

module _ {A : Type 0} (p : A → Bool) where
  pub all_append : (xs ys : List A) → So (all p xs) → So (all p ys) → So (all p (xs ++ ys))
  all_append [] ys t u = u
  all_append (x ∷ xs) ys t u = and_i (p x) (all p (xs ++ ys)) (and_l (p x) (all p xs) t) (all_append xs ys (and_r (p x) (all p xs) t) u)

  pub all_replicate : (n : ℕ) (x : A) → So (p x) → So (all p (replicate n x))
  all_replicate zero x t = tt
  all_replicate (suc n) x t = and_i (p x) (all p (replicate n x)) t (all_replicate n x t)

  pub all_get_d : (xs : List A) (i : ℕ) (d : A) → So (all p xs) → So (p d) → So (p (get_or xs i d))
  all_get_d [] i d t u = u
  all_get_d (x ∷ xs) zero d t u = and_l (p x) (all p xs) t
  all_get_d (x ∷ xs) (suc i) d t u = all_get_d xs i d (and_r (p x) (all p xs) t) u

  all-at : (xs : List A) (i : ℕ) (d : A) → i < length xs → So (all p xs) → So (p (get_or xs i d))
  all-at [] i d h t = absurd (omega arith)
  all-at (x ∷ xs) zero d h t = and_l (p x) (all p xs) t
  all-at (x ∷ xs) (suc i) d h t = all-at xs i d (omega arith) (and_r (p x) (all p xs) t)

-- from space to tilde
abbrev pub printable : ℕ → Bool
printable b = leb 32 b && leb b 126

pub blanks-length : (n : ℕ) → length (blanks n) ≡ n
unfolding blanks
blanks-length n = length-replicate n 32

blanks-print : (n : ℕ) → So (all printable (blanks n))
unfolding blanks
blanks-print n = all_replicate printable n 32 tt

pub left-length : (w : ℕ) (xs : List ℕ) → length xs ≤ w → length (left_in w xs) ≡ w
unfolding left_in
left-length w xs h = simp (length-append, blanks-length) (omega arith)

pub right-length : (w : ℕ) (xs : List ℕ) → length xs ≤ w → length (right_in w xs) ≡ w
unfolding right_in
right-length w xs h = simp (length-append, blanks-length) (omega arith)

left-print : (w : ℕ) (xs : List ℕ) → So (all printable xs) → So (all printable (left_in w xs))
unfolding left_in
left-print w xs t = all_append printable xs _ t (blanks-print _)

right-print : (w : ℕ) (xs : List ℕ) → So (all printable xs) → So (all printable (right_in w xs))
unfolding right_in
right-print w xs t = all_append printable (blanks (w - length xs)) xs (blanks-print _) t

-- numbers
or-none : (b : Bool) (xs : List ℕ) (k : ℕ) → length xs ≤ k → length (cond b [] xs) ≤ k
or-none true xs k h = omega arith
or-none false xs k h = h

or-none-print : (b : Bool) (xs : List ℕ) → So (all printable xs) → So (all printable (cond b [] xs))
or-none-print true xs t = tt
or-none-print false xs t = t

pub digits-length : (k n : ℕ) → length (last_digits k n) ≤ k
unfolding last_digits
digits-length zero n = omega arith
digits-length (suc k) n =
    let h = or-none (ltb n 10) (last_digits k (n / 10)) k (digits-length k (n / 10)) in
    simp length-append (omega arith)

digit-print : (n : ℕ) → So (printable (48 + n % 10))
digit-print n =
    let h : n % 10 < 10 = omega arith in
    and_i (leb 32 (48 + n % 10)) (leb (48 + n % 10) 126) (le→leb 32 (48 + n % 10) (omega arith)) (le→leb (48 + n % 10) 126 (omega arith))

digits-print : (k n : ℕ) → So (all printable (last_digits k n))
unfolding last_digits
digits-print zero n = tt
digits-print (suc k) n =
    all_append printable (cond (ltb n 10) [] (last_digits k (n / 10))) _
    (or-none-print (ltb n 10) (last_digits k (n / 10)) (digits-print k (n / 10)))
    (and_i (printable (48 + n % 10)) true (digit-print n) tt)

pub column-length : (n : ℕ) → length (column n) ≡ 12
unfolding column digits
column-length n = let h = digits-length 10 n in right-length 12 _ (omega arith)

column-print : (n : ℕ) → So (all printable (column n))
unfolding column digits
column-print n = right-print 12 _ (digits-print _ n)

pub columns-length : (ps : List ℕ) → length (flat_map column ps) ≡ 12 * length ps
unfolding flat_map
columns-length [] = refl
columns-length (p ∷ ps) = let h = column-length p in let t = columns-length ps in simp length-append (omega arith)

columns-print : (ps : List ℕ) → So (all printable (flat_map column ps))
unfolding flat_map
columns-print [] = tt
columns-print (p ∷ ps) = all_append printable (column p) (flat_map column ps) (column-print p) (columns-print ps)

-- names
abbrev pub fit : List ℕ → Bool
fit xs = leb (length xs) 24 && all printable xs

pub kind-fit : (k : ℕ) → So (fit (kind_name k))
unfolding kind_name kind_names bytes
kind-fit k = all_get_d fit ([] ∷ kind_names) k [] tt tt

pub warning-fit : So (fit (bytes "unused result"))
unfolding bytes
warning-fit = tt

pub left-fit : So (fit (bytes "left behind"))
unfolding bytes
left-fit = tt

-- what a line begins with
pub record Begins (h : List ℕ) : Type 0 where
  pub long : length h ≡ 36
  pub printed : So (all printable h)

pub blank-begins : Begins (blanks 36)
blank-begins = record { long = blanks-length 36; printed = blanks-print 36 }

pub head-begins : (name : List ℕ) (p : ℕ) → So (fit name) → Begins (head name p)
unfolding head
head-begins name p t =
    let h = left-length 24 name (leb→le (length name) 24 (and_l (leb (length name) 24) (all printable name) t)) in
    let c = column-length p in
    record {
      long = simp length-append (omega arith);
      printed = all_append printable (left_in 24 name) (column p) (left-print 24 name (and_r (leb (length name) 24) (all printable name) t)) (column-print p);
    }

pub record Line (l : List ℕ) : Type 0 where
  pub text : List ℕ
  pub ends : l ≡ text ++ (10 ∷ [])
  pub long : length text ≡ 72
  pub printed : So (all printable text)

pub line-is : (h ps : List ℕ) → Begins h → So (leb (length ps) 3) → Line (line h ps)
unfolding line
line-is h ps b t =
    let c = columns-length ps in
    let m = leb→le (length ps) 3 t in
    record {
      text = left_in 72 (h ++ flat_map column ps);
      ends = refl;
      long = left-length 72 (h ++ flat_map column ps) (simp length-append (omega (arith, b.long)));
      printed = left-print 72 _ (all_append printable h (flat_map column ps) b.printed (columns-print ps));
    }

pub line-length : {l : List ℕ} → Line l → length l ≡ 73
line-length l = ap length l.ends ∙ simp length-append (omega (arith, l.long))

pub data Lines : List (List ℕ) → Type 0 where
  none : Lines []
  more : {l : List ℕ} {ls : List (List ℕ)} → Line l → Lines ls → Lines (l ∷ ls)

lines-append : {ls ms : List (List ℕ)} → Lines ls → Lines ms → Lines (ls ++ ms)
lines-append none b = b
lines-append (more l a) b = more l (lines-append a b)

pub lines_are : (h ps : List ℕ) → Begins h → Lines (lines h ps)
unfolding lines
lines_are h [] b = more (line-is _ _ b tt) none
lines_are h (p ∷ []) b = more (line-is _ _ b tt) none
lines_are h (p ∷ q ∷ []) b = more (line-is _ _ b tt) none
lines_are h (p ∷ q ∷ r ∷ []) b = more (line-is _ _ b tt) none
lines_are h (p ∷ q ∷ r ∷ s ∷ ps) b = more (line-is _ _ b tt) (lines_are (blanks 36) (s ∷ ps) blank-begins)

entry-lines : (r : Report) → Lines (entry r)
unfolding entry
entry-lines (error k p h ps) = lines_are _ _ (head-begins _ _ (kind-fit k))
entry-lines (warning s o) = lines_are _ _ (head-begins _ _ warning-fit)
entry-lines (left s n b) = lines_are _ _ (head-begins _ _ left-fit)

entries-lines : (rs : List Report) → Lines (flat_map entry rs)
unfolding flat_map
entries-lines [] = none
entries-lines (r ∷ rs) = lines-append (entry-lines r) (entries-lines rs)

pub page-lines : (rs : List Report) → Lines (page_lines rs)
unfolding page_lines
page-lines rs = lines-append (entries-lines _) (lines-append (entries-lines _) (entries-lines _))

pub lines-length : {ls : List (List ℕ)} → Lines ls → length (flatten ls) ≡ 73 * length ls
unfolding flatten
lines-length none = refl
lines-length (more l a) = let h = line-length l in let t = lines-length a in simp length-append (omega arith)

-- a page's length is 73 times its lines
pub page-length : (rs : List Report) → length (page_of rs) ≡ 73 * length (page_lines rs)
unfolding page_of
page-length rs = lines-length (page-lines rs)

-- the lines of an entry, counted: one, and one more for each three further places or part of them
pub lines-count : (h ps : List ℕ) → length (lines h ps) ≡ suc ((length ps - 1) / 3)
unfolding lines
lines-count h [] = refl
lines-count h (p ∷ []) = refl
lines-count h (p ∷ q ∷ []) = refl
lines-count h (p ∷ q ∷ r ∷ []) = refl
lines-count h (p ∷ q ∷ r ∷ s ∷ ps) = let t = lines-count (blanks 36) (s ∷ ps) in omega arith

line-printable : {l : List ℕ} → Line l → (j : ℕ) → j < 72 → So (printable (get_or l j 0))
line-printable x j h =
    let n : j < length x.text = omega (arith, x.long) in
    rw (x.ends, get_or-append) (all-at printable x.text j 0 n x.printed)

line-feed : {l : List ℕ} → Line l → get_or l 72 0 ≡ 10
line-feed x = ap (λ (y : List ℕ). get_or y 72 0) x.ends ∙ get_or_at x.text 10 [] 0 72 x.long

-- byte j of line i
line_of : {ls : List (List ℕ)} → Lines ls → (i j : ℕ) → i < length ls → j < 73 → get_or (flatten ls) (73 * i + j) 0 ≡ get_or (get_or ls i []) j 0
unfolding flatten
line_of none i j h t = absurd (omega arith)
line_of (more {l = l} {ls = ls} x a) zero j h t =
    let n = line-length x in
    let e : 73 * 0 + j ≡ j = omega arith in
    rw e (get_or-append l (flatten ls) 0 j (omega arith))
line_of (more {l = l} {ls = ls} x a) (suc i) j h t =
    let n = line-length x in
    let e : 73 * suc i + j ≡ length l + (73 * i + j) = omega arith in
    rw (e, get_or-append-add) (line_of a i j (omega arith) t)

is-line : {ls : List (List ℕ)} → Lines ls → (i : ℕ) → i < length ls → Line (get_or ls i [])
is-line none i h = absurd (omega arith)
is-line (more x a) zero h = x
is-line (more x a) (suc i) h = is-line a i (omega arith)

-- each 73rd byte of a page is a line feed, and every other is printable
module _ (rs : List Report) (i : ℕ) (within : i < length (page_lines rs)) where
  pub page-feed : get_or (page_of rs) (73 * i + 72) 0 ≡ 10
  unfolding page_of
  page-feed = line_of (page-lines rs) i 72 within (omega arith) ∙ line-feed (is-line (page-lines rs) i within)

  pub page-printable : (j : ℕ) → j < 72 → (32 ≤ get_or (page_of rs) (73 * i + j) 0) × (get_or (page_of rs) (73 * i + j) 0 ≤ 126)
  unfolding page_of
  page-printable j h =
      let b = get_or (get_or (page_lines rs) i []) j 0 in
      let t = line-printable (is-line (page-lines rs) i within) j h in
      rw (line_of (page-lines rs) i j within (omega arith)) (leb→le 32 b (and_l (leb 32 b) (leb b 126) t), leb→le b 126 (and_r (leb 32 b) (leb b 126) t))
