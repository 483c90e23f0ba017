-- A page is read back: it determines the reports, as far as it shows them.
-- Assumes nothing.
use Prim.Native.Nat.{ℕ, zero, suc, ◌+◌, ◌-◌, ◌*◌, ◌/◌, ◌%◌, ◌≤◌, ◌<◌}
use native.Mathlib.Omega.{arith}
use mathlib.Core.Path.{◌≡◌, refl, sym, ◌∙◌, ap}
use mathlib.Core.Bool.{Bool, true, false, cond, ◌&&◌}
use mathlib.Core.List.{List, [], ◌∷◌, ◌++◌, map, append_assoc, append-nil, flat_map, flatten}
use lib.ListN.{length, get_or, take, drop, length-append, get_or-append}
use lib.Seq.{take_at, drop_at, get_or_at, get_or-append-add}
use lib.Dec.{leb, ltb, eqb, T as So, leb→le, ltb→lt, le→leb}
use Rattle.tables.specs.Name.{same_bytes}
use Rattle.rules.specs.Report.{Report, error, warning, left, errors, warnings, lefts}
use Rattle.rules.proofs.Bools.{and_l, and_r, and_i, yes≡, no≡, of≡}
use Rattle.rules_page.specs.Page.{bytes, kind_names, kind_name, blanks, left_in, right_in, last_digits, digits, column, head, line, lines, entry, page_lines, page_of}
use Rattle.rules_page.proofs.Rows.{rows}
use Rattle.rules_page.proofs.Shape.{all, printable, all_append, all_replicate, all_get_d, left-length, column-length, fit, kind-fit, warning-fit, left-fit, blank-begins, head-begins, Lines, none, more, line-length, page-lines, page-length}

-- the number that digits are, blanks before them counting as zeros
abbrev pub value : ℕ → List ℕ → ℕ
value v [] = v
value v (b ∷ bs) = value (v * 10 + (b - 48)) bs

value-append : (v : ℕ) (xs ys : List ℕ) → value v (xs ++ ys) ≡ value (value v xs) ys
value-append v [] ys = refl
value-append v (x ∷ xs) ys = value-append (v * 10 + (x - 48)) xs ys

value-blanks : (n : ℕ) → value 0 (blanks n) ≡ 0
unfolding blanks
value-blanks zero = refl
value-blanks (suc n) = value-blanks n

abbrev tens : ℕ → ℕ
tens zero = 1
tens (suc k) = 10 * tens k

one_more : (n : ℕ) (xs : List ℕ) (b : Bool) → (b ≡ true → n < 10) → value 0 xs ≡ n / 10 → value 0 (cond b [] xs ++ ((48 + n % 10) ∷ [])) ≡ n
one_more n xs true small e = let h = small refl in omega arith
one_more n xs false small e = rw value-append (omega arith)

value-digits : (k n : ℕ) → n < tens k → value 0 (last_digits k n) ≡ n
unfolding last_digits
value-digits zero n h = omega arith
value-digits (suc k) n h =
    one_more n (last_digits k (n / 10)) (ltb n 10) (λ e. ltb→lt n 10 (of≡ (ltb n 10) e)) (value-digits k (n / 10) (omega arith))

-- `digits` shows a number
pub digits_value : (n : ℕ) → n < 10000000000 → value 0 (digits n) ≡ n
unfolding digits
digits_value n h = value-digits 10 n h

pub digits-determine : (m n : ℕ) → m < 10000000000 → n < 10000000000 → digits m ≡ digits n → m ≡ n
digits-determine m n h t e = sym (digits_value m h) ∙ ap (value 0) e ∙ digits_value n t

-- a column is read as its number, and it doesn't end in a blank
column-value : (n : ℕ) → n < 10000000000 → value 0 (column n) ≡ n
unfolding column right_in
column-value n h = rw (value-append, value-blanks) (digits_value n h)

column-ends : (n : ℕ) (rest : List ℕ) → 32 < get_or (column n ++ rest) 11 0
unfolding column right_in digits last_digits
column-ends n rest =
    let xs = cond (ltb n 10) [] (last_digits 9 (n / 10)) in
    let b = blanks (12 - length (digits n)) in
    let e : column n ≡ (b ++ xs) ++ ((48 + n % 10) ∷ []) = sym (append_assoc b xs _) in
    let l = column-length n in
    let m = ap length e ∙ length-append (b ++ xs) _ in
    let a : get_or (column n ++ rest) 11 0 ≡ 48 + n % 10 = get_or-append (column n) rest 0 11 (omega arith) ∙ ap (λ (y : List ℕ). get_or y 11 0) e ∙ get_or_at (b ++ xs) (48 + n % 10) [] 0 11 (omega arith) in
    omega arith

-- bytes of 32 and below: blanks, and the line feed
abbrev blank : ℕ → Bool
blank b = leb b 32

blanks-blank : (n : ℕ) → So (all blank (blanks n))
unfolding blanks
blanks-blank n = all_replicate blank n 32 tt

-- up to n columns, as far as they are not blank
columns : ℕ → List ℕ → List ℕ
columns zero xs = []
columns (suc n) xs = cond (blank (get_or xs 11 0)) [] (value 0 (take 12 xs) ∷ columns n (drop 12 xs))

abbrev pub number : ℕ → Bool
number n = ltb n 4294967296

not-blank : (n : ℕ) (rest : List ℕ) → blank (get_or (column n ++ rest) 11 0) ≡ false
not-blank n rest =
    let b = get_or (column n ++ rest) 11 0 in
    no≡ (blank b) (λ t. omega (arith, leb→le b 32 t, column-ends n rest))

columns-read : (n : ℕ) (ps rest : List ℕ) → length ps ≤ n → So (all number ps) → So (all blank rest) → columns n (flat_map column ps ++ rest) ≡ ps
unfolding flat_map columns
columns-read zero [] rest h t u = refl
columns-read zero (p ∷ ps) rest h t u = absurd (omega arith)
columns-read (suc n) [] rest h t u = rw (yes≡ (blank (get_or rest 11 0)) (all_get_d blank rest 11 0 u tt))
columns-read (suc n) (p ∷ ps) rest h t u =
    let more = flat_map column ps ++ rest in
    let v = column-value p (let k = ltb→lt p 4294967296 (and_l (number p) (all number ps) t) in omega arith) in
    let r = columns-read n ps rest (omega arith) (and_r (number p) (all number ps) t) u in
    rw (append_assoc, not-blank p more, take_at (column p) more 12 (column-length p), drop_at (column p) more 12 (column-length p), v, r)

-- a line begins with its 36 columns, and then come the other places, and blanks
abbrev after : List ℕ → List ℕ → List ℕ
after h ps = flat_map column ps ++ (blanks (72 - length (h ++ flat_map column ps)) ++ (10 ∷ []))

line-parts : (h ps : List ℕ) → line h ps ≡ h ++ after h ps
unfolding line left_in
line-parts h ps = simp append_assoc

module _ (h ps : List ℕ) (b : length h ≡ 36) where
  line-begin : get_or (line h ps) 35 0 ≡ get_or h 35 0
  line-begin = rw line-parts (get_or-append h (after h ps) 0 35 (omega arith))

  line-others : length ps ≤ 3 → So (all number ps) → columns 3 (drop 36 (line h ps)) ≡ ps
  line-others m t =
      rw (line-parts, drop_at h (after h ps) 36 b)
      (columns-read 3 ps _ m t (all_append blank (blanks (72 - length (h ++ flat_map column ps))) (10 ∷ []) (blanks-blank _) tt))

-- the number of a name: an error's kind, 9 for a warning, 10 for a left-behind entry
kind_in : List (List ℕ) → ℕ → List ℕ → ℕ
kind_in [] i x = i
kind_in (n ∷ ns) i x = cond (same_bytes (left_in 24 n) x) i (kind_in ns (suc i) x)

kind_of : List ℕ → ℕ
kind_of x = kind_in (kind_names ++ (bytes "unused result" ∷ bytes "left behind" ∷ [])) 1 x

report_as : ℕ → ℕ → List ℕ → Report
report_as k p ps = cond (leb k 8) (error k p 0 ps) (cond (eqb k 9) (warning p (get_or ps 0 0)) (left p (get_or ps 0 0) (get_or ps 1 0)))

-- lines read from the last on: the places of continuation lines that stand first, and the reports behind them
abbrev Read : Type 0
Read = List ℕ × List Report

read_line : List ℕ → Read → Read
read_line l r =
    cond (blank (get_or l 35 0))
    (columns 3 (drop 36 l) ++ r.0, r.1)
    ([], report_as (kind_of (take 24 l)) (value 0 (take 12 (drop 24 l))) (columns 3 (drop 36 l) ++ r.0) ∷ r.1)

read_lines : List (List ℕ) → Read
read_lines [] = ([], [])
read_lines (l ∷ ls) = read_line l (read_lines ls)

blank-at : get_or (blanks 36) 35 0 ≡ 32
unfolding blanks
blank-at = refl

module _ (name : List ℕ) (p : ℕ) (f : So (fit name)) where
  name-length : length (left_in 24 name) ≡ 24
  name-length = left-length 24 name (leb→le (length name) 24 (and_l (leb (length name) 24) (all printable name) f))

  head-name : (rest : List ℕ) → take 24 (head name p ++ rest) ≡ left_in 24 name
  unfolding head
  head-name rest = rw append_assoc (take_at (left_in 24 name) (column p ++ rest) 24 name-length)

  head-place : (rest : List ℕ) → take 12 (drop 24 (head name p ++ rest)) ≡ column p
  unfolding head
  head-place rest = rw (append_assoc, drop_at (left_in 24 name) (column p ++ rest) 24 name-length) (take_at (column p) rest 12 (column-length p))

  head-ends : blank (get_or (head name p) 35 0) ≡ false
  unfolding head
  head-ends =
      let l = name-length in
      let e : 35 ≡ length (left_in 24 name) + 11 = omega arith in
      let g : get_or (left_in 24 name ++ column p) 35 0 ≡ get_or (column p) 11 0 = rw e (get_or-append-add (left_in 24 name) (column p) 11 0) in
      rw (g, ← append-nil (column p)) (not-blank p [])

module _ (ps : List ℕ) (few : So (leb (length ps) 3)) (t : So (all number ps)) (fs : List ℕ) (es : List Report) where
  further-line : read_line (line (blanks 36) ps) (fs, es) ≡ (ps ++ fs, es)
  unfolding read_line
  further-line =
      let b : get_or (line (blanks 36) ps) 35 0 ≡ 32 = line-begin (blanks 36) ps blank-begins.long ∙ blank-at in
      rw (b, line-others (blanks 36) ps blank-begins.long (leb→le (length ps) 3 few) t)

  first-line : (name : List ℕ) (p : ℕ) → So (fit name) → So (number p) →
      read_line (line (head name p) ps) (fs, es) ≡ ([], report_as (kind_of (left_in 24 name)) p (ps ++ fs) ∷ es)
  unfolding read_line
  first-line name p f n =
      let h = head name p in
      let s = (head-begins name p f).long in
      let b : blank (get_or (line h ps) 35 0) ≡ false = rw (line-begin h ps s) (head-ends name p f) in
      rw (
        b,
        line-others h ps s (leb→le (length ps) 3 few) t,
        line-parts,
        head-name name p f (after h ps),
        head-place name p f (after h ps),
        column-value p (let k = ltb→lt p 4294967296 n in omega arith),
      )

split-numbers : (p q r : ℕ) (ps : List ℕ) → So (all number (p ∷ q ∷ r ∷ ps)) → So (all number (p ∷ q ∷ r ∷ [])) × So (all number ps)
split-numbers p q r ps t =
    let a = and_r (number p) (all number (q ∷ r ∷ ps)) t in
    let b = and_r (number q) (all number (r ∷ ps)) a in (
      and_i (number p) (all number (q ∷ r ∷ [])) (and_l (number p) (all number (q ∷ r ∷ ps)) t)
          (and_i (number q) (all number (r ∷ [])) (and_l (number q) (all number (r ∷ ps)) a)
          (and_i (number r) true (and_l (number r) (all number ps) b) tt)),
      and_r (number r) (all number ps) b,
    )

module _ (ls : List (List ℕ)) (es : List Report) (known : read_lines ls ≡ ([], es)) where
  further-read : (ps : List ℕ) → So (all number ps) → read_lines (lines (blanks 36) ps ++ ls) ≡ (ps, es)
  unfolding read_lines lines
  further-read [] t = rw known (further-line [] tt t [] es)
  further-read (p ∷ []) t = rw known (further-line (p ∷ []) tt t [] es)
  further-read (p ∷ q ∷ []) t = rw known (further-line (p ∷ q ∷ []) tt t [] es)
  further-read (p ∷ q ∷ r ∷ []) t = rw known (further-line (p ∷ q ∷ r ∷ []) tt t [] es)
  further-read (p ∷ q ∷ r ∷ s ∷ ps) t =
      let a = split-numbers p q r (s ∷ ps) t in
      rw (further-read (s ∷ ps) a.1) (further-line (p ∷ q ∷ r ∷ []) tt a.0 (s ∷ ps) es)

  entry_read : (name : List ℕ) (p : ℕ) (ps : List ℕ) → So (fit name) → So (number p) → So (all number ps) →
      read_lines (lines (head name p) ps ++ ls) ≡ ([], report_as (kind_of (left_in 24 name)) p ps ∷ es)
  unfolding read_lines lines
  entry_read name a [] f n t = rw known (first-line [] tt t [] es name a f n)
  entry_read name a (p ∷ []) f n t = rw known (first-line (p ∷ []) tt t [] es name a f n)
  entry_read name a (p ∷ q ∷ []) f n t = rw known (first-line (p ∷ q ∷ []) tt t [] es name a f n)
  entry_read name a (p ∷ q ∷ r ∷ []) f n t = rw known (first-line (p ∷ q ∷ r ∷ []) tt t [] es name a f n)
  entry_read name a (p ∷ q ∷ r ∷ s ∷ ps) f n t =
      let b = split-numbers p q r (s ∷ ps) t in
      rw (further-read (s ∷ ps) b.1) (first-line (p ∷ q ∷ r ∷ []) tt b.0 (s ∷ ps) es name a f n)

kind-read : (k : ℕ) → 0 < k → k ≤ 8 → kind_of (left_in 24 (kind_name k)) ≡ k
unfolding kind_of kind_in kind_name kind_names bytes left_in blanks same_bytes
kind-read zero l h = absurd (omega arith)
kind-read (suc zero) l h = refl
kind-read (suc (suc zero)) l h = refl
kind-read (suc (suc (suc zero))) l h = refl
kind-read (suc (suc (suc (suc zero)))) l h = refl
kind-read (suc (suc (suc (suc (suc zero))))) l h = refl
kind-read (suc (suc (suc (suc (suc (suc zero)))))) l h = refl
kind-read (suc (suc (suc (suc (suc (suc (suc zero))))))) l h = refl
kind-read (suc (suc (suc (suc (suc (suc (suc (suc zero)))))))) l h = refl
kind-read (suc (suc (suc (suc (suc (suc (suc (suc (suc k))))))))) l h = absurd (omega arith)

-- reports as the pass makes them: kinds 1 to 8, and numbers below 4294967296
abbrev pub small : Report → Bool
small (error k p h ps) = (ltb 0 k && leb k 8) && (number p && all number ps)
small (warning s o) = number s && number o
small (left s n b) = number s && (number n && number b)

-- what a page shows of a report: all but the hint
abbrev pub told : Report → Report
told (error k p h ps) = error k p 0 ps
told (warning s o) = warning s o
told (left s n b) = left s n b

as-error : (k p : ℕ) (ps : List ℕ) → k ≤ 8 → report_as k p ps ≡ error k p 0 ps
unfolding report_as
as-error k p ps h = rw (yes≡ (leb k 8) (le→leb k 8 h))

as-warning : (s o : ℕ) → report_as (kind_of (left_in 24 (bytes "unused result"))) s (o ∷ []) ≡ warning s o
unfolding report_as kind_of kind_in kind_names bytes left_in blanks same_bytes
as-warning s o = refl

as-left : (s n b : ℕ) → report_as (kind_of (left_in 24 (bytes "left behind"))) s (n ∷ b ∷ []) ≡ left s n b
unfolding report_as kind_of kind_in kind_names bytes left_in blanks same_bytes
as-left s n b = refl

report-read : (r : Report) → So (small r) → (ls : List (List ℕ)) (es : List Report) → read_lines ls ≡ ([], es) → read_lines (entry r ++ ls) ≡ ([], told r ∷ es)
unfolding entry
report-read (error k p h ps) t ls es e =
    let a = and_l (ltb 0 k && leb k 8) (number p && all number ps) t in
    let b = and_r (ltb 0 k && leb k 8) (number p && all number ps) t in
    let c = leb→le k 8 (and_r (ltb 0 k) (leb k 8) a) in
    let f = kind-read k (ltb→lt 0 k (and_l (ltb 0 k) (leb k 8) a)) c in
    entry_read ls es e (kind_name k) p ps (kind-fit k) (and_l (number p) (all number ps) b) (and_r (number p) (all number ps) b)
    ∙ rw (f, as-error k p ps c)
report-read (warning s o) t ls es e =
    entry_read ls es e (bytes "unused result") s (o ∷ []) warning-fit (and_l (number s) (number o) t) (and_i (number o) true (and_r (number s) (number o) t) tt)
    ∙ rw (as-warning s o)
report-read (left s n b) t ls es e =
    let q = and_r (number s) (number n && number b) t in
    entry_read ls es e (bytes "left behind") s (n ∷ b ∷ []) left-fit (and_l (number s) (number n && number b) t)
    (and_i (number n) (number b && true) (and_l (number n) (number b) q) (and_i (number b) true (and_r (number n) (number b) q) tt))
    ∙ rw (as-left s n b)

entries-read : (rs : List Report) → So (all small rs) → (ls : List (List ℕ)) (es : List Report) → read_lines ls ≡ ([], es) →
    read_lines (flat_map entry rs ++ ls) ≡ ([], map told rs ++ es)
unfolding flat_map
entries-read [] t ls es e = e
entries-read (r ∷ rs) t ls es e =
    rw append_assoc
    (report-read r (and_l (small r) (all small rs) t) (flat_map entry rs ++ ls) (map told rs ++ es)
    (entries-read rs (and_r (small r) (all small rs) t) ls es e))

errors-small : (rs : List Report) → So (all small rs) → So (all small (errors rs))
errors-small [] t = tt
errors-small (error k p h ps ∷ rs) t =
    let r = small (error k p h ps) in
    and_i r (all small (errors rs)) (and_l r (all small rs) t) (errors-small rs (and_r r (all small rs) t))
errors-small (warning s o ∷ rs) t = errors-small rs (and_r (small (warning s o)) (all small rs) t)
errors-small (left s n b ∷ rs) t = errors-small rs (and_r (small (left s n b)) (all small rs) t)

warnings-small : (rs : List Report) → So (all small rs) → So (all small (warnings rs))
warnings-small [] t = tt
warnings-small (error k p h ps ∷ rs) t = warnings-small rs (and_r (small (error k p h ps)) (all small rs) t)
warnings-small (warning s o ∷ rs) t =
    let r = small (warning s o) in
    and_i r (all small (warnings rs)) (and_l r (all small rs) t) (warnings-small rs (and_r r (all small rs) t))
warnings-small (left s n b ∷ rs) t = warnings-small rs (and_r (small (left s n b)) (all small rs) t)

lefts-small : (rs : List Report) → So (all small rs) → So (all small (lefts rs))
lefts-small [] t = tt
lefts-small (error k p h ps ∷ rs) t = lefts-small rs (and_r (small (error k p h ps)) (all small rs) t)
lefts-small (warning s o ∷ rs) t = lefts-small rs (and_r (small (warning s o)) (all small rs) t)
lefts-small (left s n b ∷ rs) t =
    let r = small (left s n b) in
    and_i r (all small (lefts rs)) (and_l r (all small rs) t) (lefts-small rs (and_r r (all small rs) t))

-- the three lists, without hints
unfoldable pub shown : List Report → List Report
shown rs = map told (errors rs) ++ (map told (warnings rs) ++ map told (lefts rs))

lines-read : (rs : List Report) → So (all small rs) → read_lines (page_lines rs) ≡ ([], shown rs)
unfolding page_lines read_lines shown
lines-read rs t =
    let l = entries-read (lefts rs) (lefts-small rs t) [] [] refl in
    entries-read (errors rs) (errors-small rs t) _ _
    (entries-read (warnings rs) (warnings-small rs t) _ _
    (rw (append-nil (flat_map entry (lefts rs)), append-nil (map told (lefts rs))) at l))

-- bytes cut into lines
cut : ℕ → List ℕ → List (List ℕ)
cut zero xs = []
cut (suc n) xs = take 73 xs ∷ cut n (drop 73 xs)

cut-lines : {ls : List (List ℕ)} → Lines ls → cut (length ls) (flatten ls) ≡ ls
unfolding cut flatten
cut-lines none = refl
cut-lines (more {l = l} {ls = ls} x a) = rw (take_at l (flatten ls) 73 (line-length x), drop_at l (flatten ls) 73 (line-length x), cut-lines a)

pub read_page : List ℕ → List Report
read_page xs = (read_lines (cut (length xs / 73) xs)).1

-- a page is read back
pub page-reads : (rs : List Report) → So (all small rs) → read_page (page_of rs) ≡ shown rs
unfolding read_page page_of
page-reads rs t =
    let n = page-length rs in
    let e : length (page_of rs) / 73 ≡ length (page_lines rs) = omega arith in
    ap (λ (k : ℕ). (read_lines (cut k (page_of rs))).1) e
    ∙ (ap (λ (ls : List (List ℕ)). (read_lines ls).1) (cut-lines (page-lines rs)) ∙ ap (λ (r : Read). r.1) (lines-read rs t))

-- so reports with the same page agree in kinds, places and other places, in each of the three lists
pub page-determines : (rs qs : List Report) → So (all small rs) → So (all small qs) → page_of rs ≡ page_of qs → shown rs ≡ shown qs
page-determines rs qs t u e = sym (page-reads rs t) ∙ ap read_page e ∙ page-reads qs u

-- the premise is met by every row
rows-small : So (all small (flat_map (λ r. r.reports) rows))
unfolding flat_map
rows-small = tt
