-- Reports stored at their cursors, in whatever order the lists come mixed, make the page.
-- Assumes nothing.
use Prim.Native.Nat.{ℕ, ◌+◌, ◌≤◌}
use native.Mathlib.Omega.{arith}
use native.Mathlib.Nat.{add-zero, zero-add, add_assoc}
use mathlib.Core.Path.{◌≡◌, refl, sym, ◌∙◌}
use mathlib.Core.List.{List, [], ◌∷◌, ◌++◌, append_assoc, append-nil, flat_map, flatten}
use lib.ListN.{length, drop, length-append}
use lib.Seq.{sets, sets-eq, length-sets}
use Rattle.rules.specs.Report.{Report, error, warning, left, errors, warnings, lefts}
use Rattle.rules_page.specs.Page.{entry, page_lines, page_of}
use Rattle.image_writing.specs.Stored.{Stored}
use Rattle.image_writing.proofs.Stores.{sets-append, sets-sets}
use Rattle.image_lines.specs.Lined.{shown, shown_all, Cursors, cursors, cursor, onward, onward_all, lined, starts}

flatten-append : (a b : List (List ℕ)) → flatten (a ++ b) ≡ flatten a ++ flatten b
unfolding flatten
flatten-append [] b = refl
flatten-append (x ∷ a) b = rw (append_assoc, flatten-append a b)

-- a list of reports as its first and the rest
pub shown-more : (r : Report) (rs : List Report) → shown_all (r ∷ rs) ≡ shown r ++ shown_all rs
unfolding shown shown_all flat_map
shown-more r rs = flatten-append (entry r) (flat_map entry rs)

more-length : (n : ℕ) (r : Report) (rs : List Report) → n + length (shown r) + length (shown_all rs) ≡ n + length (shown_all (r ∷ rs))
more-length n r rs = let e = length-append (shown r) (shown_all rs) in rw shown-more (omega arith)

pub shown-none : shown_all [] ≡ []
unfolding shown_all flat_map flatten
shown-none = refl

pub shown-single : (r : Report) → shown_all (r ∷ []) ≡ shown r
shown-single r = rw (shown-more, shown-none) (append-nil (shown r))

pub page-parts : (rs : List Report) → page_of rs ≡ shown_all (errors rs) ++ (shown_all (warnings rs) ++ shown_all (lefts rs))
unfolding page_of page_lines shown_all
page-parts rs = rw (flatten-append, flatten-append)

-- memory and cursors after some reports and others behind them
pub lined-append : (c : Cursors) (xs ys : List Report) (out : List ℕ) → lined c (xs ++ ys) out ≡ lined (onward_all c xs) ys (lined c xs out)
unfolding lined onward_all
lined-append c [] ys out = refl
lined-append c (x ∷ xs) ys out = lined-append (onward c x) xs ys (sets out (cursor c x) (shown x))

pub onward-append : (c : Cursors) (xs ys : List Report) → onward_all c (xs ++ ys) ≡ onward_all (onward_all c xs) ys
unfolding onward_all
onward-append c [] ys = refl
onward-append c (x ∷ xs) ys = onward-append (onward c x) xs ys

pub lined-length : (c : Cursors) (rs : List Report) (out : List ℕ) → length (lined c rs out) ≡ length out
unfolding lined
lined-length c [] out = refl
lined-length c (r ∷ rs) out = lined-length (onward c r) rs (sets out (cursor c r) (shown r)) ∙ length-sets out (cursor c r) (shown r)

pub lined-single : (c : Cursors) (r : Report) (out : List ℕ) → lined c (r ∷ []) out ≡ sets out (cursor c r) (shown r)
unfolding lined
lined-single c r out = refl

-- what is stored of a report as the code says it: memory and cursor after it
pub stored-lined : {old new : List ℕ} {next : ℕ} (c : Cursors) (r : Report) → Stored old (cursor c r) (shown r) new next →
    (new ≡ lined c (r ∷ []) old) × (next ≡ cursor (onward c r) r)
unfolding lined
stored-lined c (error k p h ps) s = (s.cells, s.place)
stored-lined c (warning t o) s = (s.cells, s.place)
stored-lined c (left t n b) s = (s.cells, s.place)

-- the cursors after some reports: each behind what its list shows
pub cursors-of : (c : Cursors) (rs : List Report) → onward_all c rs
    ≡ cursors (c.errors + length (shown_all (errors rs))) (c.warnings + length (shown_all (warnings rs))) (c.lefts + length (shown_all (lefts rs)))
unfolding onward_all
cursors-of c [] = simp (shown-none, add-zero)
cursors-of c (error k p h ps ∷ rs) = cursors-of (onward c (error k p h ps)) rs ∙ rw (more-length c.errors (error k p h ps) (errors rs))
cursors-of c (warning s o ∷ rs) = cursors-of (onward c (warning s o)) rs ∙ rw (more-length c.warnings (warning s o) (warnings rs))
cursors-of c (left s n b ∷ rs) = cursors-of (onward c (left s n b)) rs ∙ rw (more-length c.lefts (left s n b) (lefts rs))

-- reports measured from 0 on: where the lists begin, and the page's length
module _ (rs : List Report) where
  abbrev measured : Cursors
  measured = onward_all (cursors 0 0 0) rs

  pub starts-measured : starts rs ≡ cursors 0 measured.errors (measured.errors + measured.warnings)
  starts-measured = simp (cursors-of, zero-add)

  pub length-measured : length (page_of rs) ≡ measured.errors + measured.warnings + measured.lefts
  length-measured = simp (cursors-of, zero-add, page-parts, length-append, add_assoc)

-- a list's next lines behind those stored
sets_more : (out : List ℕ) (at : ℕ) (r : Report) (rs : List Report) →
    sets (sets out at (shown r)) (at + length (shown r)) (shown_all rs) ≡ sets out at (shown_all (r ∷ rs))
sets_more out at r rs = rw shown-more (sym (sets-append out at (shown r) (shown_all rs)))

-- reports of one list
pub lined-errors : (c : Cursors) (rs : List Report) (out : List ℕ) → lined c (errors rs) out ≡ sets out c.errors (shown_all (errors rs))
unfolding lined
lined-errors c [] out = simp shown-none
lined-errors c (error k p h ps ∷ rs) out =
    lined-errors (onward c (error k p h ps)) rs (sets out c.errors (shown (error k p h ps))) ∙ sets_more out c.errors (error k p h ps) (errors rs)
lined-errors c (warning s o ∷ rs) out = lined-errors c rs out
lined-errors c (left s n b ∷ rs) out = lined-errors c rs out

pub lined-warnings : (c : Cursors) (rs : List Report) (out : List ℕ) → lined c (warnings rs) out ≡ sets out c.warnings (shown_all (warnings rs))
unfolding lined
lined-warnings c [] out = simp shown-none
lined-warnings c (error k p h ps ∷ rs) out = lined-warnings c rs out
lined-warnings c (warning s o ∷ rs) out =
    lined-warnings (onward c (warning s o)) rs (sets out c.warnings (shown (warning s o))) ∙ sets_more out c.warnings (warning s o) (warnings rs)
lined-warnings c (left s n b ∷ rs) out = lined-warnings c rs out

pub lined-lefts : (c : Cursors) (rs : List Report) (out : List ℕ) → lined c (lefts rs) out ≡ sets out c.lefts (shown_all (lefts rs))
unfolding lined
lined-lefts c [] out = simp shown-none
lined-lefts c (error k p h ps ∷ rs) out = lined-lefts c rs out
lined-lefts c (warning s o ∷ rs) out = lined-lefts c rs out
lined-lefts c (left s n b ∷ rs) out =
    lined-lefts (onward c (left s n b)) rs (sets out c.lefts (shown (left s n b))) ∙ sets_more out c.lefts (left s n b) (lefts rs)

-- the three lists, each from its cursor on
abbrev three_lists : Cursors → List Report → List ℕ → List ℕ
three_lists c rs out = sets (sets (sets out c.errors (shown_all (errors rs))) c.warnings (shown_all (warnings rs))) c.lefts (shown_all (lefts rs))

lined-lists : (c : Cursors) (rs : List Report) (out : List ℕ) →
    c.errors + length (shown_all (errors rs)) ≤ c.warnings → c.warnings + length (shown_all (warnings rs)) ≤ c.lefts → lined c rs out ≡ three_lists c rs out
unfolding lined
lined-lists c [] out a b = simp shown-none
lined-lists c (error k p h ps ∷ rs) out a b =
    let e = more-length c.errors (error k p h ps) (errors rs) in
    lined-lists (onward c (error k p h ps)) rs (sets out c.errors (shown (error k p h ps))) (omega arith) b
    ∙ rw (sets_more out c.errors (error k p h ps) (errors rs))
lined-lists c (warning s o ∷ rs) out a b =
    let r = warning s o in
    let e = more-length c.warnings r (warnings rs) in
    lined-lists (onward c r) rs (sets out c.warnings (shown r)) (omega arith) (omega arith)
    ∙ rw (sets-sets out c.errors c.warnings (shown_all (errors rs)) (shown r) a, sets_more _ c.warnings r (warnings rs))
lined-lists c (left s n z ∷ rs) out a b =
    let r = left s n z in
    let e = more-length c.lefts r (lefts rs) in
    lined-lists (onward c r) rs (sets out c.lefts (shown r)) a (omega arith)
    ∙ rw (sets-sets out c.errors c.lefts (shown_all (errors rs)) (shown r) (omega arith), sets-sets _ c.warnings c.lefts (shown_all (warnings rs)) (shown r) b, sets_more _ c.lefts r (lefts rs))

-- the page, as far as memory reaches
pub lined-page : (rs : List Report) (out : List ℕ) → lined (starts rs) rs out ≡ sets out 0 (page_of rs)
lined-page rs out =
    lined-lists (starts rs) rs out (omega arith) (omega arith) ∙ rw (page-parts, sets-append, sets-append, zero-add)

-- and where it reaches, the page whole and the rest as it was
pub lined-whole : (rs : List Report) (out : List ℕ) → length (page_of rs) ≤ length out → lined (starts rs) rs out ≡ page_of rs ++ drop (length (page_of rs)) out
lined-whole rs out h = lined-page rs out ∙ sets-eq (page_of rs) out 0 (omega arith) ∙ rw zero-add
