-- A page written by three cursors: each report's lines are stored where its list has got to.
use Rattle.std.specs.Prelude.{ℕ, ◌+◌, length, get_or, take, drop}
use mathlib.Core.List.{List, [], ◌∷◌, flat_map, flatten}
use Rattle.std.proofs.lemmas.List.Edits.{sets}
use Rattle.rules.specs.Report.{Report, error, warning, left, errors, warnings}
use Rattle.rules_page.specs.Page.{entry}

-- the bytes of a report's lines, and of the lines of several
unfoldable pub shown : Report → List ℕ
shown r = flatten (entry r)

unfoldable pub shown_all : List Report → List ℕ
shown_all rs = flatten (flat_map entry rs)

-- an error of which these numbers are the entry
abbrev pub error_of : List ℕ → Report
error_of l = error (get_or l 0 0) (get_or l 1 0) (get_or l 2 0) (take (get_or l 3 0) (drop 4 l))

-- where the next line of each list is stored
pub record Cursors : Type 0 where
  pub errors : ℕ
  pub warnings : ℕ
  pub lefts : ℕ

abbrev pub cursors : ℕ → ℕ → ℕ → Cursors
cursors e w l = record { errors = e; warnings = w; lefts = l }

-- where a report is stored
abbrev pub cursor : Cursors → Report → ℕ
cursor c (error k p h ps) = c.errors
cursor c (warning s o) = c.warnings
cursor c (left s n b) = c.lefts

-- the cursors after it: that of its list behind its lines
abbrev pub onward : Cursors → Report → Cursors
onward c (error k p h ps) = cursors (c.errors + length (shown (error k p h ps))) c.warnings c.lefts
onward c (warning s o) = cursors c.errors (c.warnings + length (shown (warning s o))) c.lefts
onward c (left s n b) = cursors c.errors c.warnings (c.lefts + length (shown (left s n b)))

unfoldable pub onward_all : Cursors → List Report → Cursors
onward_all c [] = c
onward_all c (r ∷ rs) = onward_all (onward c r) rs

-- memory after reports, whose lists come mixed
unfoldable pub lined : Cursors → List Report → List ℕ → List ℕ
lined c [] out = out
lined c (r ∷ rs) out = lined (onward c r) rs (sets out (cursor c r) (shown r))

-- where the lists begin on the page of some reports
abbrev pub starts : List Report → Cursors
starts rs = cursors 0 (length (shown_all (errors rs))) (length (shown_all (errors rs)) + length (shown_all (warnings rs)))
