-- Reports that a walk has stored: as numbers of their list, or as lines of a page.
use Rattle.std.specs.Prelude.{ℕ, ◌≡◌, Bool, true, false, List}
use Rattle.tables.specs.Limits.{version1}
use Rattle.rules.specs.Report.{Report}
use Rattle.rules.specs.Verdict.{entries_of}
use Rattle.rules_page.specs.Page.{bytes, left_in, head}
use Rattle.image_writing.specs.Stored.{Stored}
use Rattle.image_lines.specs.Lined.{shown_all, Cursors, onward_all, lined}

-- what the line of a left-behind entry begins with
abbrev pub left_begin : ℕ → List ℕ
left_begin span = left_in 73 (head (bytes "left behind") span)

-- reports of one list: numbers of the list, or lines of the page
pub record Listed (paged : Bool) (rs : List Report) (list : List ℕ) (page : List ℕ) (at : ℕ) (list' : List ℕ) (page' : List ℕ) (next : ℕ) : Type 0 where
  pub numbers : paged ≡ false → (page' ≡ page) × Stored list at (entries_of version1 rs) list' next
  pub lines : paged ≡ true → Stored page at (shown_all rs) page' next

-- reports of all three lists, each at its cursor
pub record Lined (c : Cursors) (rs : List Report) (page : List ℕ) (c' : Cursors) (page' : List ℕ) : Type 0 where
  pub cells : page' ≡ lined c rs page
  pub cursors : c' ≡ onward_all c rs
