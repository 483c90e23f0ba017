-- The outcome of the page's verdict, and what it leaves in the buffer lent (document 02, (a) and (e)).
use Rattle.std.specs.Prelude.{ℕ, ◌≡◌, List, length, Result, Ok, Err}
use Rattle.image_fields.specs.declared.Fault.{Fault}
use Rattle.image_fields.specs.Fault.{coded}
use Rattle.tables.specs.Limits.{version1}
use Rattle.rules_page.specs.Verdict.{PageVerdict, refuses_page, writes, page_verdict}
use Rattle.entries_verdict.specs.Passes.{over}

-- the outcome of a verdict: how many bytes were written, or the fault's number
abbrev pub paged_of : PageVerdict → Result ℕ ℕ
paged_of (refuses_page n) = Err n
paged_of (writes page) = Ok (length page)

-- the buffer after a verdict: the page in front, the rest as it was; on a fault nothing is changed
abbrev pub page_after : PageVerdict → List ℕ → List ℕ
page_after (refuses_page n) old = old
page_after (writes page) old = over page old

-- the verdict on an image with that buffer lent, given the value of the switches
abbrev pub page_on : ℕ → List ℕ → List ℕ → PageVerdict
page_on value s page = page_verdict version1 (length page) value s

-- the entry that writes the page: its outcome, and the buffer after it
pub record Pages (value : ℕ) (s page : List ℕ) (r : Result ℕ Fault) (page' : List ℕ) : Type 0 where
  pub outcome : coded r ≡ paged_of (page_on value s page)
  pub leaves : page' ≡ page_after (page_on value s page) page
