-- The text that the program writes: the page (document 02, (a)), or the fault.
use Rattle.std.specs.Prelude.{ℕ, ◌≤◌, ◌≡◌, List, [], ◌∷◌, length, take}
use Rattle.tables.specs.Limits.{version1}
use Rattle.rules_page.specs.Verdict.{PageVerdict, refuses_page, writes, page_verdict}
use Rattle.programs_text.specs.Text.{line, refused_word}

-- the text of a verdict
abbrev pub shown_of : PageVerdict → List ℕ
shown_of (refuses_page n) = line refused_word (n ∷ [])
shown_of (writes page) = page

-- what is shown of an image with all switches off and a page of 2,097,152 bytes: the first r bytes of memory
pub record Shows (s new : List ℕ) (r : ℕ) : Type 0 where
  pub inside : r ≤ length new
  pub text : take r new ≡ shown_of (page_verdict version1 2097152 0 s)
