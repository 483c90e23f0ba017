-- What the entry that writes the page answers (document 02, (a) and (e)), from the value of the switches, the image's bytes and the length of
-- the page lent: fault 17, the first of 1 to 13, then 16, or the page. The lists may be of any length, and a block may count any number of statements.
use Rattle.std.specs.Prelude.{ℕ, cond, List, length, leb}
use Rattle.std.proofs.Math.Option.{Option, some}
use Rattle.tables.specs.Limits.{Limits}
use Rattle.image.specs.Image.{Image, Decoded, accepted, refused, decode}
use Rattle.rules.specs.Rules.{Switches, switches_of}
use Rattle.rules.specs.Report.{reports}
use Rattle.rules.specs.Walk.{image_fault}
use Rattle.rules.specs.Verdict.{too_high}
use Rattle.rules_page.specs.Page.{page_of}

pub data PageVerdict : Type 0 where
  refuses_page : ℕ → PageVerdict
  writes : List ℕ → PageVerdict

-- 16: the page doesn't fit its buffer
abbrev pub page_fitted : ℕ → List ℕ → PageVerdict
page_fitted room page = cond (leb (length page) room) (writes page) (refuses_page 16)

-- faults 12 and 13, then the page
abbrev pub page_walked : Switches → ℕ → Image → Option ℕ → PageVerdict
page_walked w room i (some n) = refuses_page n
page_walked w room i Option.none = page_fitted room (page_of (reports w i))

abbrev pub page_decided : Limits → Switches → ℕ → Decoded → PageVerdict
page_decided L w room (refused n) = refuses_page n
page_decided L w room (accepted i) = page_walked w room i (image_fault L w i)

unfoldable pub page_verdict : Limits → ℕ → ℕ → List ℕ → PageVerdict
page_verdict L room v s = cond (too_high v) (refuses_page 17) (page_decided L (switches_of v) room (decode L s))
