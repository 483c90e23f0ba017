use mathlib.Core.Path.{sym}
use Rattle.rules_page.specs.Page.{blanks}
use Rattle.rules_page.proofs.Shape.{blanks-length}
use Rattle.image_lines.proofs.Texts.{blank-head}
use Rattle.image_lines.proofs.put_further.Goals as goal

pub returns : goal.returns
unfolding blanks
returns c = (c.put_line.ensures.0 (blanks 36) (blanks-length 36) (sym blank-head), c.put_line.ensures.1)
