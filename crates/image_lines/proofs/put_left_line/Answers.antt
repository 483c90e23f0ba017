use native.Mathlib.Omega.{arith}
use mathlib.Core.Path.{refl}
use Rattle.rules_page.specs.Page.{bytes, head}
use Rattle.image_lines.proofs.Texts.{head-length}
use Rattle.image_lines.proofs.Entries.{left-put, left-past}
use Rattle.image_lines.proofs.put_left_line.Goals as goal

pub returns-then-out-at : goal.returns-then-out-at
returns-then-out-at c = (λ span e. left-past span c.args.name c.args.born (omega arith), refl)

pub returns : goal.returns
unfolding bytes
returns c = (λ span e. left-put span c.args.name c.args.born (c.put_line.ensures.0 (head (bytes "left behind") span) (head-length (bytes "left behind") span (omega arith)) e), c.put_line.ensures.1)
