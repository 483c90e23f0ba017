use mathlib.Core.Path.{sym, ◌∙◌}
use Rattle.image_lines.proofs.Told.{true-false}
use Rattle.statements_acts.proofs.begin_lefts.Goals as goal

pub returns-else-paged : goal.returns-else-paged
returns-else-paged c = λ e. absurd (true-false (sym e ∙ c.if-paged.false))
