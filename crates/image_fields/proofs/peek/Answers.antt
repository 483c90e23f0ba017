use native.Mathlib.Omega.{arith}
use mathlib.Core.Path.{sym}
use Rattle.image_fields.proofs.Numbers.{past_end}
use Rattle.image_fields.proofs.peek.Goals as goal

pub returns-else-at-s : goal.returns-else-at-s
returns-else-at-s c = (sym (past_end c.args.s.now c.args.at c.if-at-s.false), omega arith)
