use Rattle.std.proofs.Common.{ap₂}
use lib.Bits.{bit_and}
use Rattle.scope_stack.proofs.mark_of.Goals as goal

pub returns : goal.returns
returns c = λ l t e f. ap₂ bit_and e f
