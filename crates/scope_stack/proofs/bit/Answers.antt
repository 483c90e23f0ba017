use Rattle.std.proofs.Common.{◌∙◌, one-mul, arith, lit<, shl_exact}
use Rattle.scope_stack.proofs.bit.Goals as goal

pub returns : goal.returns
returns c = shl_exact {a = 1} 1 c.args.i 64 (lit< tt) (omega arith) ∙ one-mul _
