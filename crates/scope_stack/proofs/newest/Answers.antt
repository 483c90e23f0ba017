use Rattle.std.proofs.Common.{arith}
use Rattle.scope_stack.proofs.Words.{top_of}
use Rattle.scope_stack.proofs.newest.Goals as goal

pub overflow_sub-result : goal.overflow_sub-result
overflow_sub-result c = omega (arith, (top_of c.args.m c.requires c.ranges.m.fits).0)

pub returns : goal.returns
returns c = (top_of c.args.m c.requires c.ranges.m.fits).1
