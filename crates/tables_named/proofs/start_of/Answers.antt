use Rattle.std.proofs.Common.{sym, arith}
use Rattle.image_fields.proofs.Numbers.{past_end}
use Rattle.tables_named.proofs.start_of.Goals as goal

pub overflow_cast-result : goal.overflow_cast-result
overflow_cast-result c = omega (arith, c.type_inv.starts c.args.i)

pub returns-else-i-starts : goal.returns-else-i-starts
returns-else-i-starts c = sym (past_end c.args.starts.now c.args.i c.if-i-starts.false)
