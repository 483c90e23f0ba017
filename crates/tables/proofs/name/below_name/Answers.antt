use Rattle.std.proofs.Common.{arith}
use Rattle.tables.proofs.Names.{order-start, order-next, order-stop, order-short, order-done}
use Rattle.tables.proofs.name.below_name.Goals as goal

pub loop-k-init : goal.loop-k-init
loop-k-init c = (omega arith, order-start _ _ _ c.peek-n.ensures.0 c.peek-m.ensures.0)

pub returns-then-k-n : goal.returns-then-k-n
returns-then-k-n c = order-short _ _ _ _ _ _ c.loop-k.invariant.1 c.loop-k-test.true c.if-k-n.true

pub returns-then-x-y : goal.returns-then-x-y
returns-then-x-y c = order-stop _ _ _ _ _ _ c.loop-k.invariant.1 (omega arith) c.loop-k-test.true c.peek-x.ensures.0 c.peek-y.ensures.0 c.if-x-y.true

pub loop-k-preserved : goal.loop-k-preserved
loop-k-preserved c = (omega arith, order-next _ _ _ _ _ _ c.loop-k.invariant.1 (omega arith) c.loop-k-test.true c.peek-x.ensures.0 c.peek-y.ensures.0 c.if-x-y.false)

pub returns : goal.returns
returns c = order-done _ _ _ _ _ _ c.loop-k.invariant.1 c.loop-k-test.false
