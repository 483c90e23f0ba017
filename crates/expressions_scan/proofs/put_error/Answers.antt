use Rattle.expressions_scan.proofs.Entries.{zero-stored}
use Rattle.expressions_scan.proofs.put_error.Goals as goal

pub loop-preserved : goal.loop-preserved
loop-preserved c = zero-stored c.loop.counter c.loop.invariant c.put_number-at-in-loop.ensures
