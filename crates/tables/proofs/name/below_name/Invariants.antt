use Rattle.std.proofs.Common.{◌-◌, ◌≤◌}
use Rattle.tables.proofs.Names.{Order}
use Rattle.tables.proofs.name.below_name.Given as goal

abbrev pub invariant-loop-k : goal.invariant-loop-k
invariant-loop-k l = (l.k ≤ l.n) × Order l.s l.a l.b l.n l.m l.k

abbrev pub decreases-loop-k : goal.decreases-loop-k
decreases-loop-k l = l.m - l.k
