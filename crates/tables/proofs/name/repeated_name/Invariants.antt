use Rattle.tables.proofs.Keys.{Others}
use Rattle.tables.proofs.name.repeated_name.Given as goal

abbrev pub invariant-loop-i : goal.invariant-loop-i
invariant-loop-i l = Others l.s l.starts l.name l.i
