use Rattle.tables.proofs.Keys.{Naming}
use Rattle.tables.proofs.name.fill_names.Given as goal

abbrev pub invariant-loop-i : goal.invariant-loop-i
invariant-loop-i l = Naming l.s l.n l.at l.starts l.keys l.i l.p
