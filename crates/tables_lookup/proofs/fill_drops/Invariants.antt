use Rattle.tables_lookup.proofs.Lent.{Asked}
use Rattle.tables_lookup.proofs.fill_drops.Given as goal

abbrev pub invariant-loop-t : goal.invariant-loop-t
invariant-loop-t l = Asked l.s l.initial.tb l.tb l.t
