use Rattle.tables.proofs.Types.{Flagging}
use Rattle.tables.proofs.ty.fill_types.Given as goal

abbrev pub invariant-loop-i : goal.invariant-loop-i
invariant-loop-i l = Flagging l.names l.s l.n l.at l.starts l.flags l.i l.p
