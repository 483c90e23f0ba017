use Rattle.scope_rows.proofs.Joined.{Joining}
use Rattle.scope_rows.proofs.join.Given as goal

abbrev pub invariant-loop-i : goal.invariant-loop-i
invariant-loop-i l = Joining l.keeps l.width l.initial.then l.other l.initial.rows l.a l.b l.i l.then l.rows
