use Rattle.scope_rows.proofs.Copied.{Copying}
use Rattle.scope_rows.proofs.copy_rows.Given as goal

abbrev pub invariant-loop-i : goal.invariant-loop-i
invariant-loop-i l = Copying l.width l.kinds l.initial.rows l.src l.dst l.i l.rows
