use Rattle.scope_stack.specs.View.{Leaves}
use Rattle.scope_stack.proofs.States.leave.Given as goal

abbrev pub invariant-loop-i : goal.invariant-loop-i
invariant-loop-i l = Leaves l.n l.i l.initial.self l.self
