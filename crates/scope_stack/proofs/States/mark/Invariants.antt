use Rattle.scope_stack.proofs.Marked.{Marking}
use Rattle.scope_stack.proofs.States.mark.Given as goal

abbrev pub invariant-loop-at : goal.invariant-loop-at
invariant-loop-at l = Marking l.name l.depth l.only_alive l.kind l.place l.l.names l.l.depths l.at l.self l.initial.self
