use Rattle.rules.specs.Rules.{switches_of}
use Rattle.statements_changes.proofs.Turned.{Turning}
use Rattle.scope_state.specs.Locals.{state_in}
use Rattle.statements_changes.proofs.next_change.Given as goal

abbrev pub invariant-loop-behind : goal.invariant-loop-behind
invariant-loop-behind l =
    Turning (switches_of l.env.switches) l.s l.tb l.env.left l.l.names l.l.types l.l.births (state_in l.t.kinds l.t.firsts l.rows l.env.cur l.env.width) l.l.count l.env.mark l.env.base l.initial.nodes l.initial.c l.initial.out l.initial.errs l.initial.warns l.initial.lefts l.nodes l.c l.out l.errs l.warns l.lefts

abbrev pub decreases-loop-behind : goal.decreases-loop-behind
decreases-loop-behind l =
    l.c.left
