use Rattle.expressions_scan.proofs.Loop.{Scan}
use Rattle.scope_state.specs.Locals.{state_in}
use Rattle.expressions_steps.specs.Scan.{fuel}
use Rattle.expressions_scan.proofs.scan_on.Given as goal

abbrev pub invariant-loop-now : goal.invariant-loop-now
invariant-loop-now l =
    Scan l.s l.tb l.l.names (state_in l.t.kinds l.t.firsts l.rows l.fn.env.cur l.fn.env.width) l.l.count l.initial.nodes l.count l.at l.paged l.initial.errs l.initial.out l.told l.nodes l.now l.errs l.out

abbrev pub decreases-loop-now : goal.decreases-loop-now
decreases-loop-now l =
    fuel l.s l.now.nodes l.now.at
