use Prim.Native.Nat.{◌+◌, ◌-◌, ◌*◌}
use Rattle.statements_returns.proofs.Surely.{Rest}
use Rattle.statements_returns.proofs.+branches_guaranteed_return_statement_guaranteed_return_statements_guaranteed_return.Given as goal

abbrev pub decreases-branches_guaranteed_return : goal.decreases-branches_guaranteed_return
decreases-branches_guaranteed_return l = 3 * l.left + 1

abbrev pub decreases-statement_guaranteed_return : goal.decreases-statement_guaranteed_return
decreases-statement_guaranteed_return l = 3 * l.left + 2

abbrev pub decreases-statements_guaranteed_return : goal.decreases-statements_guaranteed_return
decreases-statements_guaranteed_return l = 3 * l.left

abbrev pub invariant-statements_guaranteed_return-loop : goal.invariant-statements_guaranteed_return-loop
invariant-statements_guaranteed_return-loop l = Rest l.s l.left l.at (l.n - l.counter) l.last.at l.last.returns
