-- The stack that effects ask: the state of a local, and all of it, whatever the locals' types, depths and births.
use Rattle.std.specs.Prelude.{ℕ, List}
use Rattle.rules.specs.State.{State as Status}
use Rattle.rules.specs.Stack.{Stack as Scope}
use Rattle.scope_state.specs.Locals.{state_in, lent}
use Rattle.expressions_scan.specs.declared.stack.Stack.{Stack}

abbrev pub state_of : Stack → ℕ → Status
state_of k = state_in k.t.now.kinds k.t.now.firsts k.rows.now k.cur k.width

abbrev pub held : Stack → List ℕ → List ℕ → List ℕ → Scope Status
held k types depths births = lent k.l.now.names types depths births (state_of k) k.l.now.count
