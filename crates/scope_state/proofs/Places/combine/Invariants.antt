use Rattle.std.proofs.Common.{◌≡◌, drop}
use Rattle.rules.specs.State.{combine}
use Rattle.scope_state.specs.View.{listed}
use Rattle.scope_state.proofs.Places.combine.Given as goal

abbrev pub invariant-loop-p : goal.invariant-loop-p
invariant-loop-p l = combine (listed l.out) (drop l.p-index (listed l.fn.other)) ≡ combine (listed l.fn.self) (listed l.fn.other)
