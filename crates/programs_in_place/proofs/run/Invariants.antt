use Rattle.std.proofs.Common.{◌<◌}
use Rattle.lent.specs.Changed.{Whole}
use Rattle.programs_in_place.proofs.run.Given as goal

abbrev pub invariant-loop : goal.invariant-loop
invariant-loop l = Whole l.value × Whole l.lent × (l.x < 2147483648)
