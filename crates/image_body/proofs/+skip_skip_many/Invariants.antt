use Prim.Native.Nat.{◌+◌, ◌-◌, ◌*◌}
use Rattle.image_body.proofs.Skipping.{Going}
use Rattle.image_body.proofs.+skip_skip_many.Given as goal

abbrev pub decreases-skip : goal.decreases-skip
decreases-skip l = 2 * l.left

abbrev pub decreases-skip_many : goal.decreases-skip_many
decreases-skip_many l = 2 * l.left + 1

abbrev pub invariant-skip_many-loop : goal.invariant-skip_many-loop
invariant-skip_many-loop l = Going l.s l.left l.n l.at (l.n - l.counter) l.p
