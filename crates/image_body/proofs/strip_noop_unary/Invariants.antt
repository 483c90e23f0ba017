use lib.ListN.{length}
use Prim.Native.Nat.{◌-◌}
use Rattle.image_body.proofs.Walking.{Looks}
use Rattle.image_body.proofs.strip_noop_unary.Given as goal

abbrev pub invariant-loop-at : goal.invariant-loop-at
invariant-loop-at l = Looks l.s l.at l.p

abbrev pub decreases-loop-at : goal.decreases-loop-at
decreases-loop-at l = length l.s - l.p
