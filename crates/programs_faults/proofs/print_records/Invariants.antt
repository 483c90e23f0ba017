use Prim.Native.Nat.{◌-◌}
use lib.ListN.{length}
use Rattle.programs_faults.proofs.print_records.Given as goal

abbrev pub decreases-loop-at : goal.decreases-loop-at
decreases-loop-at g l = length l.s - l.at
