use Prim.Native.Nat.{◌+◌, ◌*◌, ◌≤◌, ◌<◌}
use Rattle.programs_replay.proofs.same_errors.Given as goal

abbrev pub invariant-loop-i : goal.invariant-loop-i
invariant-loop-i l = (l.many < 65536) × (l.p ≤ l.at + 2 + 1027 * l.i)
