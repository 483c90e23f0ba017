use Prim.Native.Nat.{◌+◌, ◌*◌, ◌≤◌, ◌<◌}
use Rattle.programs_replay.proofs.errors_end.Given as goal

abbrev pub invariant-loop : goal.invariant-loop
invariant-loop l = (l.at < l.p) × (l.p ≤ l.at + 2 + 1027 * l.counter)
