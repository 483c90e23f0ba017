use native.Mathlib.Omega.{arith}
use Rattle.programs_replay.proofs.Zeros.{zeros, few-zeros}
use borrow.Author.Rules.{rules}
use Rattle.programs_replay.proofs.main.Goals as goal

pub slice_bounds-replay_file-end : goal.slice_bounds-replay_file-end
slice_bounds-replay_file-end c = zeros 2500000

pub replay_file-requires : goal.replay_file-requires
replay_file-requires c = few-zeros 2500000 4294967295 (omega arith)
