use Rattle.programs_replay.proofs.Zeros.{zeros, few-zeros}
use borrow.Author.Rules.{rules}
use Rattle.programs_replay.proofs.all_agrees.Goals as goal

pub slice_bounds-lavish_agrees-end : goal.slice_bounds-lavish_agrees-end
slice_bounds-lavish_agrees-end c = zeros 1500000
