use Prim.Native.Nat.{◌+◌, ◌*◌}
use Rattle.statements_changes.specs.Turns.{ahead}
use Rattle.blocks.proofs.Standing.{Standing}
use Rattle.blocks.proofs.+transform_block_transform_blocks_transform_else.Given as goal

abbrev pub decreases-transform_block : goal.decreases-transform_block
decreases-transform_block l = 4 * l.env.left

abbrev pub decreases-transform_blocks : goal.decreases-transform_blocks
decreases-transform_blocks l = 4 * l.env.left + 3

abbrev pub decreases-transform_else : goal.decreases-transform_else
decreases-transform_else l = 4 * l.env.left + 2

abbrev pub invariant-transform_block-loop-l : goal.invariant-transform_block-loop-l
invariant-transform_block-loop-l l =
    Standing l.s l.tb l.e l.start l.outer l.initial.st l.initial.rows l.initial.out l.initial.errs l.initial.warns l.initial.lefts l.rows l.nodes l.out l.errs l.warns l.lefts l.l l.st l.c

abbrev pub decreases-transform_block-loop-l : goal.decreases-transform_block-loop-l
decreases-transform_block-loop-l l =
    ahead l.s l.c
