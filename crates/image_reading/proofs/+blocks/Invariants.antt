use Prim.Native.Nat.{◌+◌, ◌*◌}
use Rattle.image_reading.proofs.+blocks.Given as goal

abbrev pub decreases-Reader::read_block : goal.decreases-Reader::read_block
decreases-Reader::read_block l = 7 * l.left

abbrev pub decreases-Reader::read_blocks-read : goal.decreases-Reader::read_blocks-read
decreases-Reader::read_blocks-read l = 7 * l.left + 1

abbrev pub decreases-Reader::read_blocks : goal.decreases-Reader::read_blocks
decreases-Reader::read_blocks l = 7 * l.left + 2

abbrev pub decreases-Reader::read_back : goal.decreases-Reader::read_back
decreases-Reader::read_back l = 7 * l.left + 3

abbrev pub decreases-Reader::read_stmt : goal.decreases-Reader::read_stmt
decreases-Reader::read_stmt l = 7 * l.left + 4

abbrev pub decreases-Reader::read_stmts-read : goal.decreases-Reader::read_stmts-read
decreases-Reader::read_stmts-read l = 7 * l.left + 5

abbrev pub decreases-Reader::read_stmts : goal.decreases-Reader::read_stmts
decreases-Reader::read_stmts l = 7 * l.left + 6
