use Prim.Native.Nat.{◌+◌, ◌*◌}
use Rattle.image_reading.proofs.+expressions.Given as goal

abbrev pub decreases-Reader::read_children : goal.decreases-Reader::read_children
decreases-Reader::read_children l = 4 * l.left + 3

abbrev pub decreases-Reader::read_exprs : goal.decreases-Reader::read_exprs
decreases-Reader::read_exprs l = 4 * l.left + 2

abbrev pub decreases-Reader::read_exprs-read : goal.decreases-Reader::read_exprs-read
decreases-Reader::read_exprs-read l = 4 * l.left + 1

abbrev pub decreases-Reader::read_expr : goal.decreases-Reader::read_expr
decreases-Reader::read_expr l = 4 * l.left
