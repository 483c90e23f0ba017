use native.Mathlib.Omega.{arith}
use Rattle.blocks_ends.proofs.Walks.{rows_few}
use Rattle.blocks_merge.proofs.behind.Goals as goal

pub overflow_mul-result : goal.overflow_mul-result
overflow_mul-result c = omega (arith, rows_few _ _ c.requires.0 c.requires.1)

pub overflow_add-result-2 : goal.overflow_add-result-2
overflow_add-result-2 c = omega (arith, rows_few _ _ c.requires.0 c.requires.1, c.requires.2)
