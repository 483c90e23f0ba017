use Rattle.expressions_scan.proofs.Effects.{as-emits, answers-nothing, answers-bad, answers-global, small-still}
use Rattle.expressions_scan.proofs.Entries.{entry-most}
use mathlib.Core.List.{[], ◌∷◌}
use native.Mathlib.Omega.{arith}
use Rattle.expressions_scan.proofs.stack.Stack.effect_on.Goals as goal

pub returns-in-Nothing : goal.returns-in-Nothing
returns-in-Nothing c = rw c.still.ensures (λ types depths births. as-emits c.in-Nothing.is (answers-nothing _), record { most = omega arith; marks = tt })

pub returns-in-Consume : goal.returns-in-Consume
returns-in-Consume c = (λ types depths births. as-emits c.in-Consume.is (c.consume.ensures.0 types depths births _), c.consume.ensures.1 _)

pub returns-in-BadMove : goal.returns-in-BadMove
returns-in-BadMove c = (λ types depths births. as-emits c.in-BadMove.is (answers-bad _ c.put_bad_move.ensures), small-still c.put_bad_move.ensures.1 (entry-most 7 _ 1 [] (omega arith) c.put_bad_move.ensures.0))

pub returns-in-GlobalMove : goal.returns-in-GlobalMove
returns-in-GlobalMove c = rw c.still-in-GlobalMove.ensures (λ types depths births. as-emits c.in-GlobalMove.is (answers-global _ c.put_error.ensures), record { most = entry-most 8 _ 0 (_ ∷ []) (omega arith) c.put_error.ensures; marks = tt })
