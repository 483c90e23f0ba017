use Rattle.expressions_scan.proofs.Effects.{answers-give, answers-ungiven}
use Rattle.expressions_scan.proofs.Finding.{found_local, found_none}
use native.Mathlib.Omega.{arith}
use Rattle.expressions_scan.proofs.stack.Stack.consume.Goals as goal

pub returns-in-Some : goal.returns-in-Some
returns-in-Some c = rw c.marking.ensures (λ types depths births old. answers-give _ (found_local c.find_local.ensures types depths births _ c.in-Some.is), λ old. record { most = omega arith; marks = (omega arith, omega arith) })

pub returns-in-None : goal.returns-in-None
returns-in-None c = rw c.still.ensures (λ types depths births old. answers-ungiven _ (found_none c.find_local.ensures types depths births _ c.in-None.is), λ old. record { most = omega arith; marks = tt })
