use Rattle.expressions_scan.proofs.Effects.{answers-unmoved, answers-temp, answers-move, small-still}
use Rattle.expressions_scan.proofs.Entries.{entry-most}
use Rattle.expressions_scan.proofs.Finding.{found_local, found_none}
use mathlib.Core.Path.{sym}
use mathlib.Core.List.{[]}
use native.Mathlib.Omega.{arith}
use Rattle.expressions_scan.proofs.stack.Stack.validate_move.Goals as goal

pub returns-in-Some : goal.returns-in-Some
returns-in-Some c = (λ types depths births. answers-temp _ (found_local c.find_local.ensures types depths births _ c.in-Some.is) (sym c.if-temp.true) c.put_bad_move.ensures, small-still c.put_bad_move.ensures.1 (entry-most 7 c.args.place 3 [] (omega arith) c.put_bad_move.ensures.0))

pub returns-in-Some-2 : goal.returns-in-Some-2
returns-in-Some-2 c = rw c.marking.ensures (λ types depths births. answers-move _ (found_local c.find_local.ensures types depths births _ c.in-Some-2.is) (sym c.if-temp.false), record { most = omega arith; marks = (omega arith, omega arith) })

pub returns-in-None : goal.returns-in-None
returns-in-None c = (λ types depths births. answers-unmoved _ (found_none c.find_local.ensures types depths births _ c.in-None.is) c.put_bad_move-in-None.ensures, small-still c.put_bad_move-in-None.ensures.1 (entry-most 7 c.args.place 2 [] (omega arith) c.put_bad_move-in-None.ensures.0))
