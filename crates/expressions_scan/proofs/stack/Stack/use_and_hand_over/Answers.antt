use Rattle.expressions_scan.proofs.Effects.{answers-hand, answers-unhanded}
use Rattle.expressions_scan.proofs.Finding.{found_local, found_none, use-some, use-none}
use Rattle.expressions_scan.proofs.Entries.{stored-eq}
use Rattle.image_writing.proofs.Stores.{none-stored}
use Rattle.rules.specs.Verdict.{entries_of}
use Rattle.tables.specs.Limits.{version1}
use mathlib.Core.Path.{sym, ap}
use native.Mathlib.Omega.{arith}
use Rattle.expressions_scan.proofs.stack.Stack.use_and_hand_over.Goals as goal

pub returns-in-Some : goal.returns-in-Some
returns-in-Some c = rw c.marking.ensures (λ types depths births. answers-hand _ (found_local c.find_local.ensures types depths births _ c.in-Some.is) (stored-eq (sym (ap (entries_of version1) (use-some c.find_local.ensures types depths births _ c.in-Some.is _))) c.put_use_of-more.ensures.0), record { most = c.put_use_of-more.ensures.1; marks = (omega arith, omega arith) })

pub returns-in-None : goal.returns-in-None
returns-in-None c = rw c.still.ensures (λ types depths births. answers-unhanded _ (found_none c.find_local.ensures types depths births _ c.in-None.is) (stored-eq (sym (ap (entries_of version1) (use-none c.find_local.ensures types depths births _ c.in-None.is _))) (none-stored _ _)), record { most = omega arith; marks = tt })
