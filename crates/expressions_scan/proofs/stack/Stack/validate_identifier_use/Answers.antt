use Rattle.expressions_scan.proofs.Effects.{answers-use}
use Rattle.expressions_scan.proofs.Finding.{use-some, use-none}
use Rattle.expressions_scan.proofs.Entries.{stored-eq}
use Rattle.image_writing.proofs.Stores.{none-stored}
use Rattle.rules.specs.Verdict.{entries_of}
use Rattle.tables.specs.Limits.{version1}
use mathlib.Core.Path.{sym, ap}
use native.Mathlib.Omega.{arith}
use Rattle.expressions_scan.proofs.stack.Stack.validate_identifier_use.Goals as goal

pub returns-in-Some : goal.returns-in-Some
returns-in-Some c = rw c.still.ensures (λ types depths births. answers-use _ (stored-eq (sym (ap (entries_of version1) (use-some c.find_local.ensures types depths births _ c.in-Some.is _))) c.put_use_of.ensures.0), record { most = c.put_use_of.ensures.1; marks = tt })

pub returns-in-None : goal.returns-in-None
returns-in-None c = rw c.still-in-None.ensures (λ types depths births. answers-use _ (stored-eq (sym (ap (entries_of version1) (use-none c.find_local.ensures types depths births _ c.in-None.is _))) (none-stored _ _)), record { most = omega arith; marks = tt })
