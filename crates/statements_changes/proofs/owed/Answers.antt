use Rattle.statements_changes.specs.declared.Turn.TheVariants.{Mark as marks}
use Rattle.statements_changes.specs.declared.Cursor.{Cursor}
use Rattle.statements_changes.specs.declared.Came.{Came}
use Rattle.expressions_scan.specs.declared.Mark.{Mark}
use Rattle.std.specs.Prelude.{None}
use Rattle.statements_changes.specs.Turns.{between_of}
use mathlib.Core.Path.{ap, ◌∙◌}
use Rattle.statements_changes.proofs.owed.Goals as goal

pub returns : goal.returns
returns c = ap (λ (x : Cursor). record { cursor = x; turn = marks c.deleted.result }) c.between.ensures ∙ ap (λ (x : Mark). record { cursor = between_of c.args.c.left c.args.c.place None; turn = marks x }) c.deleted.ensures
