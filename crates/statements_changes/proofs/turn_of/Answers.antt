use Rattle.statements_changes.proofs.Cursors.{came-blocks, came-else}
use Rattle.statements_changes.specs.Turns.{turn_of}
use Rattle.statements_changes.specs.declared.Cursor.{Cursor}
use Rattle.statements_acts.specs.declared.Change.{Change}
use mathlib.Core.Path.{sym, ap, ◌∙◌}
use Rattle.statements_changes.proofs.turn_of.Goals as goal

pub returns-then-has_blocks : goal.returns-then-has_blocks
returns-then-has_blocks c =
    let a = c.args in
    came-blocks a.tag a.left a.place a.change a.taken _ c.between.ensures (sym c.has_blocks.ensures ∙ c.if-has_blocks.true)

pub returns-in-Nothing : goal.returns-in-Nothing
returns-in-Nothing c =
    let a = c.args in
    came-else a.tag a.left a.place a.change a.taken _ _ c.between-cursor.ensures (sym c.has_blocks.ensures ∙ c.if-has_blocks.false) (ap (λ (x : Change). turn_of c.between-cursor.result x) (sym c.in-Nothing.is))
