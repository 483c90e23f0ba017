-- What is to be done behind a statement, as the code says it.
-- Assumes nothing.
use Prim.Native.Nat.{ℕ}
use mathlib.Core.Path.{◌≡◌, sym, ap, ◌∙◌}
use mathlib.Core.Bool.{Bool, true, false, cond}
use Rattle.std.specs.Prelude.{Option as Maybe, None}
use Rattle.std.specs.declared.ops.ControlFlow.{ControlFlow}
use Rattle.std.specs.declared.ops.ControlFlow.TheVariants.{Break}
use Rattle.statements_acts.specs.declared.Named.{Named}
use Rattle.statements_acts.specs.declared.Change.{Change}
use Rattle.statements_acts.specs.declared.Place.{Place}
use Rattle.blocks_laws.specs.Walks.{blocked}
use Rattle.statements_changes.specs.declared.Turn.TheVariants.{Blocks}
use Rattle.statements_changes.specs.declared.Cursor.{Cursor}
use Rattle.statements_changes.specs.declared.Came.{Came}
use Rattle.statements_changes.specs.Turns.{between_of, turn_of, came_of}

module _ (tag left : ℕ) (p : Place) (ch : Change) (taken : Maybe Named) where
  abbrev chosen : Bool → ControlFlow Came Cursor
  chosen b = cond b (Break (record { cursor = between_of left p None; turn = Blocks tag })) (turn_of (between_of left p taken) ch)

  pub came-blocks : (c : Cursor) → c ≡ between_of left p None → blocked tag ≡ true → Break (record { cursor = c; turn = Blocks tag }) ≡ came_of tag left p ch taken
  came-blocks c e h = ap (λ (x : Cursor). Break (record { cursor = x; turn = Blocks tag })) e ∙ ap chosen (sym h)

  pub came-else : (c : Cursor) (r : ControlFlow Came Cursor) → c ≡ between_of left p taken → blocked tag ≡ false → r ≡ turn_of c ch → r ≡ came_of tag left p ch taken
  came-else c r e h er = er ∙ ap (λ (x : Cursor). turn_of x ch) e ∙ ap chosen (sym h)
