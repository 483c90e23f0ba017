use Rattle.expressions_scan.proofs.Entries.{zeros}
use Rattle.scope_state.specs.Locals.{row_at}
use Rattle.image_writing.specs.Stored.{Stored}
use lib.ListN.{take}
use mathlib.Core.List.{◌++◌}
use Rattle.expressions_scan.proofs.put_places.Given as goal

abbrev pub invariant-loop-i : goal.invariant-loop-i
invariant-loop-i l = Stored l.initial.list l.at (take l.i (row_at l.rows l.row ++ zeros 8)) l.list l.next
