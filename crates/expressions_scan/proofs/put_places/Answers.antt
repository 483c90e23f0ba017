use Rattle.expressions_scan.proofs.Entries.{zeros, place-stored, row_inside, row_in, row_out}
use Rattle.scope_state.specs.Locals.{row_at}
use Rattle.expressions_scan.proofs.put_places.Goals.{then-i-count, else-i-count}
use lib.ListN.{get_or}
use mathlib.Core.Path.{◌≡◌, ◌∙◌}
use mathlib.Core.List.{◌++◌}
use native.Mathlib.Omega.{arith}
use Rattle.expressions_scan.proofs.put_places.Goals as goal

pub loop-i-preserved : goal.loop-i-preserved
loop-i-preserved c =
    let k = row_inside c.args.row c.args.count c.requires.1 c.requires.3 in
    let v : c.if-i-count.place ≡ get_or (row_at c.args.rows.now c.args.row ++ zeros 8) c.loop-i.i 0 = elim c.if-i-count.branch [
      | then-i-count w ↦ w.place-is ∙ row_in c.args.rows.now c.args.row k c.loop-i.i (omega (arith, c.requires.3, w.if-i-count.true))
      | else-i-count w ↦ w.place-is ∙ row_out c.args.rows.now c.args.row k c.loop-i.i (omega (arith, c.requires.3, w.if-i-count.false))
    ] in
    place-stored c.args.rows.now c.args.row k {i = c.loop-i.i} c.loop-i-test.true v c.loop-i.invariant c.put_number-next.ensures
