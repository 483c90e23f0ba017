use Rattle.std.proofs.Common.{◌≡◌, ap, ◌∙◌, length, get_or}
use native.Mathlib.Omega.{arith}
use Rattle.scope_rows.proofs.Rowing.{row-length, nine-up, row_before}
use Rattle.scope_rows.proofs.Copied.{copying-none, copying-skip, copying-put, copying-short, copying-all, known-src}
use Rattle.scope_stack.specs.View.{row_of}
use Rattle.scope_rows.proofs.copy_rows.Goals as goal
use Rattle.scope_rows.proofs.copy_rows.Goals.{then-kinds-i-ge8+else-rows-to, else-kinds-i-ge8}

pub loop-i-init : goal.loop-i-init
loop-i-init c = copying-none _ _ _ _ _

pub overflow_add-row : goal.overflow_add-row
overflow_add-row c = omega (arith, c.requires.wide)

pub overflow_mul-row : goal.overflow_mul-row
overflow_mul-row c = omega (arith, c.requires.fits.0, row_before c.args.src c.args.width c.loop-i.i c.args.n c.loop-i-test.true)

pub overflow_add-to : goal.overflow_add-to
overflow_add-to c = omega (arith, c.requires.fits.1, row_before c.args.dst c.args.width c.loop-i.i c.args.n c.loop-i-test.true)

pub overflow_add-to-then-kinds-i-ge8 : goal.overflow_add-to-then-kinds-i-ge8
overflow_add-to-then-kinds-i-ge8 c = omega (arith, c.requires.fits.1, row_before c.args.dst c.args.width c.loop-i.i c.args.n c.loop-i-test.true)

pub shape_of-rows-then-rows-to : goal.shape_of-rows-then-rows-to
shape_of-rows-then-rows-to c = c.loop-i.invariant.else.room

pub returns-then-rows-to : goal.returns-then-rows-to
returns-then-rows-to c = copying-short c.args.n c.args.width c.args.kinds.now c.args.rows.now c.args.src c.args.dst c.requires c.loop-i.i c.loop-i.rows c.loop-i.invariant c.loop-i-test.true c.if-kinds-i-ge8.true c.if-rows-to.true

pub overflow_add-src : goal.overflow_add-src
overflow_add-src c = omega (arith, c.requires.fits.0, row_before c.args.src c.args.width c.loop-i.i c.args.n c.loop-i-test.true)

pub read_row-p-requires : goal.read_row-p-requires
read_row-p-requires c = let k = known-src c.args.n c.args.width c.args.kinds.now c.args.rows.now c.args.src c.args.dst c.requires c.loop-i.i c.loop-i.rows c.loop-i.invariant c.loop-i-test.true in let row = k.row (nine-up _ _ _ _ k c.if-kinds-i-ge8.true) in (omega (arith, row.most, c.requires.wide), omega (arith, row.most, row.room))

pub write_row-requires : goal.write_row-requires
write_row-requires c = let k = known-src c.args.n c.args.width c.args.kinds.now c.args.rows.now c.args.src c.args.dst c.requires c.loop-i.i c.loop-i.rows c.loop-i.invariant c.loop-i-test.true in let row = k.row (nine-up _ _ _ _ k c.if-kinds-i-ge8.true) in
    let n : length c.as_slice.result.now ≡ get_or c.loop-i.rows (row_of c.args.src c.args.width c.loop-i.i) 0 = ap length (c.as_slice.ensures ∙ c.read_row-p.ensures) ∙ row-length _ _ _ row in
    (omega (arith, n, row.most, c.requires.wide), omega (arith, n, row.most, c.if-rows-to.false))

pub loop-i-preserved : goal.loop-i-preserved
loop-i-preserved c =
    elim c.if-kinds-i-ge8.branch [
      | then-kinds-i-ge8+else-rows-to w ↦ copying-put c.args.n c.args.width c.args.kinds.now c.args.rows.now c.args.src c.args.dst c.requires c.loop-i.i c.loop-i.rows c.loop-i.invariant c.loop-i-test.true _ _ _ w.rows-is w.if-kinds-i-ge8.true (w.as_slice.ensures ∙ w.read_row-p.ensures) w.write_row.ensures w.if-rows-to.false
      | else-kinds-i-ge8 w ↦ copying-skip c.args.n c.args.width c.args.kinds.now c.args.rows.now c.args.src c.args.dst c.requires c.loop-i.i c.loop-i.rows c.loop-i.invariant c.loop-i-test.true _ w.rows-is w.if-kinds-i-ge8.false
    ]

pub shape_of-rows : goal.shape_of-rows
shape_of-rows c = c.loop-i.invariant.else.room

pub returns : goal.returns
returns c = copying-all c.args.n c.args.width c.args.kinds.now c.args.rows.now c.args.src c.args.dst c.requires c.loop-i.i c.loop-i.rows c.loop-i.invariant (omega (arith, c.loop-i.auto, c.loop-i-test.false))
