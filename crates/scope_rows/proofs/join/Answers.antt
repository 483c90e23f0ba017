use mathlib.Core.Path.{◌≡◌, refl, sym, subst}
use native.Mathlib.Omega.{arith}
use Rattle.std.proofs.lemmas.Result.{err_from_is_err_and}
use Rattle.scope_stack.specs.declared.Entry.{Entry}
use Rattle.scope_stack.specs.View.{row_of, Known}
use Rattle.scope_rows.proofs.Rowing.{row_before}
use Rattle.scope_rows.proofs.Joined.{joining-none, joining-skip, joining-put, joining-stop, joining-all, known-a, known-b}
use Rattle.scope_rows.proofs.join.Goals as goal
use Rattle.scope_rows.proofs.join.Goals.{then-differ+in_ok-z, else-differ}

pub loop-i-init : goal.loop-i-init
loop-i-init c = joining-none _ _ _ _ _ _ _ _ c.requires

pub overflow_add-row : goal.overflow_add-row
overflow_add-row c = omega (arith, c.requires.wide)

pub overflow_mul-row : goal.overflow_mul-row
overflow_mul-row c = omega (arith, c.requires.fits.0, row_before c.args.a c.args.width c.loop-i.i c.args.n c.loop-i-test.true)

pub overflow_add-a : goal.overflow_add-a
overflow_add-a c =
    omega (arith, c.requires.fits.0, row_before c.args.a c.args.width c.loop-i.i c.args.n c.loop-i-test.true)

pub overflow_add-b : goal.overflow_add-b
overflow_add-b c =
    omega (arith, c.requires.fits.1, row_before c.args.b c.args.width c.loop-i.i c.args.n c.loop-i-test.true)

pub join_at-requires : goal.join_at-requires
join_at-requires c =
    let x : Known c.loop-i.rows c.args.width (row_of c.args.a c.args.width c.loop-i.i) c.entry_at-x.result.kind =
    subst (λ (e : Entry). Known c.loop-i.rows c.args.width (row_of c.args.a c.args.width c.loop-i.i) e.kind) (sym c.entry_at-x.ensures)
    (known-a c.args.keeps c.args.n c.args.width c.args.then c.args.other c.args.rows.now c.args.a c.args.b c.requires c.loop-i.i c.loop-i.then c.loop-i.rows c.loop-i.invariant c.loop-i.i (omega arith)) in
    let y : Known c.loop-i.rows c.args.width (row_of c.args.b c.args.width c.loop-i.i) c.entry_at-y.result.kind =
    subst (λ (e : Entry). Known c.loop-i.rows c.args.width (row_of c.args.b c.args.width c.loop-i.i) e.kind) (sym c.entry_at-y.ensures)
    (known-b c.args.keeps c.args.n c.args.width c.args.then c.args.other c.args.rows.now c.args.a c.args.b c.requires c.loop-i.i c.loop-i.then c.loop-i.rows c.loop-i.invariant c.loop-i-test.true) in
    (x, y, c.requires.wide, omega (arith, c.requires.fits.0, row_before c.args.a c.args.width c.loop-i.i c.args.n c.loop-i-test.true))

pub returns-in_err-z : goal.returns-in_err-z
returns-in_err-z c =
    let at = rw (c.entry_at-x.ensures, c.entry_at-y.ensures) at c.in_err-z.ensures in
    let stop = joining-stop c.args.keeps c.args.n c.args.width c.args.then c.args.other c.args.rows.now c.args.a c.args.b c.requires c.loop-i.i c.loop-i.then c.loop-i.rows c.loop-i.invariant c.loop-i-test.true _ _ at in
    let is = err_from_is_err_and c.from_residual.result c.from_residual.ensures.1 in
    rw (is.1, is.2) stop

pub loop-i-preserved : goal.loop-i-preserved
loop-i-preserved c = elim c.if-differ.branch [
  | then-differ+in_ok-z w ↦
      let at = rw (c.entry_at-x.ensures, c.entry_at-y.ensures) at w.in_ok-z.ensures in
      joining-put c.args.keeps c.args.n c.args.width c.args.then c.args.other c.args.rows.now c.args.a c.args.b c.requires c.loop-i.i c.loop-i.then c.loop-i.rows c.loop-i.invariant c.loop-i-test.true _ _ at _ _ _ _ w.then-is w.rows-is refl (w.with_bit.ensures 0 _ c.loop-i.invariant.held.word)
  | else-differ w ↦
      let same = rw (c.entry_at-x.ensures, c.entry_at-y.ensures) at (c.differ.ensures w.if-differ.false) in
      joining-skip c.args.keeps c.args.n c.args.width c.args.then c.args.other c.args.rows.now c.args.a c.args.b c.requires c.loop-i.i c.loop-i.then c.loop-i.rows c.loop-i.invariant c.loop-i-test.true _ _ w.then-is w.rows-is same
]

pub returns : goal.returns
returns c = let end : c.loop-i.i ≡ c.args.n = omega (arith, c.requires.small, c.loop-i.auto, c.loop-i-test.false) in
    joining-all c.args.keeps c.args.n c.args.width c.args.then c.args.other c.args.rows.now c.args.a c.args.b c.requires c.loop-i.i c.loop-i.then c.loop-i.rows c.loop-i.invariant end
