use Rattle.std.proofs.Common.{sym, refl, ◌∙◌, arith}
use Rattle.image_fields.proofs.Answers.{passed}
use Rattle.tables.proofs.Types.{flagging-start, flagging-stop, flagging-done, flagging-next, type-read, type-fault, type-in}
use Rattle.tables.proofs.ty.fill_types.Goals as goal

pub loop-i-init : goal.loop-i-init
loop-i-init c = flagging-start _ _ _ _ _ _ c.requires.0 c.requires.1

pub returns-in_err-t : goal.returns-in_err-t
returns-in_err-t c =
    let inv = c.loop-i.invariant in
    let g = flagging-stop _ _ inv c.loop-i-test.true (type-fault (c.in_err-t.ensures inv.ts inv.place.fill.many)) in
    rw (passed c.from_residual.ensures) (record { value = g.0; filled = g.1 })

pub overflow_cast-starts : goal.overflow_cast-starts
overflow_cast-starts c = let inv = c.loop-i.invariant in
    let g = type-read (c.in_ok-t.ensures inv.ts inv.place.fill.many) in
    let l = (type-in _ _ _ _ _ _ g.1).inside in
    omega (arith, c.requires.2)

pub loop-i-preserved : goal.loop-i-preserved
loop-i-preserved c = let inv = c.loop-i.invariant in
    let g = type-read (c.in_ok-t.ensures inv.ts inv.place.fill.many) in
    flagging-next _ _ inv c.loop-i-test.true g.1 (c.generic_flag.ensures ∙ sym (rw (g.2, g.3) refl))

pub returns : goal.returns
returns c = let g = flagging-done _ _ c.loop-i.invariant c.loop-i-test.false in record { value = g.0; filled = g.1 }
