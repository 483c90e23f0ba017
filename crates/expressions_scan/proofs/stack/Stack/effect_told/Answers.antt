use mathlib.Core.List.{[]}
use mathlib.Core.Path.{refl}
use native.Mathlib.Omega.{arith}
use Rattle.expressions_scan.proofs.Told.{single, entry-fit, tells_none, tells-nothing, tells-lines}
use Rattle.expressions_scan.proofs.stack.Stack.effect_told.Goals as goal

pub returns-in-Nothing : goal.returns-in-Nothing
returns-in-Nothing c = rw c.still.ensures (λ types depths births. tells_none c.in-Nothing.is, omega arith, tt)

pub returns-then-a-eq0 : goal.returns-then-a-eq0
returns-then-a-eq0 c =
    let e = c.effect_on-a.ensures in
    (λ types depths births. tells-nothing (single c.args.self.now.kept c.args.effect c.args.self.now.l.now.names types depths births) refl (e.0 types depths births) c.if-a-eq0.true, omega arith, e.1.marks)

pub put_error_lines-next-requires : goal.put_error_lines-next-requires
put_error_lines-next-requires c =
    let f = entry-fit (single c.args.self.now.kept c.args.effect c.args.self.now.l.now.names [] [] []) refl (c.effect_on-a.ensures.0 [] [] []).errors c.if-a-eq0.false in
    (omega arith, f.0, f.1, f.2, omega (arith, c.requires))

pub returns : goal.returns
returns c =
    let e = c.effect_on-a.ensures in
    let l = c.put_error_lines-next.ensures in
    (λ types depths births. tells-lines (single c.args.self.now.kept c.args.effect c.args.self.now.l.now.names types depths births) refl (e.0 types depths births) c.if-a-eq0.false c.if-not-paged.false l.0, l.1, e.1.marks)
