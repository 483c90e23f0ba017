use mathlib.Core.Path.{◌≡◌}
use native.Mathlib.Omega.{arith}
use Rattle.ownership.proofs.Lines.{entry-line, lines-start, lines-end}
use Rattle.ownership.proofs.put_errors.Goals as goal

pub loop-i-init : goal.loop-i-init
loop-i-init c = (omega arith, λ z q s. lines-start _ 12 c.args.many s)

pub loop-i-preserved : goal.loop-i-preserved
loop-i-preserved c = (omega (arith, c.loop-i.invariant.0, c.put_error-p.ensures.1), λ z q s. c.loop-i.invariant.1 z q (entry-line _ 12 c.args.many c.loop-i.i (omega arith) c.put_error-p.ensures.0 s))

pub returns : goal.returns
returns c = let e : c.loop-i.i ≡ c.args.many = omega arith in (c.loop-i.invariant.1 _ _ (lines-end _ _ _ 12 c.args.many c.loop-i.i _ e), omega (arith, e, c.loop-i.invariant.0))
