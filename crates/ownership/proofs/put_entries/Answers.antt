use mathlib.Core.Path.{◌≡◌}
use native.Mathlib.Omega.{arith}
use Rattle.ownership.proofs.Lines.{entry-line, lines-start, lines-end, entry-inside}
use Rattle.ownership.proofs.put_entries.Goals as goal

pub loop-i-init : goal.loop-i-init
loop-i-init c = (omega arith, λ z q s. lines-start _ c.args.width c.args.many s)

pub put_entry-p-requires : goal.put_entry-p-requires
put_entry-p-requires c = (omega (arith, c.loop-i.invariant.0), c.requires.2, c.requires.3, entry-inside c.args.width c.args.many c.loop-i.i _ (omega arith) c.requires.4)

pub loop-i-preserved : goal.loop-i-preserved
loop-i-preserved c = (omega (arith, c.loop-i.invariant.0, c.put_entry-p.ensures.1), λ z q s. c.loop-i.invariant.1 z q (entry-line _ c.args.width c.args.many c.loop-i.i (omega arith) c.put_entry-p.ensures.0 s))

pub returns : goal.returns
returns c = let e : c.loop-i.i ≡ c.args.many = omega arith in (c.loop-i.invariant.1 _ _ (lines-end _ _ _ c.args.width c.args.many c.loop-i.i _ e), omega (arith, e, c.loop-i.invariant.0))
