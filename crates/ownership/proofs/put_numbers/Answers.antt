use mathlib.Core.Path.{◌≡◌}
use native.Mathlib.Omega.{arith}
use Rattle.ownership.proofs.Lines.{next-number, no_number}
use Rattle.ownership.proofs.put_numbers.Goals as goal

pub loop-i-preserved : goal.loop-i-preserved
loop-i-preserved c = (omega (arith, c.put_number-p.ensures.1, c.loop-i.invariant.0), λ z q s. c.loop-i.invariant.1 z q (next-number _ _ _ _ c.from.ensures (omega arith) c.requires.2 c.put_number-p.ensures.0 s))

pub returns : goal.returns
returns c = let e : c.loop-i.i ≡ c.args.to = omega arith in (c.loop-i.invariant.1 _ _ (no_number _ _ _ _ _ e), omega (arith, e, c.loop-i.invariant.0))
