use native.Mathlib.Omega.{arith}
use mathlib.Core.Path.{refl, ◌∙◌}
use Rattle.image_lines.proofs.Entries.{further-put, further-none}
use Rattle.image_lines.proofs.put_continued.Goals as goal

pub loop-i-init : goal.loop-i-init
loop-i-init c = (refl, omega arith, omega arith, omega arith, λ new next s. s)

pub loop-i-preserved : goal.loop-i-preserved
loop-i-preserved c =
    let e = c.three_on-end.ensures in
    (c.put_further-p.auto.out ∙ c.loop-i.invariant.0, omega arith, omega arith, omega (arith, c.put_further-p.ensures.1), λ new next s. c.loop-i.invariant.4 new next (further-put c.args.numbers.now c.loop-i.i c.three_on-end.result c.args.to c.requires.1 (omega arith) e c.loop-i-test.true c.put_further-p.ensures.0 s))

pub shape_of-out : goal.shape_of-out
shape_of-out c = c.loop-i.invariant.0

pub returns : goal.returns
returns c = c.loop-i.invariant.4 _ _ (further-none _ c.args.numbers.now _ c.loop-i.i c.args.to (omega arith))
