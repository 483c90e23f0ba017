use native.Mathlib.Omega.{arith}
use mathlib.Core.Path.{sym, ◌∙◌}
use Rattle.image_body.proofs.Walking.{ends-here, again}
use Rattle.image_body.proofs.strip_noop_unary.Goals as goal

pub returns-then-peek-gt0 : goal.returns-then-peek-gt0
returns-then-peek-gt0 c = ends-here _ _ _ c.loop-at.invariant (λ t a. let z = c.peek-in-loop-at.ensures.0 in omega (arith, z, a, c.if-peek-gt0.true))

pub loop-at-preserved : goal.loop-at-preserved
loop-at-preserved c = again _ _ _ c.loop-at.invariant (sym c.peek.ensures.0 ∙ c.loop-at-test.true) (omega (arith, c.peek-in-loop-at.ensures.0, c.if-peek-gt0.false))

pub returns : goal.returns
returns c = ends-here _ _ _ c.loop-at.invariant (λ t a. c.loop-at-test.false (c.peek.ensures.0 ∙ t))
