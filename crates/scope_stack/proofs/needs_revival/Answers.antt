use Rattle.std.proofs.Common.{sym, arith, pow_pos, rules}
use Rattle.image_fields.proofs.Tests.{false-true}
use Rattle.scope_stack.proofs.Revived.{looked-none, looked-more, looked-all}
use Rattle.scope_stack.proofs.needs_revival.Goals as goal
use Rattle.scope_stack.proofs.needs_revival.Goals.{else-l-k-via-then-l-k+else-l-k-2, else-l-k-via-else-l-k}

pub overflow_sub-m : goal.overflow_sub-m
overflow_sub-m c = omega (arith, c.ranges.alive.fits)

pub loop-m-init : goal.loop-m-init
loop-m-init c = λ p e. looked-none _ _ _ _ p _ e

pub returns-then-l-k-2 : goal.returns-then-l-k-2
returns-then-l-k-2 c = λ p e q. false-true (sym q)

pub without-m-requires : goal.without-m-requires
without-m-requires c = (c.newest-k.ensures.0.small, c.newest-k.ensures.0.low)

pub loop-m-smaller : goal.loop-m-smaller
loop-m-smaller c = omega (arith, c.without-m.ensures, pow_pos c.newest-k.result, c.newest-k.ensures.0.low)

pub loop-m-preserved : goal.loop-m-preserved
loop-m-preserved c = λ p e. rw c.without-m.ensures (looked-more _ _ _ _ p _ _ (c.loop-m.invariant p e) c.newest-k.ensures.1 (elim c.else-l-k.branch [ else-l-k-via-then-l-k+else-l-k-2 w ↦ (λ is. w.if-l-k-2.false is.1) | else-l-k-via-else-l-k w ↦ (λ is. w.if-l-k.false is.0) ]))

pub returns : goal.returns
returns c = λ p e q i l off is. looked-all _ _ _ _ p _ (c.loop-m.invariant p e) (search rules) i l off is
