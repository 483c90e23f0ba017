use Rattle.std.proofs.Common.{arith}
use Rattle.scope_state.proofs.Stacked.{finds-none, finds-last}
use Rattle.scope_state.proofs.find_local.Goals as goal

pub returns-then-names-i : goal.returns-then-names-i
returns-then-names-i c =
    finds-last _ _ _ _ (omega (arith, c.loop-i.auto.i, c.loop-i-test.true)) c.if-names-i.true (λ k l h. c.loop-i.invariant k (omega (arith, c.loop-i-test.true)) h)

pub returns : goal.returns
returns c = finds-none _ _ _ (λ k h. c.loop-i.invariant k (omega (arith, c.loop-i-test.false)) h)
