use Rattle.std.proofs.Common.{◌≡◌, refl, arith, rules}
use Rattle.scope_stack.proofs.Stores.{leaves_none, leaves-more}
use Rattle.scope_stack.proofs.States.leave.Goals as goal

pub loop-i-init : goal.loop-i-init
loop-i-init c = leaves_none _ _ c.requires.0

pub loop-i-preserved : goal.loop-i-preserved
loop-i-preserved c = leaves-more _ _ _ _ _ _ c.loop-i.invariant (search rules) (search rules) refl (c.with_bit.ensures 0 _ c.loop-i.invariant.held.word)

pub returns : goal.returns
returns c = let end : c.loop-i.i ≡ c.args.m = omega (arith, c.requires.1, c.loop-i.auto, c.loop-i-test.false) in
    rw end at c.loop-i.invariant
