use Rattle.scope_stack.specs.View.{alive_at}
use Rattle.lent.proofs.Stacks.{revived, fresh}
use Rattle.lent.proofs.register_local.Goals as goal

pub returns-then-needs_revival : goal.returns-then-needs_revival
returns-then-needs_revival c =
    revived c.args.stack.now _ _ _ _ _ c.register_local-stack.result c.if-stack-ge64.false c.register_local-stack.ensures 0 _ c.mark-stack.ensures.0 c.mark-stack.ensures.1

pub returns-else-needs_revival : goal.returns-else-needs_revival
returns-else-needs_revival c =
    let s = c.args.stack.now in
    fresh s _ _ _ _ _ c.register_local-stack.result c.if-stack-ge64.false c.register_local-stack.ensures c.requires.1
    (c.needs_revival.ensures (alive_at s.states) c.requires.1.word c.if-needs_revival.false)
