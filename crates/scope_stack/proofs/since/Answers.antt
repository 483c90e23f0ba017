use Rattle.std.proofs.Common.{arith, pow_pos}
use Rattle.scope_stack.proofs.Words.{word-since, word-past}
use Rattle.scope_stack.proofs.since.Goals as goal

pub returns-then-base-eq64 : goal.returns-then-base-eq64
returns-then-base-eq64 c = λ k n p le e. word-past k n c.args.base p le c.if-base-eq64.true

pub overflow_sub-result : goal.overflow_sub-result
overflow_sub-result c = omega (arith, c.bit.ensures, pow_pos c.args.base)

pub returns : goal.returns
returns c = λ k n p le e. rw (e, c.bit.ensures) (word-since k n c.args.base p le c.requires)
