use Rattle.scope_stack.proofs.Words.{word_set, word-clear}
use Rattle.scope_stack.proofs.with_bit.Goals as goal

pub returns-then-on : goal.returns-then-on
returns-then-on c = λ k p e. rw (e, c.bit-b.ensures, c.if-on.true) (word_set k c.args.i p c.requires)

pub returns-else-on : goal.returns-else-on
returns-else-on c = λ k p e. rw (e, c.bit-b.ensures, c.if-on.false) (word-clear k c.args.i p c.requires)
