use Rattle.scope_stack.proofs.Grown.{bit-fits, grows-on, grows-off}
use Rattle.scope_stack.proofs.Locals.register_local.Goals as goal

pub overflow_add-self-then-dtor : goal.overflow_add-self-then-dtor
overflow_add-self-then-dtor c = record { fits = rw c.bit.ensures (bit-fits c.args.self.count c.args.self.dtors c.requires.1 c.requires.0.dtor_room) }

pub returns-then-dtor : goal.returns-then-dtor
returns-then-dtor c = rw (c.bit.ensures, c.if-dtor.true) (grows-on c.args.self c.args.name c.args.ty c.args.depth c.args.born c.requires.0 c.requires.1)

pub returns-else-dtor : goal.returns-else-dtor
returns-else-dtor c = rw c.if-dtor.false (grows-off c.args.self c.args.name c.args.ty c.args.depth c.args.born c.requires.0 c.requires.1)
