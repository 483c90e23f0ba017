use borrow.Enum.Refused.{opened}
use Rattle.std.proofs.Common.{arith}
use Rattle.expressions_calls.proofs.Ends.{no_field, no-ident, within, consumed-by, kept_by}
use Rattle.expressions_calls.proofs.consuming_method_receiver.Goals as goal

pub returns-in_default : goal.returns-in_default
returns-in_default c = λ T et ex. no_field c.args.s.now c.args.at _ c.strip_noop_unary-p.ensures c.node_at.ensures (opened c.in_default.in_default-own.keys2) T

pub returns-in_default-node_at : goal.returns-in_default-node_at
returns-in_default-node_at c = λ T et ex. no-ident c.args.s.now c.args.at _ c.strip_noop_unary-p.ensures c.node_at.ensures c.in-FieldAccess.is _ c.strip_noop_unary-q.ensures c.node_at-2.ensures (opened c.in_default-node_at.in_default-node_at-own.keys2) T

pub overflow_add-target : goal.overflow_add-target
overflow_add-target c = let f = within c.args.s.now c.args.at _ c.strip_noop_unary-p.ensures c.node_at.ensures c.in-FieldAccess.is _ c.strip_noop_unary-q.ensures c.node_at-2.ensures c.in-Ident.is in omega arith

pub peek_two-ty-requires : goal.peek_two-ty-requires
peek_two-ty-requires c = let f = within c.args.s.now c.args.at _ c.strip_noop_unary-p.ensures c.node_at.ensures c.in-FieldAccess.is _ c.strip_noop_unary-q.ensures c.node_at-2.ensures c.in-Ident.is in omega arith

pub overflow_add-q : goal.overflow_add-q
overflow_add-q c = let f = within c.args.s.now c.args.at _ c.strip_noop_unary-p.ensures c.node_at.ensures c.in-FieldAccess.is _ c.strip_noop_unary-q.ensures c.node_at-2.ensures c.in-Ident.is in omega arith

pub peek_two-method-requires : goal.peek_two-method-requires
peek_two-method-requires c = let f = within c.args.s.now c.args.at _ c.strip_noop_unary-p.ensures c.node_at.ensures c.in-FieldAccess.is _ c.strip_noop_unary-q.ensures c.node_at-2.ensures c.in-Ident.is in omega arith

pub overflow_add-q-then-consumes : goal.overflow_add-q-then-consumes
overflow_add-q-then-consumes c = let f = within c.args.s.now c.args.at _ c.strip_noop_unary-p.ensures c.node_at.ensures c.in-FieldAccess.is _ c.strip_noop_unary-q.ensures c.node_at-2.ensures c.in-Ident.is in omega arith

pub name_at-requires : goal.name_at-requires
name_at-requires c = let f = within c.args.s.now c.args.at _ c.strip_noop_unary-p.ensures c.node_at.ensures c.in-FieldAccess.is _ c.strip_noop_unary-q.ensures c.node_at-2.ensures c.in-Ident.is in omega arith

pub overflow_add-p : goal.overflow_add-p
overflow_add-p c = let f = within c.args.s.now c.args.at _ c.strip_noop_unary-p.ensures c.node_at.ensures c.in-FieldAccess.is _ c.strip_noop_unary-q.ensures c.node_at-2.ensures c.in-Ident.is in omega arith

pub span_at-requires : goal.span_at-requires
span_at-requires c = let f = within c.args.s.now c.args.at _ c.strip_noop_unary-p.ensures c.node_at.ensures c.in-FieldAccess.is _ c.strip_noop_unary-q.ensures c.node_at-2.ensures c.in-Ident.is in omega arith

pub returns-then-consumes : goal.returns-then-consumes
returns-then-consumes c = λ T et ex e next st. consumed-by c.args.s.now c.args.at _ c.strip_noop_unary-p.ensures c.node_at.ensures c.in-FieldAccess.is _ c.strip_noop_unary-q.ensures c.node_at-2.ensures c.in-Ident.is T _ _ c.peek_two-ty.ensures.0 c.peek_two-method.ensures.0 (c.consumes.ensures T et ex) e next st c.if-consumes.true c.name_at.ensures c.span_at.ensures

pub returns-else-consumes : goal.returns-else-consumes
returns-else-consumes c = λ T et ex e next st. kept_by c.args.s.now c.args.at _ c.strip_noop_unary-p.ensures c.node_at.ensures c.in-FieldAccess.is _ c.strip_noop_unary-q.ensures c.node_at-2.ensures c.in-Ident.is T _ _ c.peek_two-ty.ensures.0 c.peek_two-method.ensures.0 (c.consumes.ensures T et ex) e next st c.if-consumes.false
