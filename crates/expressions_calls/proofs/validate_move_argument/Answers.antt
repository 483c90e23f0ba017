use Rattle.std.proofs.Common.{arith}
use Rattle.image_body.specs.Expr.{head_of, through}
use Rattle.expressions_calls.proofs.Ends.{told-1, told-2, told-3}
use Rattle.expressions_calls.proofs.validate_move_argument.Goals as goal

pub returns-in-1 : goal.returns-in-1
returns-in-1 c = λ T en eg e next st. told-1 T c.args.s.now c.strip_noop_unary-p.result next (head_of e).span (through e) (c.strip_noop_unary-p.ensures e next st) _ c.peek.ensures.0 _ _ c.in-1.is c.name_at.ensures c.span_at.ensures (c.move_ident.ensures T en eg)

pub returns-in-2 : goal.returns-in-2
returns-in-2 c = λ T en eg e next st. told-2 T c.args.s.now c.strip_noop_unary-p.result next (head_of e).span (through e) (c.strip_noop_unary-p.ensures e next st) _ c.peek.ensures.0 _ c.in-2.is c.span_at-in-2.ensures (c.move_local.ensures T en)

pub returns-in_default : goal.returns-in_default
returns-in_default c = λ T en eg e next st. told-3 T c.args.s.now c.args.at c.strip_noop_unary-p.result next e _ _ st (c.strip_noop_unary-p.ensures e next st) c.peek.ensures.0 (λ z. omega arith) (λ z. omega arith) c.span_at-in_default.ensures
