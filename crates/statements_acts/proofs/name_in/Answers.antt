use mathlib.Core.Path.{sym, ◌∙◌}
use native.Mathlib.Omega.{arith}
use Rattle.image_body.proofs.Walking.{within}
use Rattle.statements_acts.proofs.Views.{name-ident, name-this, name-none}
use Rattle.statements_acts.proofs.name_in.Goals as goal

pub overflow_add-p : goal.overflow_add-p
overflow_add-p c = let w = within c.args.s.now _ _ (sym c.peek.ensures.0 ∙ c.in-1.is) (omega arith) in omega arith

pub returns-in-1 : goal.returns-in-1
returns-in-1 c = name-ident c.args.s.now c.args.at _ c.strip_noop_unary-p.ensures (sym c.peek.ensures.0 ∙ c.in-1.is) c.name_at.ensures c.span_at.ensures

pub returns-in-2 : goal.returns-in-2
returns-in-2 c = name-this c.args.s.now c.args.at _ c.strip_noop_unary-p.ensures (sym c.peek.ensures.0 ∙ c.in-2.is) c.span_at-in-2.ensures

pub returns-in_default : goal.returns-in_default
returns-in_default c = name-none c.args.s.now c.args.at _ c.strip_noop_unary-p.ensures (λ e. let z = c.peek.ensures.0 in omega arith) (λ e. let z = c.peek.ensures.0 in omega arith)
