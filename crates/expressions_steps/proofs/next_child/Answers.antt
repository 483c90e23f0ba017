use native.Mathlib.Omega.{arith}
use mathlib.Core.Path.{refl, sym, ap, ◌∙◌}
use lib.ListN.{get_or}
use Rattle.image_body.specs.Expr.{arg_width, fixed_count, count_width, leaf}
use Rattle.expressions_steps.proofs.Stages.{seen-tag, seen-child, goes-child, goes-leaf}
use Rattle.expressions_steps.proofs.next_child.Goals as goal

pub is_handed-requires : goal.is_handed-requires
is_handed-requires c = seen-tag c.args.s.now c.requires.1.os c.requires.1.n c.args.at c.requires.1.ready c.requires.1.some c.args.top c.requires.1.is

pub own-effect-requires : goal.own-effect-requires
own-effect-requires c = ((seen-child c.args.s.now c.requires.1.os c.requires.1.n c.args.at c.requires.1.ready c.requires.1.some c.args.top c.requires.1.is c.strip_noop_unary-p.result c.strip_noop_unary-p.ensures c.requires.2).inside, c.requires.0)

pub bounds-s-p : goal.bounds-s-p
bounds-s-p c = (seen-child c.args.s.now c.requires.1.os c.requires.1.n c.args.at c.requires.1.ready c.requires.1.some c.args.top c.requires.1.is c.strip_noop_unary-p.result c.strip_noop_unary-p.ensures c.requires.2).inside

pub overflow_add-next : goal.overflow_add-next
overflow_add-next c = let z = (seen-child c.args.s.now c.requires.1.os c.requires.1.n c.args.at c.requires.1.ready c.requires.1.some c.args.top c.requires.1.is c.strip_noop_unary-p.result c.strip_noop_unary-p.ensures c.requires.2).inside in omega arith

pub overflow_add-next-2 : goal.overflow_add-next-2
overflow_add-next-2 c = let z = (seen-child c.args.s.now c.requires.1.os c.requires.1.n c.args.at c.requires.1.ready c.requires.1.some c.args.top c.requires.1.is c.strip_noop_unary-p.result c.strip_noop_unary-p.ensures c.requires.2).inside in let w = c.arg_width.ensures.1 in omega arith

pub returns-then-is_leaf : goal.returns-then-is_leaf
returns-then-is_leaf c = λ T en os n rd lt eo. goes-leaf c.args.s.now os n c.args.at rd lt c.args.top eo T c.strip_noop_unary-p.result c.strip_noop_unary-p.ensures c.requires.2 c.own-effect.result c.is_handed.result _ c.arg_width.result refl
    (c.arg_width.ensures.0 ∙ ap (λ x. get_or arg_width x 0) c.wide-k.ensures.0) (ap leaf (sym c.wide-k.ensures.0) ∙ sym c.is_leaf.ensures ∙ c.if-is_leaf.true) c.is_handed.ensures (c.own-effect.ensures T en)

pub overflow_cast-inner : goal.overflow_cast-inner
overflow_cast-inner c = let z = (seen-child c.args.s.now c.requires.1.os c.requires.1.n c.args.at c.requires.1.ready c.requires.1.some c.args.top c.requires.1.is c.strip_noop_unary-p.result c.strip_noop_unary-p.ensures c.requires.2).inside in let w = c.requires.1.ready.small in omega arith

pub returns : goal.returns
returns c = λ T en os n rd lt eo. goes-child c.args.s.now os n c.args.at rd lt c.args.top eo T c.strip_noop_unary-p.result c.strip_noop_unary-p.ensures c.requires.2 c.own-effect.result c.is_handed.result _ _ _ c.arg_width.result refl
    (c.fixed_count.ensures.0 ∙ ap (λ x. get_or fixed_count x 0) c.wide-k.ensures.0) (c.count_width.ensures.0 ∙ ap (λ x. get_or count_width x 0) c.wide-k.ensures.0) (c.arg_width.ensures.0 ∙ ap (λ x. get_or arg_width x 0) c.wide-k.ensures.0) c.is_handed.ensures (c.own-effect.ensures T en)
