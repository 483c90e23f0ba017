use Rattle.expressions_effects.proofs.Asked.{global-small, a-global, no-global}
use Rattle.std.proofs.Common.{[], ◌∷◌, ap, ◌∙◌, arith}
use Rattle.expressions_calls.proofs.move_ident.Goals as goal

pub overflow_cast-result : goal.overflow_cast-result
overflow_cast-result c = let z = global-small c.args.s.now (λ k. omega (arith, c.type_inv.s k)) c.args.count c.args.first _ c.global_span.ensures c.in-Some.is in omega arith

pub returns-in-Some : goal.returns-in-Some
returns-in-Some c = λ T e g. ap (λ x. x ∷ []) (a-global c.args.s.now _ _ T g c.from.ensures c.args.p c.global_span.ensures c.in-Some.is)

pub returns-in-None : goal.returns-in-None
returns-in-None c = λ T e g. c.move_local.ensures T e ∙ ap (λ x. x ∷ []) (no-global c.args.s.now _ _ T g c.from.ensures c.args.p c.global_span.ensures c.in-None.is)
