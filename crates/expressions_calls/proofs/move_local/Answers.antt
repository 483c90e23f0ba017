use Rattle.std.proofs.Common.{[], ◌∷◌, sym, ap, ◌∙◌}
use Rattle.rules.specs.Effects.{moves}
use Rattle.expressions_calls.proofs.move_local.Goals as goal

pub returns-then-is_temp : goal.returns-then-is_temp
returns-then-is_temp c = λ T e. ap (λ b. moves c.args.n c.args.p b ∷ []) (sym c.if-is_temp.true ∙ c.is_temp.ensures T e)

pub returns-else-is_temp : goal.returns-else-is_temp
returns-else-is_temp c = λ T e. ap (λ b. moves c.args.n c.args.p b ∷ []) (sym c.if-is_temp.false ∙ c.is_temp.ensures T e)
