use mathlib.Core.Path.{sym, ap, ◌∙◌}
use Rattle.expressions_effects.specs.Asked.{leaf}
use Rattle.expressions_effects.proofs.identifier_effect.Goals as goal

pub returns-then-handed : goal.returns-then-handed
returns-then-handed c = λ T e. c.mark_compiler_temp_consumed.ensures T e ∙ ap (λ b. leaf T b c.args.n c.args.p) (sym c.if-handed.true)

pub returns-else-handed : goal.returns-else-handed
returns-else-handed c = λ T e. ap (λ b. leaf T b c.args.n c.args.p) (sym c.if-handed.false)
