use mathlib.Core.Path.{sym, ◌∙◌}
use Rattle.expressions_effects.proofs.Laws.{leaf-gives, leaf-keeps}
use Rattle.expressions_effects.proofs.mark_compiler_temp_consumed.Goals as goal

pub returns-then-is_temp : goal.returns-then-is_temp
returns-then-is_temp c = λ T e. leaf-gives T _ _ (sym (c.is_temp.ensures T e) ∙ c.if-is_temp.true)

pub returns-else-is_temp : goal.returns-else-is_temp
returns-else-is_temp c = λ T e. leaf-keeps T _ _ (sym (c.is_temp.ensures T e) ∙ c.if-is_temp.false)
