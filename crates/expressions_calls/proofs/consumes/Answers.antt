use Rattle.std.proofs.Common.{◌∙◌}
use Rattle.expressions_effects.proofs.Asked.{asked-consuming}
use Rattle.expressions_calls.proofs.consumes.Goals as goal

pub returns : goal.returns
returns c = λ T et ex. c.eq.ensures ∙ asked-consuming c.args.s.now c.args.types.now c.args.structs.now T et ex _ _ c.method_modifier.ensures
