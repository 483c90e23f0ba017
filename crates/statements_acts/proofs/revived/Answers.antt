use mathlib.Core.Path.{sym, ap, ◌∙◌}
use Rattle.statements_acts.specs.Act.{named_of}
use Rattle.statements_acts.specs.Parts.{revive_of}
use Rattle.statements_acts.proofs.revived.Goals as goal

pub returns-in-Some : goal.returns-in-Some
returns-in-Some c = λ e next st. sym (ap (λ x. revive_of (named_of x)) c.in-Some.is) ∙ ap revive_of (c.name_in.ensures e next st)

pub returns-in-None : goal.returns-in-None
returns-in-None c = λ e next st. sym (ap (λ x. revive_of (named_of x)) c.in-None.is) ∙ ap revive_of (c.name_in.ensures e next st)
