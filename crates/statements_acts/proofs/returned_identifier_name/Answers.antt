use Rattle.statements_acts.specs.Parts.{sparing}
use Rattle.statements_acts.specs.Act.{named_of}
use mathlib.Core.Path.{sym, ap, ◌∙◌}
use Rattle.statements_acts.proofs.returned_identifier_name.Goals as goal

pub returns-in_err-named : goal.returns-in_err-named
returns-in_err-named c = rw c.from_residual.ensures (λ e next st. sym (ap (λ x. sparing (named_of x)) c.in_err-named.was) ∙ ap sparing (c.name_in.ensures e next st))

pub returns : goal.returns
returns c = λ e next st. sym (ap (λ x. sparing (named_of x)) c.in_ok-named.was) ∙ ap sparing (c.name_in.ensures e next st)
