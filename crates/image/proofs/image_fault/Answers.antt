use mathlib.Core.Path.{◌∙◌}
use Rattle.image.proofs.image_fault.Goals as goal

pub returns-in-Ok : goal.returns-in-Ok
returns-in-Ok c = c.in-Ok.ensures.fault

pub returns-in-Err : goal.returns-in-Err
returns-in-Err c = c.from.ensures ∙ c.in-Err.ensures.fault
