use mathlib.Core.Path.{ap, ◌∙◌}
use lib.Seq.{sets, take-length}
use Rattle.image_lines.proofs.put_name.Goals as goal

pub returns : goal.returns
returns c = c.copy_bytes.ensures.cells ∙ ap (sets c.args.text.now 0) (take-length c.args.name.now)
