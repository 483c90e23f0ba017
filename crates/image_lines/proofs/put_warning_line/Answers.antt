use Rattle.rules_page.specs.Page.{bytes}
use Rattle.image_lines.proofs.Entries.{warning-put}
use Rattle.image_lines.proofs.put_warning_line.Goals as goal

pub returns : goal.returns
unfolding bytes
returns c = (warning-put c.args.span c.args.offset c.put_first.ensures.0, c.put_first.ensures.1)
