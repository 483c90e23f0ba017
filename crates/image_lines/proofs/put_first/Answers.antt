use Rattle.rules_page.specs.Page.{blanks, head}
use Rattle.image_lines.proofs.Texts.{head-length, head-put}
use Rattle.image_lines.proofs.put_first.Goals as goal

pub returns : goal.returns
unfolding blanks
returns c = (c.put_line.ensures.0 (head c.args.name.now c.args.place) (head-length c.args.name.now c.args.place c.requires.0) (head-put c.args.name.now c.args.place c.requires.0 c.put_name.ensures c.put_digits.ensures), c.put_line.ensures.1)
