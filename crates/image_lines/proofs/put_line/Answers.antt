use Rattle.image_lines.proofs.Texts.{line-put, line-place}
use lib.ListN.{length-set}
use Rattle.image_lines.proofs.put_line.Goals as goal

pub returns : goal.returns
returns c = (λ h b e. line-put _ h c.args.others.now b c.requires.0 (c.put_others.ensures h b e) c.copy_bytes.ensures, line-place c.put_others.new.text (simp length-set c.put_others.array_long) c.copy_bytes.ensures)
