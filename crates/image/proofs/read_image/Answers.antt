use Rattle.image_fields.proofs.Answers.{passed}
use Rattle.image.proofs.Placed.{filled-there, all_laid, none-laid}
use Rattle.image.proofs.read_image.Goals as goal

pub returns-in_err-read : goal.returns-in_err-read
returns-in_err-read c = rw (passed c.from_residual.ensures) (none-laid _ _ c.in_err-read.ensures)

pub fill_drops-requires : goal.fill_drops-requires
fill_drops-requires c = filled-there _ _ _ c.in_ok-read.ensures

pub returns : goal.returns
returns c = all_laid _ _ _ c.in_ok-read.ensures c.fill_drops.ensures.0 c.fill_drops.ensures.1
