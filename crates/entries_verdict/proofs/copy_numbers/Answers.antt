use Rattle.entries_verdict.proofs.Rooms.{copied-over}
use Rattle.entries_verdict.proofs.copy_numbers.Goals as goal

pub returns : goal.returns
returns c = copied-over c.args.to.now c.args.from.now c.args.many c.requires.0 c.requires.1 c.copy_from_slice.ensures.after
