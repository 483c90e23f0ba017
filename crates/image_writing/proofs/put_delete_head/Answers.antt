use native.Mathlib.Omega.{arith}
use Rattle.image_writing.proofs.Stores.{both_stored, four-length}
use Rattle.image_writing.proofs.put_delete_head.Goals as goal

pub put_two-requires : goal.put_two-requires
put_two-requires c = omega (arith, c.put-tagged.ensures.place, c.put_four-spanned.ensures.place, four-length c.args.span)

pub returns : goal.returns
returns c = both_stored c.put-tagged.ensures (both_stored c.put_four-spanned.ensures c.put_two.ensures)
