use native.Mathlib.Omega.{arith}
use Rattle.image_fields.specs.Bytes.{two_bytes, four_bytes}
use Rattle.image_writing.proofs.Stores.{both_stored}
use Rattle.image_writing.proofs.put_four.Goals as goal

pub put_two-requires : goal.put_two-requires
unfolding two_bytes
put_two-requires c = omega (arith, c.put_two-next.ensures.place)

pub returns : goal.returns
unfolding four_bytes
returns c = both_stored c.put_two-next.ensures c.put_two.ensures
