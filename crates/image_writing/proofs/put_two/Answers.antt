use Rattle.image_fields.specs.Bytes.{two_bytes}
use Rattle.image_writing.proofs.Stores.{both_stored}
use Rattle.image_writing.proofs.put_two.Goals as goal

pub returns : goal.returns
unfolding two_bytes
returns c = both_stored c.put-next.ensures c.put.ensures
