use Rattle.image_writing.proofs.Stores.{both_stored}
use Rattle.image_writing.proofs.put_pair.Goals as goal

pub returns : goal.returns
returns c = both_stored c.put-next.ensures c.put.ensures
