use Rattle.tables.proofs.Names.{same-pointwise}
use Rattle.tables.proofs.name.is_this.Goals as goal

pub returns : goal.returns
returns c = let e = same-pointwise c.name_bytes.result.now c.as_slice.result.now in cc
