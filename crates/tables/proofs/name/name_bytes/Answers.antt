use Rattle.std.proofs.Common.{arith}
use Rattle.tables.proofs.Names.{bytes-slice}
use Rattle.tables.proofs.name.name_bytes.Goals as goal

pub returns : goal.returns
returns c = bytes-slice c.args.s.now c.args.p (omega arith) c.requires
