use native.Mathlib.Omega.{arith}
use mathlib.Core.Path.{ap, sym}
use lib.ListN.{length}
use lib.Seq.{take-length}
use Rattle.programs_text.proofs.Spells.{spelled_as}
use Rattle.programs_text.proofs.put_text.Goals as goal

pub returns : goal.returns
returns c = (spelled_as (sym (take-length _)) c.copy_bytes.ensures, let p = c.copy_bytes.ensures.place in let l = ap length (take-length c.args.text.now) in omega arith)
