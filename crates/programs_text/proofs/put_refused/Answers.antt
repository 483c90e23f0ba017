use native.Mathlib.Omega.{arith}
use Rattle.image_writing.proofs.Stores.{both_stored}
use Rattle.programs_text.proofs.Spells.{one_more, no_more}
use Rattle.programs_text.proofs.put_refused.Goals as goal

pub returns : goal.returns
returns c = (both_stored c.put_text-named.ensures.0 (one_more _ _ _ c.put_number-told.ensures.0 (no_more c.put_text.ensures.0)), omega (arith, c.put_text-named.ensures.1, c.put_number-told.ensures.1, c.put_text.ensures.1))
