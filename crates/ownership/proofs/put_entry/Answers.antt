use native.Mathlib.Omega.{arith}
use Rattle.image_writing.proofs.Stores.{both_stored}
use borrow.Author.Rules.{rules}
use Rattle.ownership.proofs.put_entry.Goals as goal

pub returns : goal.returns
returns c = (both_stored c.put_text-named.ensures.0 (both_stored c.put_numbers-told.ensures.0 c.put_text.ensures.0), omega (arith, c.put_text-named.ensures.1, c.put_numbers-told.ensures.1, c.put_text.ensures.1))
