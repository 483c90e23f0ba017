use native.Mathlib.Omega.{arith}
use Rattle.image_writing.proofs.Stores.{both_stored}
use Rattle.programs_text.proofs.put_number.Goals as goal

pub returns : goal.returns
returns c = (both_stored c.put-next.ensures c.put_digits.ensures.0, omega (arith, c.put-next.ensures.place, c.put_digits.ensures.1))
