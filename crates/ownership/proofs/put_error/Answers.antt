use native.Mathlib.Omega.{arith}
use Rattle.ownership.proofs.Lines.{error-put}
use borrow.Author.Rules.{rules}
use Rattle.ownership.proofs.put_error.Goals as goal

pub returns : goal.returns
returns c = (error-put c.args.errs.now c.args.entry c.others.result c.others.ensures c.put_text-named.ensures.0 c.put_numbers-told.ensures.0 c.put_numbers-shown.ensures.0 c.put_text.ensures.0, omega (arith, c.others.ensures, c.put_text-named.ensures.1, c.put_numbers-told.ensures.1, c.put_numbers-shown.ensures.1, c.put_text.ensures.1))
