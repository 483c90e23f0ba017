use native.Mathlib.Omega.{arith}
use borrow.Author.Rules.{rules}
use Rattle.report.proofs.Showing.{shown-page, shown-refused}
use Rattle.report.proofs.show.Goals as goal

pub returns-in-Err : goal.returns-in-Err
returns-in-Err c = shown-refused c.requires c.page.ensures c.in-Err.is c.from.ensures c.put_refused.ensures.0 (omega (arith, c.put_refused.ensures.1, c.page.auto, c.requires))

pub returns-in-Ok : goal.returns-in-Ok
returns-in-Ok c = shown-page c.requires c.page.ensures c.in-Ok.is
