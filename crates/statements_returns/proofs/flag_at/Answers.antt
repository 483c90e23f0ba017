use borrow.Author.Tests.{eq-eqb, ne_eqb}
use native.Mathlib.Omega.{arith}
use Rattle.statements_returns.proofs.flag_at.Goals as goal

pub returns-then-width-eq1 : goal.returns-then-width-eq1
returns-then-width-eq1 c = (simp (eq-eqb _ _ c.if-width-eq1.true) c.peek.ensures.0, c.peek.ensures.1)

pub returns-else-width-eq1 : goal.returns-else-width-eq1
returns-else-width-eq1 c = (simp (ne_eqb _ _ c.if-width-eq1.false), omega arith)
