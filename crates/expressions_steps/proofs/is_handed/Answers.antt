use borrow.Author.Tests.{eq-eqb, ne_eqb}
use Rattle.rules.specs.Effects.{handed}
use Rattle.expressions_steps.proofs.is_handed.Goals as goal

pub returns-then-counted-eq0 : goal.returns-then-counted-eq0
unfolding handed
returns-then-counted-eq0 c = simp (eq-eqb _ _ c.if-counted-eq0.true, ← c.takes_over.ensures)

pub returns-else-counted-eq0 : goal.returns-else-counted-eq0
unfolding handed
returns-else-counted-eq0 c = simp (ne_eqb _ _ c.if-counted-eq0.false)
