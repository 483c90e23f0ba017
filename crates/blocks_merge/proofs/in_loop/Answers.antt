use mathlib.Core.Path.{refl}
use borrow.Author.Tests.{ne_eqb, eq-eqb}
use Rattle.blocks_merge.proofs.in_loop.Goals as goal

pub returns-then-tag-ne8 : goal.returns-then-tag-ne8
returns-then-tag-ne8 c = rw (ne_eqb _ 8 c.if-tag-ne8.true) refl

pub returns : goal.returns
returns c = rw (eq-eqb _ 8 c.if-tag-ne8.false) refl
