use mathlib.Core.Path.{refl}
use mathlib.Core.Logic.{⊎_elim}
use native.Mathlib.Omega.{arith}
use Rattle.image_body.specs.Expr.{fixed_count, count_width, last_width}
use Rattle.image_body.proofs.Columns.{leaf-low, leaf-high}
use Rattle.image_body.proofs.layout.is_leaf.Goals as goal

pub returns-in_default-2 : goal.returns-in_default-2
returns-in_default-2 c = leaf-high c.args.tag (omega arith) c.in_default.in_default-own.rest.1

pub returns-in-1 : goal.returns-in-1
unfolding fixed_count count_width last_width
returns-in-1 c = ⊎_elim (λ e. rw e refl) (λ e. rw e refl) c.in-1.is

pub returns-in-1-2 : goal.returns-in-1-2
returns-in-1-2 c = leaf-low c.args.tag (omega arith) (omega arith)
