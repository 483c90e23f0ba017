use mathlib.Core.Path.{refl}
use Rattle.rules.specs.Stack.{shape}
use Rattle.statements_acts.specs.Marks.{lent}
use Rattle.statements_acts.proofs.Lent.{static-none, static-some}
use Rattle.statements_acts.proofs.Taken.{from-none, from_some}
use Rattle.statements_acts.proofs.consumed_compiler_temp_from_assign.Goals as goal

pub returns-in_err-i : goal.returns-in_err-i
returns-in_err-i c =
    let a = c.args in
    rw c.from_residual.ensures (λ T h ld births g e next st σ. from-none T (shape (lent a.l.now.names a.l.now.types ld births g a.l.now.count)) _ e σ (static-none c.find_local.ensures a.l.now.types ld births g c.in_err-i.was))

pub returns : goal.returns
returns c =
    let a = c.args in
    λ T h ld births g e next st σ. from_some T (shape (lent a.l.now.names a.l.now.types ld births g a.l.now.count)) _ e σ (static-some c.find_local.ensures a.l.now.types ld births g c.in_ok-i.was) refl (c.consumed_compiler_temp_from_value.ensures T h ld births g e next st σ)
