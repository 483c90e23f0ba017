use Rattle.rules.specs.Stack.{shape}
use Rattle.statements_acts.specs.Marks.{lent}
use Rattle.statements_acts.proofs.Taken.{value_none, value_taken}
use Rattle.statements_acts.proofs.consumed_compiler_temp_from_value.Goals as goal

pub returns-in_err-named : goal.returns-in_err-named
returns-in_err-named c =
    let a = c.args in
    rw c.from_residual.ensures (λ T h ld births g e next st σ. value_none T (shape (lent a.l.now.names a.l.now.types ld births g a.l.now.count)) _ _ e σ (c.name_in.ensures e next st) c.in_err-named.was)

pub returns : goal.returns
returns c =
    let a = c.args in
    rw c.then_some.ensures (λ T h ld births g e next st σ. value_taken T (shape (lent a.l.now.names a.l.now.types ld births g a.l.now.count)) _ _ e σ (c.name_in.ensures e next st) c.in_ok-named.was _ (c.takes.ensures T h ld births g))
