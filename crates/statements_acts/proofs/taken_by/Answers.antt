use Rattle.rules.specs.Stack.{shape}
use Rattle.statements_acts.specs.Marks.{lent}
use mathlib.Core.Path.{sym, subst}
use Rattle.image_body.specs.Stands.{Stands}
use Rattle.statements_acts.proofs.Taken.{assign-none, assign-named}
use Rattle.statements_acts.proofs.taken_by.Goals as goal

pub returns-in_err-named : goal.returns-in_err-named
returns-in_err-named c =
    let a = c.args in
    rw c.from_residual.ensures (λ T h ld births g e v p q st1 st2 σ. assign-none T (shape (lent a.l.now.names a.l.now.types ld births g a.l.now.count)) e v (c.name_in.ensures e p st1) σ c.in_err-named.was)

pub returns : goal.returns
returns c =
    let a = c.args in
    λ T h ld births g e v p q st1 st2 σ. assign-named T (shape (lent a.l.now.names a.l.now.types ld births g a.l.now.count)) e v (c.name_in.ensures e p st1) σ c.in_ok-named.was (c.consumed_compiler_temp_from_assign.ensures T h ld births g v q (subst (λ x. Stands v c.args.s.now x q) (sym (c.skip-value.ensures e p st1)) st2) σ)
