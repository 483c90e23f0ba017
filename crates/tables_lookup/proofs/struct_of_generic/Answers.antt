use Rattle.std.proofs.Common.{rules}
use Rattle.tables_lookup.specs.Ty.{struct_of_generic}
use Rattle.tables_lookup.proofs.First.{or_found}
use Rattle.tables_lookup.proofs.struct_of_generic.Goals as goal

pub returns-clause-generic : goal.returns-clause-generic
unfolding struct_of_generic
returns-clause-generic c = or_found _ _ c.struct_named.ensures.named c.or_else.ensures (λ p. search rules)
