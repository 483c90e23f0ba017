use Rattle.tables_lookup.proofs.First.{was-found, was-missing}
use Rattle.tables_lookup.proofs.Ty.{deletes, keeps}
use Rattle.tables_lookup.proofs.should_auto_delete.Goals as goal

pub returns-in-Some : goal.returns-in-Some
returns-in-Some c = deletes _ c.args.s.now c.args.structs.now _ (was-found c.struct_of_type.ensures.asked c.in-Some.is) c.peek.ensures.0

pub returns-in-None : goal.returns-in-None
returns-in-None c = keeps _ c.args.s.now c.args.structs.now _ _ (was-missing c.struct_of_type.ensures.asked c.in-None.is)
