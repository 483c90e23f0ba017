use Rattle.tables_lookup.proofs.+struct_of_type.Given as goal

abbrev pub decreases-struct_of_type : goal.decreases-struct_of_type
decreases-struct_of_type l = l.ty
