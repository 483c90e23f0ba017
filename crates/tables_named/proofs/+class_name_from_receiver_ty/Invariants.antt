use Rattle.tables_named.proofs.+class_name_from_receiver_ty.Given as goal

abbrev pub decreases-class_name_from_receiver_ty : goal.decreases-class_name_from_receiver_ty
decreases-class_name_from_receiver_ty l = l.ty
