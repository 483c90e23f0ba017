use Rattle.tables_lookup.proofs.Lent.{types-lent, structs-lent}
use Rattle.tables_lookup.proofs.deleted_in.Goals as goal

pub should_auto_delete-requires : goal.should_auto_delete-requires
should_auto_delete-requires c =
    let a = c.args in
    let p = c.requires in
    (rw (types-lent a.tb.now) p.types, rw (structs-lent a.tb.now) p.structs, rw (types-lent a.tb.now) p.lower)

pub returns : goal.returns
returns c =
    let tb = c.args.tb.now in
    simp (types-lent tb, structs-lent tb) at c.should_auto_delete.ensures
