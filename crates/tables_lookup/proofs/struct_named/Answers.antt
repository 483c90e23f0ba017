use Rattle.std.proofs.Common.{sym, ap, ◌∙◌}
use Rattle.tables_lookup.specs.Answer.{found_of}
use Rattle.tables_lookup.proofs.Ty.{by_name}
use Rattle.tables_lookup.proofs.struct_named.Goals as goal

pub returns-clause-named : goal.returns-clause-named
returns-clause-named c = let a = c.args in
    c.first_at.ensures.first ∙ ap found_of (sym (by_name a.s.now a.structs.now a.name))
