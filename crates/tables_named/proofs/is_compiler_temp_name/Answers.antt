use Rattle.std.proofs.Common.{ap, ◌∙◌}
use Rattle.tables.specs.Name.{name_of}
use Rattle.tables_lookup.specs.Name.{is_temp}
use Rattle.tables_lookup.proofs.First.{within}
use Rattle.tables_named.proofs.is_compiler_temp_name.Goals as goal

pub begins_with-requires : goal.begins_with-requires
begins_with-requires c = let a = c.args in
    within a.s.now a.names.now c.requires a.n c.start_of.ensures

pub returns : goal.returns
returns c = c.begins_with.ensures ∙ ap (λ p. is_temp (name_of c.args.s.now p)) c.start_of.ensures
