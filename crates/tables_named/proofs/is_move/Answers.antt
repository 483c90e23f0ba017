use Rattle.std.proofs.Common.{ap, ne_eqb, ◌∙◌}
use Rattle.tables.specs.Name.{name_of, move_name}
use Rattle.tables_lookup.specs.Name.{is_move}
use Rattle.tables_lookup.proofs.First.{within}
use Rattle.tables_named.proofs.Name.{name-is, name-not}
use Rattle.tables_named.proofs.is_move.Goals as goal

pub begins_with-requires : goal.begins_with-requires
begins_with-requires c = let a = c.args in
    within a.s.now a.names.now c.requires a.n c.start_of-at.ensures

pub returns-then-peek-eq9 : goal.returns-then-peek-eq9
returns-then-peek-eq9 c = c.begins_with.ensures ∙ name-is _ move_name _ c.peek.ensures.0 c.if-peek-eq9.true ∙ ap (λ p. is_move (name_of c.args.s.now p)) c.start_of-at.ensures

pub returns-else-peek-eq9 : goal.returns-else-peek-eq9
returns-else-peek-eq9 c = ne_eqb _ _ c.if-peek-eq9.false ∙ name-not _ move_name _ c.peek.ensures.0 c.if-peek-eq9.false ∙ ap (λ p. is_move (name_of c.args.s.now p)) c.start_of-at.ensures
