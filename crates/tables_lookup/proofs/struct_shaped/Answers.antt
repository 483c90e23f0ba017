use Rattle.std.proofs.Common.{sym, ap, ◌∙◌}
use Rattle.tables_lookup.specs.Answer.{found_of}
use Rattle.tables_lookup.proofs.First.{missing}
use Rattle.tables_lookup.proofs.Ty.{by_shape, shape-zero}
use Rattle.tables_lookup.proofs.struct_shaped.Goals as goal

pub returns-then-shape-eq0-clause-shaped : goal.returns-then-shape-eq0-clause-shaped
returns-then-shape-eq0-clause-shaped c = missing (shape-zero _ _ c.if-shape-eq0.true)

pub returns-else-shape-eq0-clause-shaped : goal.returns-else-shape-eq0-clause-shaped
returns-else-shape-eq0-clause-shaped c = let a = c.args in
    c.first_at.ensures.first ∙ ap found_of (sym (by_shape a.s.now a.structs.now a.shape c.if-shape-eq0.false))
