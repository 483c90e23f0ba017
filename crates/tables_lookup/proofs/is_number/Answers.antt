use Rattle.tables_lookup.proofs.is_number.Goals as goal

pub returns : goal.returns
returns c = simp (c.peek.ensures.0, c.peek-2.ensures.0)
