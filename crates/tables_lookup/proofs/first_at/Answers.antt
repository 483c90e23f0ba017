use Rattle.std.proofs.Common.{rules, ◌+◌, ◌∙◌}
use Rattle.std.proofs.lemmas.Iterator.{YieldsList-from_slice}
use Rattle.std.proofs.lemmas.Iterator.Search.{position_from_yields_List}
use borrow.Author.Tests.{tests}
use Rattle.tables_lookup.specs.First.{is_number}
use Rattle.tables_lookup.proofs.First.{first_found}
use Rattle.tables_lookup.proofs.first_at.Goals as goal

pub returns-clause-first : goal.returns-clause-first
returns-clause-first c = let a = c.args in
    position_from_yields_List (λ at. is_number a.s.now a.x (at + a.offset)) _ _ c.position.result c.position.ensures.ran (YieldsList-from_slice a.starts.now cc) (λ x b q k. search (rules, tests))
    ∙ first_found _ a.starts.now
