use native.Mathlib.Omega.{arith}
use Rattle.ownership_pass.proofs.Within.{within}
use borrow.Author.Rules.{rules}
use Rattle.programs_replay.proofs.usual_agrees.Goals as goal

pub same_answer-requires : goal.same_answer-requires
same_answer-requires c = let w = within 0 _ _ _ c.pass.ensures c.in-Ok.is in record { stands = c.requires; written_in_bounds = (omega (arith, w.written), omega (arith, w.errors), omega (arith, w.warnings), omega (arith, w.lefts)) }
