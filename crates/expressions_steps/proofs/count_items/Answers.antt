use native.Mathlib.Omega.{arith}
use Rattle.expressions_steps.proofs.Stages.{seen-count, goes-count}
use Rattle.expressions_steps.proofs.count_items.Goals as goal

pub name_at-requires : goal.name_at-requires
name_at-requires c = let z = seen-count c.args.s.now c.requires.0.os c.requires.0.n c.args.at c.requires.0.ready c.requires.0.some c.args.top c.requires.0.is c.requires.1 c.requires.2 in omega arith

pub overflow_add-result : goal.overflow_add-result
overflow_add-result c = let z = seen-count c.args.s.now c.requires.0.os c.requires.0.n c.args.at c.requires.0.ready c.requires.0.some c.args.top c.requires.0.is c.requires.1 c.requires.2 in omega arith

pub returns : goal.returns
returns c = λ T os n rd lt eo. goes-count c.args.s.now os n c.args.at rd lt c.args.top eo T c.name_at.result c.requires.1 c.requires.2 c.name_at.ensures
