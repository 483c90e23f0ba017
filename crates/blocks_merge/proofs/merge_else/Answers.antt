use mathlib.Core.Path.{refl}
use native.Mathlib.Omega.{arith}
use Rattle.blocks_ends.proofs.Walks.{stopped, goes_on}
use Rattle.blocks_merge.proofs.merge_else.Goals as goal

pub returns-then-is_some : goal.returns-then-is_some
returns-then-is_some c =
    let k = stopped c.args.pl.now.stop c.is_some.ensures c.if-is_some.true in
    record { faulty = λ q. (refl, refl, refl); merges = λ z. absurd (omega arith) }

pub merge_control_flow_states-requires : goal.merge_control_flow_states-requires
merge_control_flow_states-requires c =
    let zero = goes_on c.args.pl.now.stop c.is_some.ensures c.if-is_some.false in
    (c.requires zero, zero)

pub returns : goal.returns
returns c =
    let zero = goes_on c.args.pl.now.stop c.is_some.ensures c.if-is_some.false in
    record { faulty = λ q. absurd (omega arith); merges = λ z. c.merge_control_flow_states.ensures }
