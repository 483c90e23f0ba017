use Rattle.tables_lookup.proofs.Lent.{names-within, types-within, types-lower, structs-within, names-said, types-said, structs-said}
use Rattle.std.proofs.Common.{◌∙◌, arith}
use Rattle.expressions_calls.proofs.Ends.{call-end, end-other}
use Rattle.expressions_calls.proofs.finish.Goals as goal

pub consuming_method_receiver-requires : goal.consuming_method_receiver-requires
consuming_method_receiver-requires c = (types-within c.requires.0.filled, structs-within c.requires.0.filled, types-lower c.requires.0.filled)

pub returns-in-6 : goal.returns-in-6
returns-in-6 c = λ T sy e pl t. let w = pl (omega (arith, c.in-6.is)) in call-end T c.args.s.now c.args.start w.next e w.stands (t ∙ c.in-6.is) _ (c.consuming_method_receiver.ensures T (types-said sy) (structs-said sy))

pub moves-requires : goal.moves-requires
moves-requires c = (names-within c.requires.0.filled, c.requires.0.filled.globals, c.requires.1)

pub returns-in-14 : goal.returns-in-14
returns-in-14 c = λ T sy e pl t. let w = pl (omega (arith, c.in-14.is)) in c.moves.ensures T (names-said sy) sy.globals e w.next w.stands (t ∙ c.in-14.is)

pub returns-in_default : goal.returns-in_default
returns-in_default c = λ T sy e pl t. end-other T e (λ z. omega arith) (λ z. omega arith)
