use Rattle.std.proofs.Common.{◌≡◌, ◌∙◌, false, ltb, length, arith}
use Rattle.expressions_effects.proofs.Asked.{move_in, move-out}
use Rattle.expressions_calls.proofs.is_move.Goals as goal

pub returns-then-k-names : goal.returns-then-k-names
returns-then-k-names c = λ T e. move_in c.args.s.now c.args.names.now T e c.from-k.ensures c.if-k-names.true c.is_move.ensures

pub returns-else-k-names : goal.returns-else-k-names
returns-else-k-names c = λ T e.
    let past = c.if-k-names.false in
    let f : ltb c.from-k.result (length c.args.names.now) ≡ false = grind arith in
    f ∙ move-out c.args.s.now c.args.names.now T e c.from-k.ensures past
