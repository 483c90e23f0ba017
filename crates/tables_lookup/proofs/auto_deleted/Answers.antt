use Rattle.std.proofs.Common.{◌≡◌, ◌∙◌, ltb, false, get_or, arith}
use Rattle.tables_lookup.proofs.Lent.{drops-there, drops-past}
use Rattle.tables_lookup.proofs.auto_deleted.Goals as goal

pub returns-then-ty-tb : goal.returns-then-ty-tb
returns-then-ty-tb c = λ s T lent says. drops-there c.args.tb.now c.requires.0 s T says lent c.args.ty c.if-ty-tb.true

pub returns-else-ty-tb : goal.returns-else-ty-tb
returns-else-ty-tb c = λ s T lent says.
    let past = c.if-ty-tb.false in
    let e : ltb c.args.ty (get_or c.args.tb.now 1 0) ≡ false = grind arith in
    e ∙ drops-past c.args.tb.now c.requires.0 s T says c.requires.1 c.args.ty past
