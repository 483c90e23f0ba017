use Rattle.statements_acts.proofs.Acts.{bare-there}
use mathlib.Core.Path.{◌∙◌}
use Rattle.statements_acts.proofs.either_return.Goals as goal

pub returns-then-peek-eq1 : goal.returns-then-peek-eq1
returns-then-peek-eq1 c =
    record { acts_there = λ T ld g n e warns. c.return_statement.ensures.acts_there _ T ld c.args.l.now.births g n e warns c.args.lefts.now; grows = (c.return_statement.ensures.grows.0, c.return_statement.ensures.grows.1) }

pub bare_return-requires : goal.bare_return-requires
bare_return-requires c =
    let a = c.args in
    let q = c.requires in
    let g = bare-there a.s.now a.p.at a.end q.1 q.2 (λ e. c.if-peek-eq1.false (c.peek.ensures.0 ∙ e)) in
    (q.0, g.0, q.2, g.1)

pub returns : goal.returns
returns c =
    let a = c.args in
    let r = c.bare_return in
    record { acts_there = r.ensures.acts_there; grows = r.ensures.grows }
