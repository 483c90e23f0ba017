use Rattle.rules.specs.Rules.{off}
use Rattle.rules.specs.State.{alive}
use mathlib.Core.List.{[]}
use mathlib.Core.Option.{none}
use Rattle.tables_lookup.proofs.Lent.{tables_of, said, names-within, names-said}
use Rattle.statements_acts.proofs.Ends.{acts-ends}
use Rattle.statements_acts.proofs.Acts.{tag-there, jump-there}
use Prim.Native.Nat.{◌<◌}
use lib.ListN.{get_or}
use native.Mathlib.Omega.{arith}
use Rattle.statements_acts.proofs.statement.Goals as goal

pub bounds-s-p : goal.bounds-s-p
bounds-s-p c = tag-there c.requires.4

pub returns-in-2 : goal.returns-in-2
returns-in-2 c = record { acts_there = λ T h ld g m loop lo. (c.either_return.ensures.acts_there T ld g c.args.l.now.count m c.args.warns.now loop); grows = c.either_return.ensures.grows }

pub returns-in-3 : goal.returns-in-3
returns-in-3 c =
    let a = c.args in
    let r = c.expr_statement in
    record { acts_there = λ T h ld g m loop lo. r.ensures.acts_there _ T h _ a.lefts.now loop; grows = (r.ensures.grows, acts-ends (r.ensures.acts_there off (tables_of a.s.now a.tb.now) (said a.s.now a.tb.now) [] [] none)) }

pub jump_statement-requires : goal.jump_statement-requires
jump_statement-requires c =
    let a = c.args in
    let q = c.requires in
    let jumps : 8 < get_or a.s.now a.p.at 0 = omega arith in
    (q.3, jump-there a.s.now a.p.at a.end q.4 jumps, jumps, q.2)

pub returns-in-9-to-255 : goal.returns-in-9-to-255
returns-in-9-to-255 c = record { acts_there = λ T h ld g m loop lo. (c.jump_statement.ensures.acts_there T ld g c.args.l.now.count m loop lo c.args.warns.now); grows = c.jump_statement.ensures.grows }

pub assign_statement-requires : goal.assign_statement-requires
assign_statement-requires c =
    let q = c.requires in
    (names-within q.0.filled, q.1, q.3, q.4, c.in-6.is)

pub returns-in-6 : goal.returns-in-6
returns-in-6 c =
    let a = c.args in
    let e = c.assign_statement.ensures in
    record { acts_there = λ T h ld g m loop lo. (e.acts_there _ T (names-said h) ld a.l.now.births g m a.warns.now a.lefts.now loop); grows = e.grows }

pub variable_statement-requires : goal.variable_statement-requires
variable_statement-requires c =
    let q = c.requires in
    (names-within q.0.filled, q.1, q.3, q.4, omega arith, omega arith)

pub returns-in-4 : goal.returns-in-4
returns-in-4 c =
    let a = c.args in
    let e = c.variable_statement.ensures in record { acts_there = λ T h ld g m loop lo. (e.acts_there _ T (names-said h) ld a.l.now.births g a.warns.now a.lefts.now loop); grows = (e.grows, acts-ends (e.acts_there off (tables_of a.s.now a.tb.now) (names-said (said a.s.now a.tb.now)) [] [] (λ i. alive) [] [] none)) }

pub returns-in_default : goal.returns-in_default
returns-in_default c =
    let a = c.args in
    let r = c.plain_statement in
    record { acts_there = λ T h ld g m loop lo. r.ensures.acts_there _ T _ a.warns.now a.lefts.now loop; grows = (r.ensures.grows, acts-ends (r.ensures.acts_there off (tables_of a.s.now a.tb.now) [] [] [] none)) }
