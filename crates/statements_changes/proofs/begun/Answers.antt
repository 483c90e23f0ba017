use Rattle.statements_changes.proofs.Turned.{began}
use Rattle.statements_changes.proofs.Steady.{next-there}
use Rattle.statements_returns.proofs.Surely.{stmt-there}
use Rattle.statements_changes.proofs.begun.Goals as goal

pub front_at-f-requires : goal.front_at-f-requires
front_at-f-requires c =
    let a = c.args in
    let r = c.requires in
    stmt-there a.s.now a.left a.c.place.at (next-there a.s.now a.left a.c.left a.c.place.at r.0.there r.2)

pub returns : goal.returns
returns c =
    let a = c.args in
    let r = c.requires in
    let f = c.front_at-f in
    began a.s.now a.left _ a.c r.0 r.1 r.2 c.if-c.false _ f.result f.ensures c.start.ensures _ c.within.ensures
