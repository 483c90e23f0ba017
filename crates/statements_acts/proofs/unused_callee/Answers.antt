use native.Mathlib.Omega.{arith}
use Rattle.statements_acts.proofs.Laws.{auto-is}
use Rattle.statements_acts.proofs.Views.{no-call-at, callee-in, callee_at_lem, some_below}
use Rattle.statements_acts.proofs.unused_callee.Goals as goal

pub returns-in_default : goal.returns-in_default
returns-in_default c = (omega arith, λ T h. no-call-at c.args.s.now c.args.at _ c.strip_noop_unary-p.ensures c.node_at.ensures c.in_default.not-Call T)

pub returns : goal.returns
returns c =
    let a = c.args in
    let strip = c.strip_noop_unary-p in
    let i = callee-in a.s.now a.at _ strip.ensures c.node_at.ensures c.in-Call.is in
    let u = i.1 in
    let v = i.2 in
    rw c.then_some.ensures (some_below c.auto_deleted-unused.result (omega arith), λ T h e next st. callee_at_lem a.s.now a.at _ strip.ensures c.node_at.ensures c.in-Call.is T (auto-is T _ _ c.peek_two.ensures.0 (c.auto_deleted-unused.ensures a.s.now T c.requires.0 h)) e next st)
