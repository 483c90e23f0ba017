use Rattle.rules.specs.Rules.{switches_of}
use mathlib.Core.Path.{ap}
use Rattle.blocks_ends.specs.declared.Env.{Env}
use Rattle.blocks_merge.proofs.Merging.{copies-other, copies-first, first-rowed, apart, merges-base, merges-other, merges-first, merges-joined, merges-stopped}
use Rattle.blocks_merge.proofs.merge_control_flow_states.Goals as goal

pub returns-then-else_returns : goal.returns-then-else_returns
returns-then-else_returns c =
    let a = c.args in
    let h = c.requires in
    merges-base a.n a.base a.first a.other a.rows.now a.env.cur a.env.width a.b a.pl.now h (switches_of a.env.switches) a.then_returns a.else_returns c.if-then_returns.true c.if-else_returns.true

pub copy_back-requires : goal.copy_back-requires
copy_back-requires c =
    let a = c.args in
    let h = c.requires in
    copies-other a.n a.base a.first a.other a.rows.now a.env.cur a.env.width a.b a.pl.now h

pub returns-then-then_returns : goal.returns-then-then_returns
returns-then-then_returns c =
    let a = c.args in
    let h = c.requires in
    let g = c.copy_back.ensures in
    merges-other a.n a.base a.first a.other a.rows.now a.env.cur a.env.width a.b a.pl.now h (switches_of a.env.switches) a.then_returns a.else_returns
    c.if-then_returns.true c.if-else_returns.false _ g

pub copy_back-requires-then-else_returns-2 : goal.copy_back-requires-then-else_returns-2
copy_back-requires-then-else_returns-2 c =
    let a = c.args in
    let h = c.requires in
    let e = ap (λ (x : Env). x.cur) c.behind-a.ensures in
    copies-first a.n a.base a.first a.other a.rows.now a.env.cur a.env.width a.b a.pl.now h a.first _ _ e (first-rowed a.n a.base a.first a.other a.rows.now a.env.cur a.env.width a.b a.pl.now h _ e)

pub returns-then-else_returns-2 : goal.returns-then-else_returns-2
returns-then-else_returns-2 c =
    let a = c.args in
    let h = c.requires in
    let e = ap (λ (x : Env). x.cur) c.behind-a.ensures in
    let g = c.copy_back-then-else_returns-2.ensures in
    merges-first a.n a.base a.first a.other a.rows.now a.env.cur a.env.width a.b a.pl.now h (switches_of a.env.switches) a.then_returns a.else_returns
    c.if-then_returns.false c.if-else_returns-2.true _ _ e g

pub join-requires : goal.join-requires
join-requires c =
    let a = c.args in
    apart a.n a.base a.first a.other a.rows.now a.env.cur a.env.width a.b a.pl.now c.requires _ (ap (λ (x : Env). x.cur) c.behind-a.ensures)

pub copy_back-requires-in-Ok : goal.copy_back-requires-in-Ok
copy_back-requires-in-Ok c =
    let a = c.args in
    copies-first a.n a.base a.first a.other a.rows.now a.env.cur a.env.width a.b a.pl.now c.requires _ _ _ (ap (λ (x : Env). x.cur) c.behind-a.ensures) (c.join.ensures.rowed _ c.in-Ok.is)

pub returns-in-Ok : goal.returns-in-Ok
returns-in-Ok c =
    let a = c.args in
    merges-joined a.n a.base a.first a.other a.rows.now a.env.cur a.env.width a.b a.pl.now c.requires (switches_of a.env.switches) c.has_switch-keeps.ensures _ _ _ (ap (λ (x : Env). x.cur) c.behind-a.ensures) c.join.ensures
    a.then_returns a.else_returns c.if-then_returns.false c.if-else_returns-2.false _ c.in-Ok.is _ c.copy_back-in-Ok.ensures

pub returns-in-Err : goal.returns-in-Err
returns-in-Err c =
    let a = c.args in
    merges-stopped a.n a.base a.first a.other a.rows.now a.env.cur a.env.width a.b a.pl.now c.requires (switches_of a.env.switches) c.has_switch-keeps.ensures _ _ _ (ap (λ (x : Env). x.cur) c.behind-a.ensures) c.join.ensures
    a.then_returns a.else_returns c.if-then_returns.false c.if-else_returns-2.false _ c.in-Err.is a.base
