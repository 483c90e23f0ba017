use Rattle.expressions_scan.proofs.Loop.{scan-start, scan-next, scan-stop, some-goes, marked, unmarked}
use mathlib.Core.Path.{sym, ◌∙◌}
use Rattle.expressions_scan.proofs.scan_on.Goals as goal

pub loop-now-init : goal.loop-now-init
loop-now-init c = scan-start _ _ _ _ _ _ _ _ _ _ _ _ c.requires.2

pub returns-then-is_some : goal.returns-then-is_some
returns-then-is_some c =
    let t = c.step_on-left in
    let m = marked (sym c.if-is_some.true ∙ c.is_some.ensures) in
    rw t.ensures.2 (scan-stop _ _ _ _ _ _ _ _ _ _ _ _ c.loop-now.invariant _ t.result.0 t.ensures.1 t.ensures.0 c.effect_told-a.ensures m.0 m.1)

pub loop-now-smaller : goal.loop-now-smaller
loop-now-smaller c =
    let t = c.step_on-left in
    rw t.ensures.2 (some-goes _ _ _ _ _ _ _ _ _ _ _ _ c.loop-now.invariant _ t.result.0 t.ensures.1 t.ensures.0).falls

pub loop-now-preserved : goal.loop-now-preserved
loop-now-preserved c =
    let t = c.step_on-left in
    rw t.ensures.2 (scan-next _ _ _ _ _ _ _ _ _ _ _ _ c.loop-now.invariant _ t.result.0 t.ensures.1 t.ensures.0 c.effect_told-a.ensures (unmarked (sym c.if-is_some.false ∙ c.is_some.ensures)))
