use Rattle.std.proofs.Common.{sym, ◌∙◌, refl, ap, ◌≡◌, [], drop}
use lib.ListN.{drop_of_length-le}
use Rattle.rules.specs.State.{combine}
use Rattle.scope_state.specs.View.{listed}
use Rattle.scope_state.proofs.Listed.{combine-next, combine-crowd, fits-ok, fits-no, fits-none}
use Rattle.scope_state.proofs.Places.combine.Goals as goal

pub loop-p-init : goal.loop-p-init
loop-p-init c = refl

pub returns-in_err-out : goal.returns-in_err-out
returns-in_err-out c =
    let e = c.as_slice-p-items.ensures in
    let full = fits-none c.in_err-out.ensures refl in
    rw (c.from_residual.ensures, ← c.loop-p.invariant) (fits-no _ (combine-crowd (listed c.loop-p.out) (listed c.args.other) c.loop-p.p-index (rw (← e) c.loop-p-test.true) (rw e at full)))

pub loop-p-preserved : goal.loop-p-preserved
loop-p-preserved c =
    let e = c.as_slice-p-items.ensures in
    let next = combine-next (listed c.loop-p.out) (listed c.args.other) c.loop-p.p-index (rw (← e) c.loop-p-test.true) in
    let new = rw e at (c.in_ok-out.ensures.is _ refl) in
    rw new (sym next ∙ c.loop-p.invariant)

pub returns : goal.returns
returns c =
    let e : drop c.loop-p.p-index (listed c.args.other) ≡ [] = rw (← c.as_slice-p-items.ensures) (drop_of_length-le c.as_slice-p-items.result.now c.loop-p-test.false) in
    fits-ok _ _ (ap (combine (listed c.loop-p.out)) (sym e) ∙ c.loop-p.invariant)
