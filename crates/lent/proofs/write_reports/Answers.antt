use Rattle.std.proofs.Common.{◌≡◌, ap, ◌++◌, drop, ℕ, add-one, arith, ◌∙◌}
use Rattle.lent.specs.Records.{records}
use Rattle.lent.proofs.Records.{none_filled, filled_more, writes-all}
use Rattle.lent.proofs.write_reports.Goals as goal

pub loop-i-init : goal.loop-i-init
loop-i-init c = none_filled c.args.numbers.now c.args.reports.now

pub loop-i-preserved : goal.loop-i-preserved
loop-i-preserved c =
    rw (c.loop-i.invariant, add-one) (filled_more c.args.numbers.now c.loop-i.i c.args.reports.now c.report_at.result (omega arith) c.report_at.ensures)

pub returns : goal.returns
returns c =
    let end : c.loop-i.i ≡ c.args.count = omega (arith, c.loop-i.auto, c.loop-i-test.false) in
    writes-all c.args.numbers.now c.args.count c.args.reports.now _ (omega arith) (omega arith)
    (c.loop-i.invariant ∙ ap (λ (i : ℕ). records c.args.numbers.now i ++ drop i c.args.reports.now) end)
