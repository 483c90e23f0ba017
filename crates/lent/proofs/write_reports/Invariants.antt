use Rattle.std.proofs.Common.{◌≡◌, ◌++◌, drop}
use Rattle.lent.specs.Records.{records}
use Rattle.lent.proofs.write_reports.Given as goal

-- the first i records are written, and the rest is as it was
abbrev pub invariant-loop-i : goal.invariant-loop-i
invariant-loop-i l = l.reports ≡ records l.numbers l.i ++ drop l.i l.initial.reports
