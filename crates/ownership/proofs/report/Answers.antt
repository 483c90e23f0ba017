use native.Mathlib.Omega.{arith}
use Rattle.ownership_pass.proofs.Within.{within}
use Rattle.ownership.proofs.Reported.{told-refused, told-accepted}
use borrow.Author.Rules.{rules}
use Rattle.ownership.proofs.report.Goals as goal

pub put_errors-errors-requires : goal.put_errors-errors-requires
put_errors-errors-requires c = let w = within 0 _ _ _ c.pass.ensures c.in-Ok.is in (omega (arith, c.put_totals-totals.ensures.1), omega (arith, w.errors), omega (arith, w.errors))

pub put_entries-warnings-requires : goal.put_entries-warnings-requires
put_entries-warnings-requires c = let w = within 0 _ _ _ c.pass.ensures c.in-Ok.is in (omega (arith, w.errors, c.put_totals-totals.ensures.1, c.put_errors-errors.ensures.1), omega (arith, w.warnings), omega arith, omega arith, omega (arith, w.warnings))

pub put_entries-requires : goal.put_entries-requires
put_entries-requires c = let w = within 0 _ _ _ c.pass.ensures c.in-Ok.is in (omega (arith, w.errors, w.warnings, c.put_totals-totals.ensures.1, c.put_errors-errors.ensures.1, c.put_entries-warnings.ensures.1), omega (arith, w.lefts), omega arith, omega arith, omega (arith, w.lefts))

pub returns-in-Err : goal.returns-in-Err
returns-in-Err c = (told-refused _ _ (record { bytes = search rules; errors = search rules; warnings = search rules; lefts = search rules }) c.pass.ensures c.in-Err.is c.from.ensures c.put_refused.ensures.0, omega (arith, c.put_refused.ensures.1))

pub returns-in-Ok : goal.returns-in-Ok
returns-in-Ok c = let w = within 0 _ _ _ c.pass.ensures c.in-Ok.is in (told-accepted _ _ (record { bytes = search rules; errors = search rules; warnings = search rules; lefts = search rules }) c.pass.ensures c.in-Ok.is c.put_totals-totals.ensures.0 c.put_errors-errors.ensures.0 c.put_entries-warnings.ensures.0 c.put_entries.ensures.0, omega (arith, w.errors, w.warnings, w.lefts, c.put_totals-totals.ensures.1, c.put_errors-errors.ensures.1, c.put_entries-warnings.ensures.1, c.put_entries.ensures.1))
