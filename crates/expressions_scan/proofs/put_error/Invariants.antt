use Rattle.expressions_scan.proofs.Entries.{zeros}
use Rattle.image_writing.specs.Stored.{Stored}
use Rattle.expressions_scan.proofs.put_error.Given as goal

abbrev pub invariant-loop : goal.invariant-loop
invariant-loop l = Stored l.initial.list l.initial.at (zeros l.counter) l.list l.at
