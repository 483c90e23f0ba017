use Prim.Native.Nat.{ℕ}
use mathlib.Core.Path.{sym}
use lib.ListN.{length-replicate}
use borrow.Author.Rules.{rules}
use Rattle.report.proofs.main.Goals as goal

pub slice_bounds-print-end : goal.slice_bounds-print-end
slice_bounds-print-end c = sym (length-replicate {A = ℕ} 2097152 0)

pub print-requires : goal.print-requires
print-requires c = length-replicate {A = ℕ} 2097152 0
