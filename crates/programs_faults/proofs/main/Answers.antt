use Prim.Native.Nat.{ℕ}
use mathlib.Core.Path.{sym}
use lib.ListN.{length-replicate}
use Rattle.programs_faults.proofs.main.Goals as goal

pub slice_bounds-read_full-end : goal.slice_bounds-read_full-end
slice_bounds-read_full-end c = sym (length-replicate {A = ℕ} 524288 0)

pub slice_bounds-file-end : goal.slice_bounds-file-end
slice_bounds-file-end c = c.in_ok-n.ensures.count.0

pub slice_bounds-print_records-end : goal.slice_bounds-print_records-end
slice_bounds-print_records-end c = c.in_ok-n.ensures.count.1
