use Prim.Native.Nat.{ℕ, ◌+◌, ◌-◌, ◌*◌, ◌≤◌}
use mathlib.Core.Path.{◌≡◌}
use mathlib.Core.List.{List, flatten}
use lib.ListN.{length}
use lib.Seq.{slice}
use Rattle.image_writing.specs.Stored.{Stored}
use Rattle.image_lines.specs.Further.{further_lines}
use Rattle.image_lines.proofs.put_continued.Given as goal

abbrev pub invariant-loop-i : goal.invariant-loop-i
invariant-loop-i l =
    (length l.out ≡ length l.initial.out) × (l.from ≤ l.i) × (l.i ≤ l.to) × (l.p ≤ l.at + 73 * (l.i - l.from))
    × ((new : List ℕ) (next : ℕ) → Stored l.out l.p (flatten (further_lines (slice l.i l.to l.numbers))) new next → Stored l.initial.out l.at (flatten (further_lines (slice l.from l.to l.numbers))) new next)

abbrev pub decreases-loop-i : goal.decreases-loop-i
decreases-loop-i l = l.to - l.i
