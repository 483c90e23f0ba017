use Prim.Native.Nat.{ℕ, ◌+◌, ◌-◌, ◌*◌, ◌≤◌}
use mathlib.Core.List.{List}
use lib.Seq.{slice}
use Rattle.image_writing.specs.Stored.{Stored}
use Rattle.programs_text.specs.Text.{numbers}
use Rattle.ownership.proofs.put_numbers.Given as goal

abbrev pub invariant-loop-i : goal.invariant-loop-i
invariant-loop-i l = (l.p ≤ l.at + 21 * (l.i - l.from)) × ((z : List ℕ) (q : ℕ) → Stored l.out l.p (numbers (slice l.i l.to l.list)) z q → Stored l.initial.out l.at (numbers (slice l.from l.to l.list)) z q)
