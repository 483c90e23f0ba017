use Prim.Native.Nat.{ℕ, ◌+◌, ◌-◌, ◌*◌, ◌≤◌}
use mathlib.Core.List.{List}
use Rattle.image_writing.specs.Stored.{Stored}
use Rattle.ownership.specs.Text.{error_line, lines}
use Rattle.ownership.proofs.put_errors.Given as goal

abbrev pub invariant-loop-i : goal.invariant-loop-i
invariant-loop-i l = (l.p ≤ l.at + 240 * l.i) × ((z : List ℕ) (q : ℕ) → Stored l.out l.p (lines (error_line l.errs) 12 (l.many - l.i) (12 * l.i)) z q → Stored l.initial.out l.at (lines (error_line l.errs) 12 l.many 0) z q)
