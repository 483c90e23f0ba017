use Prim.Native.Nat.{ℕ, ◌+◌, ◌-◌, ◌*◌, ◌≤◌}
use mathlib.Core.List.{List}
use Rattle.image_writing.specs.Stored.{Stored}
use Rattle.ownership.specs.Text.{entry_line, lines}
use Rattle.ownership.proofs.put_entries.Given as goal

abbrev pub invariant-loop-i : goal.invariant-loop-i
invariant-loop-i l = (l.p ≤ l.at + 73 * l.i) × ((z : List ℕ) (q : ℕ) → Stored l.out l.p (lines (entry_line l.word l.list l.width) l.width (l.many - l.i) (l.width * l.i)) z q → Stored l.initial.out l.at (lines (entry_line l.word l.list l.width) l.width l.many 0) z q)
