-- What is known of a record that was found.
-- Assumes nothing.
use mathlib.Core.Path.{◌≡◌, subst}
use mathlib.Core.List.{List}
use Prim.Native.Nat.{ℕ, ◌+◌, ◌≤◌, ◌<◌}
use Rattle.std.specs.Prelude.{Option, Some}
use Rattle.programs_replay.specs.declared.Record.{Record}
use Rattle.programs_replay.specs.Record.{Stands, Inside}

pub whole-inside : (s : List ℕ) (at : ℕ) {q : Record} {r : Option Record} → Inside s at r → r ≡ Some q → (at < q.label) × Stands s q
whole-inside s at i e = subst (Inside s at) e i
