use Rattle.std.proofs.Common.{◌≡◌, ◌+◌, ◌-◌, get_or, drop}
use Rattle.tables.specs.Name.{bytes_at, name_of, starts_with}
use Rattle.tables_named.proofs.begins_with.Given as goal

abbrev pub invariant-loop-i : goal.invariant-loop-i
invariant-loop-i l =
    starts_with l.word (name_of l.s l.at) ≡ starts_with (drop l.i l.word) (bytes_at l.s (l.at + 1 + l.i) (get_or l.s l.at 0 - l.i))
