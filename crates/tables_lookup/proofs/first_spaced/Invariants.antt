use Rattle.std.proofs.Common.{◌≡◌, ◌+◌, ◌-◌, ◌*◌}
use Rattle.tables_lookup.specs.First.{first_from, is_number, positions}
use Rattle.tables_lookup.proofs.first_spaced.Given as goal

abbrev pub invariant-loop-i : goal.invariant-loop-i
invariant-loop-i l =
    (l.p + l.stride * (l.n - l.i) ≡ l.first + l.stride * l.n)
    × (first_from (is_number l.s l.x) 0 (positions l.stride l.n l.first) ≡ first_from (is_number l.s l.x) l.i (positions l.stride (l.n - l.i) l.p))
