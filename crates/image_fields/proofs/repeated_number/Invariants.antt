use Prim.Native.Nat.{◌+◌, ◌-◌, ◌*◌, ◌≤◌}
use mathlib.Core.Path.{◌≡◌}
use lib.ListN.{length}
use lib.Dec.{eqb}
use Rattle.image_fields.specs.Number.{two}
use Rattle.image_fields.specs.Table.{member, entries}
use Rattle.image_fields.proofs.repeated_number.Given as goal

abbrev pub invariant-loop : goal.invariant-loop
invariant-loop l = (l.p + l.stride * (l.n - l.counter) ≤ length l.s) × (member eqb (entries (two l.s) l.stride l.n l.first) l.x ≡ member eqb (entries (two l.s) l.stride (l.n - l.counter) l.p) l.x)
