use Rattle.statements_acts.proofs.Dropped.{Placed, Listing}
use Rattle.statements_acts.specs.Marks.{Marked}
use Rattle.rules.specs.State.{State as Status}
use Rattle.tables.specs.Tables.{Tables}
use Rattle.scope_stack.proofs.Words.{ones}
use lib.ListN.{length}
use mathlib.Core.List.{List}
use mathlib.Core.Path.{◌≡◌}
use Prim.Native.Nat.{ℕ}
use Rattle.statements_acts.proofs.list_left.Given as goal

abbrev pub invariant-loop-rest : goal.invariant-loop-rest
invariant-loop-rest l =
    (length l.out ≡ length l.initial.out) × (length l.lefts ≡ length l.initial.lefts) × Placed l.n l.rest l.at
    × ((T : Tables) (tys depths : List ℕ) (g : ℕ → Status) (k : ℕ) → Marked T tys g k l.mark → Listing T l.l.names tys depths l.l.births g l.paged l.span k l.initial.lefts l.initial.out l.n l.rest l.lefts l.out l.at)

abbrev pub decreases-loop-rest : goal.decreases-loop-rest
decreases-loop-rest l = ones 64 l.rest
