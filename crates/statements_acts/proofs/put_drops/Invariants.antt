use Rattle.statements_acts.proofs.Dropped.{Bounded, Left}
use Rattle.statements_acts.specs.Marks.{Marked}
use Rattle.statements_steps.specs.Drops.{delete_bytes}
use Rattle.statements_acts.specs.Drops.{admitted}
use Rattle.rules.specs.State.{State as Status}
use Rattle.rules.specs.Rules.{delete_at}
use Rattle.tables.specs.Tables.{Tables}
use Rattle.scope_stack.proofs.Words.{ones}
use lib.ListN.{length}
use mathlib.Core.Path.{◌≡◌}
use mathlib.Core.List.{List}
use Prim.Native.Nat.{ℕ}
use Rattle.statements_acts.proofs.put_drops.Given as goal

abbrev pub invariant-loop-m : goal.invariant-loop-m
invariant-loop-m l =
    (length l.out ≡ length l.initial.out) × Bounded l.at l.m l.place l.put
    × ((T : Tables) (depths births : List ℕ) (g : ℕ → Status) (n : ℕ) → Marked T l.l.types g n l.mark → Left T l.l.names l.l.types depths births g (admitted l.spared) (delete_at l.span) delete_bytes l.initial.out l.at n l.m l.out l.place l.put)

abbrev pub decreases-loop-m : goal.decreases-loop-m
decreases-loop-m l = ones 64 l.m
