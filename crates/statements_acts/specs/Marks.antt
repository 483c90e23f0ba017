-- The stack of lent arrays and its mark; where a statement's front ends.
use Rattle.std.specs.Prelude.{ℕ, ◌+◌, ◌≤◌, ◌<◌, ◌≡◌, List, leb}
use Rattle.std.proofs.Math.Option.{Option as Maybe}
use Rattle.image_fields.specs.Parsed.{Parsed, ok}
use Rattle.image_body.specs.Expr.{Scope as Reading}
use Rattle.image_body.specs.Stmt.{Tree, Block, Stmt, before, stmt_at}
use Rattle.rules.specs.Rules.{in_loop}
use Rattle.statements_steps.specs.Statement.{front_size}
pub use Rattle.scope_stack.specs.View.{drop_in, Marked}
pub use Rattle.scope_state.specs.Locals.{static_in, lent}

-- whatever statement was read at a position, its front ends there
pub record EndsThere (s : List ℕ) (at to : ℕ) : Type 0 where
  pub is : (f : ℕ → Parsed Block) (t : Reading) (x : Stmt) (next : ℕ) (r : Tree) → t.expr_depth ≡ 24 → stmt_at f t s at ≡ ok x next → to ≡ at + front_size (before x r)

-- of n locals, at most 64, those from base on, and no others, are of the frames that a Break or Continue leaves in this loop; outside any, none is
pub record Looped (depths : List ℕ) (loop : Maybe ℕ) (base n : ℕ) : Type 0 where
  pub few : n ≤ 64
  pub own : (names types births : List ℕ) (i : ℕ) → i < n → in_loop loop (static_in names types depths births i) ≡ leb base i
