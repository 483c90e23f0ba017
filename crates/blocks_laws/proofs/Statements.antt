-- What the walk of one statement comes to, whatever was read there.
-- Assumes nothing.
use Prim.Native.Nat.{ℕ, ◌+◌}
use mathlib.Core.Path.{◌≡◌}
use mathlib.Core.List.{List}
use mathlib.Core.Option.{Option, none}
use lib.ListN.{length}
use Rattle.rules.specs.Rules.{Switches}
use Rattle.image_fields.specs.Parsed.{ok}
use Rattle.tables.specs.Tables.{Tables}
use Rattle.image_body.specs.Expr.{Scope as Reading}
use Rattle.image_body.specs.Stmt.{Tree, Stmt, before, stmt_in}
use Rattle.rules.specs.State.{State as Status}
use Rattle.rules.specs.Stack.{Stack as Scope}
use Rattle.image_writing.specs.Memory.{Memory}
use Rattle.statements_steps.specs.Statement.{front_drops}
use Rattle.statements_acts.specs.declared.Place.{Place}
use Rattle.statements_steps.specs.Own.{number_of}
use Rattle.statements_steps.proofs.Whole.{own, own_fault, own_after, valued}
use Rattle.blocks_laws.specs.Walks.{Walked, Wrote}

-- a statement without a fault: what is stored, where it ends, the deletes put in, where it began, the locals
pub record StmtDone (sw : Switches) (T : Tables) (c : Tree) (d : ℕ) (loop : Option ℕ) (σ : Scope Status) (p : Place) (m : Memory) (q : Place) (m' : Memory) (σ' : Scope Status) (next : ℕ) : Type 0 where
  pub wrote : Wrote (own sw T c d loop p.at σ) p m q m'
  pub inserted : q.inserted ≡ p.inserted + length (front_drops sw T c loop (valued T c σ))
  pub last : q.last ≡ p.at
  pub at : q.at ≡ next
  pub locals : σ' ≡ own_after sw T c d σ

-- a statement of a block of depth d, whose own blocks have so much depth left, before whatever follows it
pub record StmtWalks (sw : Switches) (T : Tables) (s : List ℕ) (left d : ℕ) (loop : Option ℕ) (σ : Scope Status) (p : Place) (m : Memory) (r : Walked) (m' : Memory) : Type 0 where
  pub walks : (t : Reading) → t.expr_depth ≡ 24 → (x : Stmt) (next : ℕ) → stmt_in t s left p.at ≡ ok x next → (c : Tree)
      → (r.fault ≡ number_of (own_fault sw T (before x c) d σ))
      × (own_fault sw T (before x c) d σ ≡ none → StmtDone sw T (before x c) d loop σ p m r.place m' r.locals next)
