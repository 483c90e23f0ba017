-- The end of a block, and the merge behind two branches.
use Rattle.std.specs.Prelude.{ℕ, ◌+◌, ◌-◌, ◌%◌, ◌<◌, ◌≡◌, Bool, false, cond, not, ◌&&◌, List, [], length, leb}
use Rattle.image_fields.specs.Number.{two, four}
use Rattle.image_fields.specs.Bytes.{two_bytes}
use Rattle.image_fields.specs.Parsed.{ok}
use Rattle.tables.specs.Limits.{version1}
use Rattle.tables.specs.Tables.{Tables}
use Rattle.image_body.specs.Expr.{Scope as Reading}
use Rattle.image_body.specs.Stmt.{Stmt, done, before, stmt_in}
use Rattle.rules.specs.State.{State as Status}
use Rattle.rules.specs.Stack.{pop, Stack as Scope}
use Rattle.rules.specs.Rules.{Drop, states, sure_from, joins, merge, Switches, concerns, end_drops}
use Rattle.rules.specs.Walk.{too_wide}
use Rattle.statements_steps.specs.Drops.{delete_bytes}
use Rattle.image_writing.specs.Stored.{Stored}
use Rattle.statements_acts.specs.declared.Place.{Place}
use Rattle.blocks_laws.specs.Walks.{Walked}
use Rattle.statements_steps.specs.Own.{number_of}

-- the deletes at the end of a block of depth d and span sp, unless it surely returns
abbrev pub tail : Switches → Tables → Bool → ℕ → ℕ → Scope Status → List Drop
tail sw T sure d sp σ = cond sure [] (end_drops (states sw) T (concerns sw) d sp σ)

-- the end of the block that began at a place, its count to be stored in the gap, of whatever statement was read last
pub record Ends (sw : Switches) (T : Tables) (s : List ℕ) (left d : ℕ) (σ : Scope Status) (start : Place) (gap : ℕ) (p : Place) (out : List ℕ) (r : Walked) (out' : List ℕ) : Type 0 where
  pub none_last : two s (start.at + 4) ≡ 0 → r.sure ≡ false
  pub some-last : 0 < two s (start.at + 4) → (t : Reading) → t.expr_depth ≡ 24 → (x : Stmt) (next : ℕ) → stmt_in t s (left - 1) p.last ≡ ok x next
      → r.sure ≡ sure_from (before x (done tt)) false
  pub mid : List ℕ
  pub next : ℕ
  pub deletes : Stored out p.written (delete_bytes (tail sw T r.sure d (four s start.at) σ)) mid r.place.written
  pub counts : Stored mid gap (two_bytes ((two s (start.at + 4) + p.inserted + length (tail sw T r.sure d (four s start.at) σ)) % 65536)) out' next
  pub fits : r.place.fits ≡ (p.fits && leb (two s (start.at + 4) + p.inserted + length (tail sw T r.sure d (four s start.at) σ)) 65535)
  pub at : r.place.at ≡ p.at
  pub last : r.place.last ≡ start.last
  pub inserted : r.place.inserted ≡ start.inserted
  pub errors : r.place.errors ≡ p.errors
  pub warnings : r.place.warnings ≡ p.warnings
  pub lefts : r.place.lefts ≡ p.lefts
  pub paged : r.place.paged ≡ p.paged
  pub fault : r.fault ≡ 0
  pub locals : r.locals ≡ pop d σ

-- merge_control_flow_states behind two branches, w being the walk behind the second
pub record Merges (sw : Switches) (b : Bool) (σ τ : Scope Status) (w r : Walked) : Type 0 where
  pub fault : r.fault ≡ number_of (too_wide version1 (not b && not w.sure) (joins (states sw) τ w.locals))
  pub place : r.place ≡ w.place
  pub locals : r.fault ≡ 0 → r.locals ≡ merge (states sw) b w.sure σ τ w.locals

-- whether the last of so many statements, at a position, surely returns
pub record LastReturns (s : List ℕ) (left total last : ℕ) (r : Bool) : Type 0 where
  pub none : total ≡ 0 → r ≡ false
  pub some : 0 < total → (t : Reading) → t.expr_depth ≡ 24 → (x : Stmt) (next : ℕ) → stmt_in t s left last ≡ ok x next → r ≡ sure_from (before x (done tt)) false
