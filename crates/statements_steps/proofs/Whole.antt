-- A whole statement at the head of a list: its values, what stands up to its blocks, its blocks; and what is behind it.
-- Assumes nothing.
use Prim.Native.Nat.{ℕ, ◌+◌}
use mathlib.Core.Bool.{Bool, true, false, ◌&&◌}
use mathlib.Core.List.{◌++◌}
use mathlib.Core.Option.{Option}
use Rattle.tables.specs.Tables.{Tables}
use Rattle.image_body.specs.Stmt.{Tree, done, expr_stmt, variable, assign, return, bare_return, block, if_else, if_then, while, jump}
use Rattle.rules.specs.State.{State as Status}
use Rattle.rules.specs.Stack.{Stack as Scope}
use Rattle.rules.specs.Rules.{Switches, sure_from}
use Rattle.rules.specs.Report.{code_bytes}
use Rattle.image_body.specs.Expr.{Exprs, none, more}
use Rattle.expressions_scan.proofs.Values.{after_all, told_all}
use Rattle.statements_steps.specs.Statement.{front_size, front_bytes, front_reports}
use Rattle.statements_steps.specs.Own.{Own, both, blocks_own, blocks_fault, blocks_after}

-- the statements behind a statement
abbrev pub rest_of : Tree → Tree
rest_of (done x) = done x
rest_of (expr_stmt s e y r) = r
rest_of (variable k s n t e r) = r
rest_of (assign s e v t x r) = r
rest_of (return s e t x r) = r
rest_of (bare_return s t x r) = r
rest_of (block s c r) = r
rest_of (if_else s e ts t us u r) = r
rest_of (if_then s e ts t r) = r
rest_of (while s e ts t r) = r
rest_of (jump k s x r) = r

-- its values, in order
abbrev pub values_of : Tree → Exprs
values_of (done x) = none
values_of (expr_stmt s e y r) = more e none
values_of (variable k s n t e r) = more e none
values_of (assign s e v t x r) = more e (more v none)
values_of (return s e t x r) = more e none
values_of (bare_return s t x r) = none
values_of (block s c r) = none
values_of (if_else s e ts t us u r) = more e none
values_of (if_then s e ts t r) = more e none
values_of (while s e ts t r) = more e none
values_of (jump k s x r) = none

-- the bytes of its blocks in the submitted image
abbrev pub blocks_size : Tree → ℕ
blocks_size (done x) = 0
blocks_size (expr_stmt s e y r) = 0
blocks_size (variable k s n t e r) = 0
blocks_size (assign s e v t x r) = 0
blocks_size (return s e t x r) = 0
blocks_size (bare_return s t x r) = 0
blocks_size (block s c r) = 6 + code_bytes c
blocks_size (if_else s e ts t us u r) = 13 + code_bytes t + code_bytes u
blocks_size (if_then s e ts t r) = 7 + code_bytes t
blocks_size (while s e ts t r) = 6 + code_bytes t
blocks_size (jump k s x r) = 0

-- whether it surely returns
abbrev pub sure_of : Tree → Bool
sure_of (done x) = false
sure_of (expr_stmt s e y r) = false
sure_of (variable k s n t e r) = false
sure_of (assign s e v t x r) = false
sure_of (return s e t x r) = true
sure_of (bare_return s t x r) = true
sure_of (block s c r) = sure_from c false
sure_of (if_else s e ts t us u r) = sure_from t false && sure_from u false
sure_of (if_then s e ts t r) = false
sure_of (while s e ts t r) = false
sure_of (jump k s x r) = false

-- whether it has no blocks
abbrev pub blockless : Tree → Bool
blockless (done x) = false
blockless (expr_stmt s e y r) = true
blockless (variable k s n t e r) = true
blockless (assign s e v t x r) = true
blockless (return s e t x r) = true
blockless (bare_return s t x r) = true
blockless (block s c r) = false
blockless (if_else s e ts t us u r) = false
blockless (if_then s e ts t r) = false
blockless (while s e ts t r) = false
blockless (jump k s x r) = true

-- its values, evaluated
abbrev pub valued : Tables → Tree → Scope Status → Scope Status
valued T c σ = after_all T (values_of c) σ

-- the whole statement: its values, its front, its blocks
module _ (w : Switches) (T : Tables) where
  abbrev pub front_own : Tree → Option ℕ → ℕ → Scope Status → Own
  front_own c l at σ = record { bytes = front_bytes w T c l (valued T c σ); reports = told_all T (values_of c) σ ++ front_reports w T c l at (valued T c σ); fits = true }

  abbrev pub own : Tree → ℕ → Option ℕ → ℕ → Scope Status → Own
  own c d l at σ = both (front_own c l at σ) (blocks_own w T c d l (at + front_size c) (valued T c σ))

  abbrev pub own_fault : Tree → ℕ → Scope Status → Option ℕ
  own_fault c d σ = blocks_fault w T c d (valued T c σ)

  abbrev pub own_after : Tree → ℕ → Scope Status → Scope Status
  own_after c d σ = blocks_after w T c d (valued T c σ)
