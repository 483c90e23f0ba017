-- The faults of the walk have numbers above 0, so that 0 says there is none.
-- Assumes nothing.
use Prim.Native.Nat.{ℕ, suc}
use native.Mathlib.Omega.{arith}
use mathlib.Core.Path.{◌≡◌, refl}
use mathlib.Core.Bool.{true, false, not, ◌&&◌}
use mathlib.Core.Option.{Option, none, some}
use Rattle.tables.specs.Limits.{version1}
use Rattle.tables.specs.Tables.{Tables}
use Rattle.tables_lookup.specs.First.{or_else}
use Rattle.image_body.specs.Stmt.{Tree, done, expr_stmt, variable, assign, return, bare_return, block, if_else, if_then, while, jump}
use Rattle.rules.specs.State.{State as Status}
use Rattle.rules.specs.Stack.{Stack as Scope}
use Rattle.rules.specs.Rules.{Switches, states, sure_from, joins, exit}
use Rattle.rules.specs.Walk.{too_wide, walk_fault}
use Rattle.rules.proofs.Numbers.{Real, real-no, real-else, real-many, real-wide, real-walk}
use Rattle.statements_steps.specs.Statement.{settle}
use Rattle.statements_steps.specs.Own.{number_of, blocks_fault}
use Rattle.statements_steps.proofs.Whole.{own_fault, valued}

pub real-none : (x : Option ℕ) → Real x → number_of x ≡ 0 → x ≡ none
real-none none r e = refl
real-none (some n) r e = let k = (r.is n refl).0 in absurd (omega arith)

module _ (w : Switches) (T : Tables) where
  real-blocks : (c : Tree) (d : ℕ) (σ : Scope Status) → Real (blocks_fault w T c d σ)
  real-blocks (done x) d σ = real-no
  real-blocks (expr_stmt s e y r) d σ = real-no
  real-blocks (variable k s n t e r) d σ = real-many version1 (settle T (variable k s n t e r) d σ)
  real-blocks (assign s e v t x r) d σ = real-no
  real-blocks (return s e t x r) d σ = real-no
  real-blocks (bare_return s t x r) d σ = real-no
  real-blocks (block s c r) d σ = real-walk version1 w T c (suc d) σ
  real-blocks (if_else s e ts t us u r) d σ =
      let x = too_wide version1 (not (sure_from t false) && not (sure_from u false)) (joins (states w) (exit (states w) T t (suc d) σ) (exit (states w) T u (suc d) σ)) in
      real-else (walk_fault version1 w T t (suc d) σ) (or_else (walk_fault version1 w T u (suc d) σ) x) (real-walk version1 w T t (suc d) σ)
      (real-else (walk_fault version1 w T u (suc d) σ) x (real-walk version1 w T u (suc d) σ) (real-wide version1 (not (sure_from t false) && not (sure_from u false)) (joins (states w) (exit (states w) T t (suc d) σ) (exit (states w) T u (suc d) σ))))
  real-blocks (if_then s e ts t r) d σ =
      real-else (walk_fault version1 w T t (suc d) σ) (too_wide version1 (not (sure_from t false)) (joins (states w) (exit (states w) T t (suc d) σ) σ)) (real-walk version1 w T t (suc d) σ)
      (real-wide version1 (not (sure_from t false)) (joins (states w) (exit (states w) T t (suc d) σ) σ))
  real-blocks (while s e ts t r) d σ =
      real-else (walk_fault version1 w T t (suc d) σ) (too_wide version1 true (joins (states w) (exit (states w) T t (suc d) σ) σ)) (real-walk version1 w T t (suc d) σ) (real-wide version1 true (joins (states w) (exit (states w) T t (suc d) σ) σ))
  real-blocks (jump k s x r) d σ = real-no

  pub real-own : (c : Tree) (d : ℕ) (σ : Scope Status) → Real (own_fault w T c d σ)
  real-own c d σ = real-blocks c d (valued T c σ)
