-- Where a path leads in the submitted statements, and the stack that is there.
-- Assumes nothing.
use Rattle.std.proofs.Common.{ℕ, suc, Bool, true, false, cond, ◌&&◌, List, [], ◌∷◌}
use mathlib.Core.Option.{Option, none, some}
use Rattle.tables.specs.Tables.{Tables}
use Rattle.image_body.specs.Stmt.{Tree, done, expr_stmt, variable, assign, return, bare_return, block, if_else, if_then, while, jump}
use Rattle.rules.specs.Expr.{view, name_in}
use Rattle.rules.specs.Stack.{Stack}
use Rattle.rules.specs.Rules.{Alg, Drop, Policy, sure_from, declared, evaluate, after_expr, after_variable, before_assign, after_assign, exit, behind_if, behind_then, behind_loop, end_drops, return_drops, bare_return_drops, jump_drops, assign_drops}
use Rattle.rules.specs.Run.{Path, next, into, second}

-- the block's span and depth, the depth of the nearest loop's body, whether the statement before surely returns, the statements left, the stack
pub data Spot (A : Type 0) : Type 0 where
  spot : ℕ → ℕ → Option ℕ → Bool → Tree → Stack A → Spot A

module _ {A : Type 0} (𝓐 : Alg A) (T : Tables) where
  abbrev pub spot_at : Tree → ℕ → ℕ → Option ℕ → Bool → Stack A → Path → Option (Spot A)
  spot_at (done x) p d l f σ [] = some (spot p d l f (done x) σ)
  spot_at (done x) p d l f σ (y ∷ q) = none
  spot_at (expr_stmt s e y r) p d l f σ [] = some (spot p d l f (expr_stmt s e y r) σ)
  spot_at (expr_stmt s e y r) p d l f σ (next ∷ q) = spot_at r p d l false (after_expr 𝓐 T e σ) q
  spot_at (expr_stmt s e y r) p d l f σ (into ∷ q) = none
  spot_at (expr_stmt s e y r) p d l f σ (second ∷ q) = none
  spot_at (variable k s n t e r) p d l f σ [] = some (spot p d l f (variable k s n t e r) σ)
  spot_at (variable k s n t e r) p d l f σ (next ∷ q) = spot_at r p d l false (after_variable 𝓐 T (declared d s n t) e σ) q
  spot_at (variable k s n t e r) p d l f σ (into ∷ q) = none
  spot_at (variable k s n t e r) p d l f σ (second ∷ q) = none
  spot_at (assign s e v t x r) p d l f σ [] = some (spot p d l f (assign s e v t x r) σ)
  spot_at (assign s e v t x r) p d l f σ (next ∷ q) = spot_at r p d l false (after_assign 𝓐 T e v (before_assign 𝓐 T e v σ)) q
  spot_at (assign s e v t x r) p d l f σ (into ∷ q) = none
  spot_at (assign s e v t x r) p d l f σ (second ∷ q) = none
  spot_at (return s e t x r) p d l f σ [] = some (spot p d l f (return s e t x r) σ)
  spot_at (return s e t x r) p d l f σ (next ∷ q) = spot_at r p d l true (evaluate 𝓐 T e σ) q
  spot_at (return s e t x r) p d l f σ (into ∷ q) = none
  spot_at (return s e t x r) p d l f σ (second ∷ q) = none
  spot_at (bare_return s t x r) p d l f σ [] = some (spot p d l f (bare_return s t x r) σ)
  spot_at (bare_return s t x r) p d l f σ (next ∷ q) = spot_at r p d l true σ q
  spot_at (bare_return s t x r) p d l f σ (into ∷ q) = none
  spot_at (bare_return s t x r) p d l f σ (second ∷ q) = none
  spot_at (block s c r) p d l f σ [] = some (spot p d l f (block s c r) σ)
  spot_at (block s c r) p d l f σ (next ∷ q) = spot_at r p d l (sure_from c false) (exit 𝓐 T c (suc d) σ) q
  spot_at (block s c r) p d l f σ (into ∷ q) = spot_at c s (suc d) l false σ q
  spot_at (block s c r) p d l f σ (second ∷ q) = none
  spot_at (if_else s e ts t us u r) p d l f σ [] = some (spot p d l f (if_else s e ts t us u r) σ)
  spot_at (if_else s e ts t us u r) p d l f σ (next ∷ q) =
      spot_at r p d l (sure_from t false && sure_from u false) (behind_if 𝓐 T e t u d σ) q
  spot_at (if_else s e ts t us u r) p d l f σ (into ∷ q) = spot_at t ts (suc d) l false (evaluate 𝓐 T e σ) q
  spot_at (if_else s e ts t us u r) p d l f σ (second ∷ q) = spot_at u us (suc d) l false (evaluate 𝓐 T e σ) q
  spot_at (if_then s e ts t r) p d l f σ [] = some (spot p d l f (if_then s e ts t r) σ)
  spot_at (if_then s e ts t r) p d l f σ (next ∷ q) = spot_at r p d l false (behind_then 𝓐 T e t d σ) q
  spot_at (if_then s e ts t r) p d l f σ (into ∷ q) = spot_at t ts (suc d) l false (evaluate 𝓐 T e σ) q
  spot_at (if_then s e ts t r) p d l f σ (second ∷ q) = none
  spot_at (while s e ts t r) p d l f σ [] = some (spot p d l f (while s e ts t r) σ)
  spot_at (while s e ts t r) p d l f σ (next ∷ q) = spot_at r p d l false (behind_loop 𝓐 T e t d σ) q
  spot_at (while s e ts t r) p d l f σ (into ∷ q) = spot_at t ts (suc d) (some (suc d)) false (evaluate 𝓐 T e σ) q
  spot_at (while s e ts t r) p d l f σ (second ∷ q) = none
  spot_at (jump k s x r) p d l f σ [] = some (spot p d l f (jump k s x r) σ)
  spot_at (jump k s x r) p d l f σ (next ∷ q) = spot_at r p d l false σ q
  spot_at (jump k s x r) p d l f σ (into ∷ q) = none
  spot_at (jump k s x r) p d l f σ (second ∷ q) = none

  -- the deletes put in there
  abbrev pub drops_here : Policy → Tree → ℕ → ℕ → Option ℕ → Bool → Stack A → List Drop
  drops_here 𝓟 (done x) p d l f σ = cond f [] (end_drops 𝓐 T 𝓟 d p σ)
  drops_here 𝓟 (expr_stmt s e y r) p d l f σ = []
  drops_here 𝓟 (variable k s n t e r) p d l f σ = []
  drops_here 𝓟 (assign s e v t x r) p d l f σ = assign_drops 𝓐 T 𝓟 s e (before_assign 𝓐 T e v σ)
  drops_here 𝓟 (return s e t x r) p d l f σ = return_drops 𝓐 T 𝓟 (name_in (view e)) (evaluate 𝓐 T e σ)
  drops_here 𝓟 (bare_return s t x r) p d l f σ = bare_return_drops 𝓐 T 𝓟 σ
  drops_here 𝓟 (block s c r) p d l f σ = []
  drops_here 𝓟 (if_else s e ts t us u r) p d l f σ = []
  drops_here 𝓟 (if_then s e ts t r) p d l f σ = []
  drops_here 𝓟 (while s e ts t r) p d l f σ = []
  drops_here 𝓟 (jump k s x r) p d l f σ = jump_drops 𝓐 T 𝓟 l σ

  abbrev pub drops_of : Policy → Option (Spot A) → List Drop
  drops_of 𝓟 none = []
  drops_of 𝓟 (some (spot p d l f c σ)) = drops_here 𝓟 c p d l f σ
