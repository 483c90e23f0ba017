-- The faults of the walk (document 01, "Faults"): 12, a local more than the limit registered at one time; 13, a joined state with a place
-- more than the limit. The first in walking order. The rules themselves know no limits.
use Rattle.std.specs.Prelude.{ℕ, suc, Bool, true, false, cond, not, ◌&&◌, ◌||◌, List, [], ◌∷◌, length, nat_lt}
use Rattle.std.proofs.Math.Option.{Option, some}
use Rattle.tables.specs.Limits.{Limits}
use Rattle.tables.specs.Tables.{Tables}
use Rattle.tables_lookup.specs.First.{or_else}
use Rattle.image_body.specs.Stmt.{Tree, done, expr_stmt, variable, assign, return, bare_return, block, if_else, if_then, while, jump}
use Rattle.image.specs.Image.{Image}
use Rattle.rules.specs.Stack.{local, Stack}
use Rattle.rules.specs.State.{State, alive, gone}
use Rattle.rules.specs.Rules.{Switches, states, joins, sure_from, declared, evaluate, after_expr, after_variable, before_assign, after_assign, exit, behind_if, behind_then, behind_loop, entered, locals_of}

abbrev pub places_of : State → List ℕ
places_of alive = []
places_of (gone c k ps) = ps

module _ (L : Limits) where
  -- 12, once a local is registered
  abbrev pub too_many : Stack State → Option ℕ
  too_many σ = cond (nat_lt L.locals (length σ)) (some 12) Option.none

  -- a state with more places than there is room for
  unfoldable pub crowded : Stack State → Bool
  crowded [] = false
  crowded (local s a ∷ σ) = nat_lt L.places (length (places_of a)) || crowded σ

  -- 13, where a join is made
  abbrev pub too_wide : Bool → Stack State → Option ℕ
  too_wide joined σ = cond (joined && crowded σ) (some 13) Option.none

  module _ (w : Switches) (T : Tables) where
    -- transform_block: the statements of a block of depth d
    unfoldable pub walk_fault : Tree → ℕ → Stack State → Option ℕ
    walk_fault (done x) d σ = Option.none
    walk_fault (expr_stmt s e y r) d σ = walk_fault r d (after_expr (states w) T e σ)
    walk_fault (variable k s n t e r) d σ = or_else (too_many (after_variable (states w) T (declared d s n t) e σ)) (walk_fault r d (after_variable (states w) T (declared d s n t) e σ))
    walk_fault (assign s e v t x r) d σ = walk_fault r d (after_assign (states w) T e v (before_assign (states w) T e v σ))
    walk_fault (return s e t x r) d σ = walk_fault r d (evaluate (states w) T e σ)
    walk_fault (bare_return s t x r) d σ = walk_fault r d σ
    walk_fault (block s c r) d σ = or_else (walk_fault c (suc d) σ) (walk_fault r d (exit (states w) T c (suc d) σ))
    walk_fault (if_else s e ts t us u r) d σ =
        or_else (walk_fault t (suc d) (evaluate (states w) T e σ))
        (or_else (walk_fault u (suc d) (evaluate (states w) T e σ))
        (or_else (too_wide (not (sure_from t false) && not (sure_from u false))
        (joins (states w) (exit (states w) T t (suc d) (evaluate (states w) T e σ)) (exit (states w) T u (suc d) (evaluate (states w) T e σ))))
        (walk_fault r d (behind_if (states w) T e t u d σ))))
    walk_fault (if_then s e ts t r) d σ =
        or_else (walk_fault t (suc d) (evaluate (states w) T e σ))
        (or_else (too_wide (not (sure_from t false)) (joins (states w) (exit (states w) T t (suc d) (evaluate (states w) T e σ)) (evaluate (states w) T e σ)))
        (walk_fault r d (behind_then (states w) T e t d σ)))
    walk_fault (while s e ts t r) d σ =
        or_else (walk_fault t (suc d) (evaluate (states w) T e σ))
        (or_else (too_wide true (behind_loop (states w) T e t d σ))
        (walk_fault r d (behind_loop (states w) T e t d σ)))
    walk_fault (jump k s x r) d σ = walk_fault r d σ

  -- of a whole image: `this` and the parameters are registered first
  unfoldable pub image_fault : Switches → Image → Option ℕ
  image_fault w i =
      or_else (too_many (entered (states w) i.tables (locals_of i.entry) []))
      (walk_fault w i.tables i.body.code 1 (entered (states w) i.tables (locals_of i.entry) []))
