-- A statement at the head of a list, up to its blocks: the arms of transform_block once the statement's values are evaluated, σ being
-- the locals then.
use Rattle.std.specs.Prelude.{ℕ, ◌+◌, Bool, cond, ◌&&◌, List, [], ◌∷◌, ◌++◌}
use Rattle.std.proofs.Math.Option.{Option}
use Rattle.image_fields.specs.Bytes.{two_bytes, four_bytes}
use Rattle.tables.specs.Tables.{Tables}
use Rattle.image_body.specs.Stmt.{Tree, done, expr_stmt, variable, assign, return, bare_return, block, if_else, if_then, while, jump}
use Rattle.image_encoding.specs.Body.{encode_expr}
use Rattle.rules.specs.Questions.{auto}
use Rattle.rules.specs.Expr.{view, name_in, is_call, ty_of}
use Rattle.rules.specs.State.{State as Status}
use Rattle.rules.specs.Stack.{shape, Stack as Scope}
use Rattle.rules.specs.Effects.{deleted_in, take_over}
use Rattle.rules.specs.Rules.{Drop, Switches, off, states, concerns, at_bare_return, at_jump, declared, apply_all, register, assign_drops, return_drops, bare_return_drops, jump_drops, after_assign}
use Rattle.rules.specs.Report.{Report, delete_node, unused, left_behind, expr_bytes}
use Rattle.statements_steps.specs.Drops.{delete_bytes}

-- the bytes it takes in the submitted image up to its blocks
abbrev pub front_size : Tree → ℕ
front_size (done x) = 0
front_size (expr_stmt s e y r) = 5 + expr_bytes e
front_size (variable k s n t e r) = 9 + expr_bytes e
front_size (assign s e v t x r) = 7 + expr_bytes e + expr_bytes v
front_size (return s e t x r) = 8 + expr_bytes e
front_size (bare_return s t x r) = 8
front_size (block s c r) = 1
front_size (if_else s e ts t us u r) = 5 + expr_bytes e
front_size (if_then s e ts t r) = 5 + expr_bytes e
front_size (while s e ts t r) = 5 + expr_bytes e
front_size (jump k s x r) = 5

module _ (T : Tables) where
  -- whether an unused result is deleted
  abbrev pub wrapped : Tree → Bool
  wrapped (done x) = Bool.false
  wrapped (expr_stmt s e y r) = auto T (ty_of e) && is_call (view e)
  wrapped (variable k s n t e r) = Bool.false
  wrapped (assign s e v t x r) = Bool.false
  wrapped (return s e t x r) = Bool.false
  wrapped (bare_return s t x r) = Bool.false
  wrapped (block s c r) = Bool.false
  wrapped (if_else s e ts t us u r) = Bool.false
  wrapped (if_then s e ts t r) = Bool.false
  wrapped (while s e ts t r) = Bool.false
  wrapped (jump k s x r) = Bool.false

  -- its own bytes up to its blocks, as given back
  abbrev pub own_bytes : Tree → List ℕ
  own_bytes (done x) = []
  own_bytes (expr_stmt s e y r) = 3 ∷ (four_bytes s ++ encode_expr (cond (wrapped (expr_stmt s e y r)) (delete_node s e) e))
  own_bytes (variable k s n t e r) = cond k 5 4 ∷ (four_bytes s ++ (two_bytes n ++ (two_bytes t ++ encode_expr e)))
  own_bytes (assign s e v t x r) = 6 ∷ (four_bytes s ++ (encode_expr e ++ (encode_expr v ++ two_bytes t)))
  own_bytes (return s e t x r) = 2 ∷ (four_bytes s ++ (1 ∷ (encode_expr e ++ two_bytes t)))
  own_bytes (bare_return s t x r) = 2 ∷ (four_bytes s ++ (0 ∷ two_bytes t))
  own_bytes (block s c r) = 1 ∷ []
  own_bytes (if_else s e ts t us u r) = 7 ∷ (four_bytes s ++ encode_expr e)
  own_bytes (if_then s e ts t r) = 7 ∷ (four_bytes s ++ encode_expr e)
  own_bytes (while s e ts t r) = 8 ∷ (four_bytes s ++ encode_expr e)
  own_bytes (jump k s x r) = cond k 10 9 ∷ four_bytes s

  -- the locals behind it, in a block of depth d, if it has no blocks
  abbrev pub settle : Tree → ℕ → Scope Status → Scope Status
  settle (done x) d σ = σ
  settle (expr_stmt s e y r) d σ = apply_all (states off) (deleted_in T (shape σ) (view e)) σ
  settle (variable k s n t e r) d σ = apply_all (states off) (take_over T (shape σ) n t e) (register (states off) (declared d s n t) σ)
  settle (assign s e v t x r) d σ = after_assign (states off) T e v σ
  settle (return s e t x r) d σ = σ
  settle (bare_return s t x r) d σ = σ
  settle (block s c r) d σ = σ
  settle (if_else s e ts t us u r) d σ = σ
  settle (if_then s e ts t r) d σ = σ
  settle (while s e ts t r) d σ = σ
  settle (jump k s x r) d σ = σ

module _ (w : Switches) (T : Tables) where
  -- the deletes put before it, l being the depth of the nearest loop's body, if any
  abbrev pub front_drops : Tree → Option ℕ → Scope Status → List Drop
  front_drops (done x) l σ = []
  front_drops (expr_stmt s e y r) l σ = []
  front_drops (variable k s n t e r) l σ = []
  front_drops (assign s e v t x r) l σ = assign_drops (states w) T (concerns w) s e σ
  front_drops (return s e t x r) l σ = return_drops (states w) T (concerns w) (name_in (view e)) σ
  front_drops (bare_return s t x r) l σ = bare_return_drops (states w) T (concerns w) σ
  front_drops (block s c r) l σ = []
  front_drops (if_else s e ts t us u r) l σ = []
  front_drops (if_then s e ts t r) l σ = []
  front_drops (while s e ts t r) l σ = []
  front_drops (jump k s x r) l σ = jump_drops (states w) T (concerns w) l σ

  abbrev pub front_bytes : Tree → Option ℕ → Scope Status → List ℕ
  front_bytes c l σ = delete_bytes (front_drops c l σ) ++ own_bytes T c

  -- the warning of an unused result, and what a return without a value, a Break or a Continue leaves behind
  abbrev pub front_reports : Tree → Option ℕ → ℕ → Scope Status → List Report
  front_reports (done x) l at σ = []
  front_reports (expr_stmt s e y r) l at σ = unused (wrapped T (expr_stmt s e y r)) s e at
  front_reports (variable k s n t e r) l at σ = []
  front_reports (assign s e v t x r) l at σ = []
  front_reports (return s e t x r) l at σ = []
  front_reports (bare_return s t x r) l at σ = left_behind T w.bare_returns s at_bare_return σ
  front_reports (block s c r) l at σ = []
  front_reports (if_else s e ts t us u r) l at σ = []
  front_reports (if_then s e ts t r) l at σ = []
  front_reports (while s e ts t r) l at σ = []
  front_reports (jump k s x r) l at σ = left_behind T w.jumps s (at_jump l) σ
