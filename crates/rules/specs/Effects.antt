-- What an expression does to the locals, in the order of mod.rs's validate_expr. The tables and the expression say all but which
-- names are locals (`raws`); the stack says that (`resolve`). The pass and a run apply the same effects.
use Rattle.std.specs.Prelude.{ℕ, Bool, cond, not, ◌&&◌, List, [], ◌∷◌, ◌++◌, ◌==◌, slice_index}
use Rattle.std.proofs.Math.Option.{Option, some}
use Rattle.tables.specs.Tables.{Tables}
use Rattle.image_body.specs.Expr.{Head, Expr, Exprs, node, none, more, count_width, head_of, through}
use Rattle.rules.specs.Questions.{is_temp_of, is_move_of, consumes, global_in}
use Rattle.rules.specs.Expr.{View, Named, an_ident, a_this, a_field, a_delete, a_call, other, nobody, called, view, name_in}
use Rattle.rules.specs.Stack.{Static, Shape, has, static_of}
use Rattle.rules.specs.State.{Kind, deleted, moved, consumed}

-- A use, a giving up and a hand-over have a name and a place; a bad move a place and a hint; the move of a global a place and the
-- place of its definition.
pub data Effect : Type 0 where
  use' : ℕ → ℕ → Effect
  kill : Kind → ℕ → ℕ → Effect
  hand : ℕ → ℕ → Effect
  bad_move : ℕ → ℕ → Effect
  global_move : ℕ → ℕ → Effect

-- The same, whichever names are locals. A use, the hand-over of a temporary and the consumption of a receiver have a name and a
-- place; the move of an Ident or of `this` that is no global a name, a place and whether it is a temporary; the move of a global a
-- place and the place of its definition; a move of anything else a place.
pub data Raw : Type 0 where
  uses : ℕ → ℕ → Raw
  hands : ℕ → ℕ → Raw
  gives : ℕ → ℕ → Raw
  moves : ℕ → ℕ → Bool → Raw
  moves_global : ℕ → ℕ → Raw
  moves_none : ℕ → Raw

-- by tag: 1 if the node takes its items over (Call, Obj), or its child (ListLiteralWithSize)
unfoldable pub takes : List ℕ
takes = 0 ∷ 0 ∷ 0 ∷ 0 ∷ 0 ∷ 0 ∷ 1 ∷ 0 ∷ 1 ∷ 1 ∷ 0 ∷ 0 ∷ 0 ∷ 0 ∷ 0 ∷ 0 ∷ []

-- whether children before a count of k bytes are handed over: the callee, before a counted list, is not
unfoldable pub handed : ℕ → ℕ → Bool
handed k tag = k == 0 && slice_index takes tag == 1

module _ (T : Tables) where
  -- validate_identifier_use, of an Ident or a ThisLiteral
  abbrev pub own : Head → List Raw
  own h = cond (h.tag == 1) (uses h.arg h.span ∷ []) (cond (h.tag == 2) (uses 0 h.span ∷ []) [])

  abbrev pub hand_name : ℕ → ℕ → List Raw
  hand_name n p = cond (is_temp_of T n) (hands n p ∷ []) []

  abbrev pub hand_head : Head → List Raw
  hand_head h = cond (h.tag == 1) (hand_name h.arg h.span) (cond (h.tag == 2) (hand_name 0 h.span) [])

  -- mark_compiler_temp_consumed
  abbrev pub hand_if : Bool → Expr → List Raw
  hand_if b e = cond b (hand_head (head_of (through e))) []

  -- consuming_method_receiver: span and name of the field access, type of its target as it stands, the target looked through
  abbrev pub consume : ℕ → ℕ → ℕ → Head → List Raw
  consume p m ty h = cond (h.tag == 1) (cond (consumes T ty m) (gives h.arg p ∷ []) []) []

  abbrev pub field_call : Expr → List Raw
  field_call (node h none xs) = []
  field_call (node h (more t ts) xs) = cond (h.tag == 11) (consume h.span h.arg (head_of t).ty (head_of (through t))) []

  abbrev pub receiver : Exprs → List Raw
  receiver none = []
  receiver (more f fs) = field_call (through f)

  -- validate_move_argument
  abbrev pub move_local : ℕ → ℕ → Raw
  move_local n p = moves n p (is_temp_of T n)

  abbrev pub move_global : ℕ → ℕ → Option ℕ → Raw
  move_global n p Option.none = move_local n p
  move_global n p (some def) = moves_global p def

  abbrev pub move_ident : ℕ → ℕ → Raw
  move_ident n p = move_global n p (global_in T n)

  abbrev pub move_head : ℕ → Head → Raw
  move_head q h = cond (h.tag == 1) (move_ident h.arg h.span) (cond (h.tag == 2) (move_local 0 h.span) (moves_none q))

  abbrev pub move_first : Exprs → List Raw
  move_first none = []
  move_first (more e es) = move_head (head_of e).span (head_of (through e)) ∷ []

  -- what a node does once its children are evaluated: a Call consumes its receiver, `std::move` moves its first argument
  unfoldable pub finish : Expr → List Raw
  finish (node h ks xs) =
      cond (h.tag == 6) (receiver ks) (cond (h.tag == 14) (cond (is_move_of T h.arg) (move_first xs) []) [])

  -- a node's own use, its children, its items, and what it does then
  unfoldable mutual
    pub raws : Expr → List Raw
    raws (node h ks xs) =
        own h ++ (group (handed (slice_index count_width h.tag) h.tag) ks ++ (group (handed 0 h.tag) xs ++ finish (node h ks xs)))

    -- children in order, each followed by its hand-over if b
    pub group : Bool → Exprs → List Raw
    group b none = []
    group b (more e es) = raws e ++ (hand_if b e ++ group b es)

-- only a local is handed over, consumed or moved; hints of a bad move: 1 an expression, 2 no such local, 3 a temporary
abbrev pub resolve : Shape → Raw → List Effect
resolve Γ (uses n p) = use' n p ∷ []
resolve Γ (hands n p) = cond (has n Γ) (hand n p ∷ []) []
resolve Γ (gives n p) = cond (has n Γ) (kill consumed n p ∷ []) []
resolve Γ (moves n p t) = cond (has n Γ) (cond t (bad_move p 3) (kill moved n p)) (bad_move p 2) ∷ []
resolve Γ (moves_global p def) = global_move p def ∷ []
resolve Γ (moves_none p) = bad_move p 1 ∷ []

unfoldable pub resolve_all : Shape → List Raw → List Effect
resolve_all Γ [] = []
resolve_all Γ (r ∷ rs) = resolve Γ r ++ resolve_all Γ rs

module _ (T : Tables) (Γ : Shape) where
  -- validate_expr
  unfoldable pub effects : Expr → List Effect
  unfolding raws resolve_all
  effects e = resolve_all Γ (raws T e)

  abbrev pub deleted_by : Named → List Effect
  deleted_by nobody = []
  deleted_by (called n s) = kill deleted n s ∷ []

  abbrev pub deleted_in : View → List Effect
  deleted_in (an_ident n s) = []
  deleted_in (a_this s) = []
  deleted_in (a_field s e m) = []
  deleted_in (a_delete e) = deleted_by (name_in (view e))
  deleted_in (a_call f) = []
  deleted_in other = []

  -- an expression statement: its expression, then deleted_identifier
  unfoldable pub expr_stmt_effects : Expr → List Effect
  expr_stmt_effects e = effects e ++ deleted_in (view e)

  abbrev pub ty_is : ℕ → Option Static → Bool
  ty_is t Option.none = Bool.false
  ty_is t (some s) = s.ty == t

  -- consumed_compiler_temp_from_value: the value is a temporary of the destination's type, the destination no temporary
  abbrev pub take_named : ℕ → ℕ → Named → List Effect
  take_named n t nobody = []
  take_named n t (called m s) =
      cond (not (m == n) && is_temp_of T m && not (is_temp_of T n) && ty_is t (static_of m Γ)) (kill deleted m s ∷ []) []

  unfoldable pub take_over : ℕ → ℕ → Expr → List Effect
  take_over n t e = take_named n t (name_in (view e))

  abbrev pub take_from : ℕ → Option Static → Expr → List Effect
  take_from n Option.none e = []
  take_from n (some s) e = take_over n s.ty e

  abbrev pub take_assigned : Named → Expr → List Effect
  take_assigned nobody e = []
  take_assigned (called n s) e = take_from n (static_of n Γ) e

  -- an assignment's expressions: the destination, then the value
  unfoldable pub assign_effects : Expr → Expr → List Effect
  assign_effects dst val = effects dst ++ effects val

  -- consumed_compiler_temp_from_assign
  unfoldable pub assign_takes : Expr → Expr → List Effect
  assign_takes dst val = take_assigned (name_in (view dst)) val
