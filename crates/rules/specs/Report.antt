-- The returned body, what striking the insertions out gives, and what is reported (document 01, "What is reported").
use Rattle.std.specs.Prelude.{ℕ, suc, ◌+◌, Bool, true, false, cond, ◌&&◌, List, [], ◌∷◌, ◌++◌, length}
use Rattle.std.proofs.Math.Option.{Option, some}
use Rattle.tables.specs.Signature.{Entry}
use Rattle.tables.specs.Tables.{Tables}
use Rattle.image_body.specs.Expr.{Expr, node, none, more}
use Rattle.image_body.specs.Stmt.{Code, Tree, Block, done, expr_stmt, variable, assign, return, bare_return, block, if_else, if_then, while, jump}
use Rattle.image_encoding.specs.Tables.{encode_tables, encode_entry}
use Rattle.image_encoding.specs.Body.{encode_expr, encode_code}
use Rattle.image.specs.Image.{Image}
use Rattle.rules.specs.Questions.{auto}
use Rattle.rules.specs.Expr.{view, is_call, ty_of, callee_at}
use Rattle.rules.specs.Stack.{Static, Local, local, Stack, shape, lookup}
use Rattle.rules.specs.State.{State, alive, gone, deleted, moved, consumed}
use Rattle.rules.specs.Effects.{Effect, use', kill, hand, bad_move, global_move, effects, expr_stmt_effects, assign_effects}
use Rattle.rules.specs.Rules.{Drop, drop_of, Decided, Switches, off, on, states, apply, Place, at_bare_return, at_jump, concerns, gather, declared, evaluate, after_expr, after_variable, before_assign, after_assign, exit, behind_if, behind_then, behind_loop, entered, locals_of, decide_body}

-- a Delete, of type 0
abbrev pub delete_node : ℕ → Expr → Expr
delete_node p e = node (record { tag = 10; span = p; ty = 0; arg = 0 }) (more e none) none

abbrev pub ident_node : ℕ → ℕ → ℕ → Expr
ident_node p t n = node (record { tag = 1; span = p; ty = t; arg = n }) none none

-- delete_stmt_for, of each inserted delete in order
abbrev pub inserts : List Drop → Tree → Tree
inserts [] c = c
inserts (drop_of p n t ∷ x) c = expr_stmt p (delete_node p (ident_node p t n)) tt (inserts x c)

-- the statements that transform_block gives back
abbrev pub flatten : Decided → Tree
flatten (done x) = inserts x (done tt)
flatten (expr_stmt s e y r) = expr_stmt s (cond y (delete_node s e) e) tt (flatten r)
flatten (variable k s n t e r) = variable k s n t e (flatten r)
flatten (assign s e v t x r) = inserts x (assign s e v t tt (flatten r))
flatten (return s e t x r) = inserts x (return s e t tt (flatten r))
flatten (bare_return s t x r) = inserts x (bare_return s t tt (flatten r))
flatten (block s c r) = block s (flatten c) (flatten r)
flatten (if_else s e ts t us u r) = if_else s e ts (flatten t) us (flatten u) (flatten r)
flatten (if_then s e ts t r) = if_then s e ts (flatten t) (flatten r)
flatten (while s e ts t r) = while s e ts (flatten t) (flatten r)
flatten (jump k s x r) = inserts x (jump k s tt (flatten r))

-- the statements alone, without what decorates them
abbrev pub forget : {X Y : Type 0} → Code X Y → Tree
forget (done x) = done tt
forget (expr_stmt s e y r) = expr_stmt s e tt (forget r)
forget (variable k s n t e r) = variable k s n t e (forget r)
forget (assign s e v t x r) = assign s e v t tt (forget r)
forget (return s e t x r) = return s e t tt (forget r)
forget (bare_return s t x r) = bare_return s t tt (forget r)
forget (block s c r) = block s (forget c) (forget r)
forget (if_else s e ts t us u r) = if_else s e ts (forget t) us (forget u) (forget r)
forget (if_then s e ts t r) = if_then s e ts (forget t) (forget r)
forget (while s e ts t r) = while s e ts (forget t) (forget r)
forget (jump k s x r) = jump k s tt (forget r)

-- the insertions struck out, the delete round an unused result among them
abbrev pub strike : Decided → Tree
strike c = forget c

-- the body that the pass gives back
abbrev pub returned_body : Switches → Tables → Entry → Block → Block
returned_body w T x b = record { span = b.span; code = flatten (decide_body w T x b) }

-- an image with other statements in its body
abbrev pub with_code : Image → Tree → Image
with_code i c = record { tables = i.tables; entry = i.entry; body = record { span = i.body.span; code = c } }

-- what the pass decides on an image
abbrev pub decided_image : Switches → Image → Decided
decided_image w i = decide_body w i.tables i.entry i.body

-- the image that the pass gives back
abbrev pub returned_image : Switches → Image → Image
returned_image w i = with_code i (flatten (decided_image w i))

-- An error: kind, place, hint, other places. A warning: the statement's span, and where the callee's tag stands in the image. A
-- left-behind entry: the span of the return, Break or Continue, the name, and the span of the statement that registered it (02, d)
pub data Report : Type 0 where
  error : ℕ → ℕ → ℕ → List ℕ → Report
  warning : ℕ → ℕ → Report
  left : ℕ → ℕ → ℕ → Report

abbrev pub first : List ℕ → List ℕ
first [] = []
first (p ∷ ps) = p ∷ []

-- validate_identifier_use, at a span: kinds 1, 2, 4, 5 give the state's first place, 3 and 6 all
abbrev pub bad_use : ℕ → State → List Report
bad_use s alive = []
bad_use s (gone false deleted ps) = error 1 s 0 (first ps) ∷ []
bad_use s (gone false moved ps) = error 2 s 0 (first ps) ∷ []
bad_use s (gone false consumed ps) = error 3 s 0 ps ∷ []
bad_use s (gone true deleted ps) = error 4 s 0 (first ps) ∷ []
bad_use s (gone true moved ps) = error 5 s 0 (first ps) ∷ []
bad_use s (gone true consumed ps) = error 6 s 0 ps ∷ []

abbrev pub use_of : ℕ → Option (Local State) → List Report
use_of s Option.none = []
use_of s (some (local l a)) = bad_use s a

abbrev pub report_of : Effect → Stack State → List Report
report_of (use' n s) σ = use_of s (lookup n σ)
report_of (kill k n s) σ = []
report_of (hand n s) σ = []
report_of (bad_move s h) σ = error 7 s h [] ∷ []
report_of (global_move s g) σ = error 8 s 0 (g ∷ []) ∷ []

-- effects one after another, each reported before it is applied; the switches play no part in effects
abbrev pub report_all : List Effect → Stack State → List Report
report_all [] σ = []
report_all (e ∷ es) σ = report_of e σ ++ report_all es (apply (states off) e σ)

-- UnusedResultFromFunction, of an expression statement at a position
abbrev pub unused : Bool → ℕ → Expr → ℕ → List Report
unused b s e at = cond b (warning s (callee_at e (at + 5)) ∷ []) []

abbrev pub expr_bytes : Expr → ℕ
expr_bytes e = length (encode_expr e)

abbrev pub code_bytes : Tree → ℕ
code_bytes c = length (encode_code c)

-- the entry of a local that is left behind there
abbrev pub left_at : ℕ → Static → Report
left_at p s = left p s.name s.born

-- What a place leaves behind, if no drop is made there: what it would drop with all switches on; span and place. At a return without a
-- value that is what one with a value that excludes no name would delete
abbrev pub left_behind : Tables → Bool → ℕ → Place → Stack State → List Report
left_behind T made p pl σ = cond made [] (gather (states off) T (λ s. concerns on pl s) (left_at p) σ)

module _ (w : Switches) (T : Tables) where
  -- transform_block: what is reported of the statements of a block of depth d that stand at a position, in walking order; l is the
  -- depth of the nearest loop's body, if they are in a loop
  abbrev pub report : Tree → ℕ → Option ℕ → ℕ → Stack State → List Report
  report (done x) d l at σ = []
  report (expr_stmt s e y r) d l at σ =
      report_all (expr_stmt_effects T (shape σ) e) σ
      ++ (unused (auto T (ty_of e) && is_call (view e)) s e at ++ report r d l (at + 5 + expr_bytes e) (after_expr (states w) T e σ))
  report (variable k s n t e r) d l at σ =
      report_all (effects T (shape σ) e) σ ++ report r d l (at + 9 + expr_bytes e) (after_variable (states w) T (declared d s n t) e σ)
  report (assign s e v t x r) d l at σ =
      report_all (assign_effects T (shape σ) e v) σ
      ++ report r d l (at + 7 + expr_bytes e + expr_bytes v) (after_assign (states w) T e v (before_assign (states w) T e v σ))
  report (return s e t x r) d l at σ = report_all (effects T (shape σ) e) σ ++ report r d l (at + 8 + expr_bytes e) (evaluate (states w) T e σ)
  report (bare_return s t x r) d l at σ = left_behind T w.bare_returns s at_bare_return σ ++ report r d l (at + 8) σ
  report (block s c r) d l at σ = report c (suc d) l (at + 7) σ ++ report r d l (at + 7 + code_bytes c) (exit (states w) T c (suc d) σ)
  report (if_else s e ts t us u r) d l at σ =
      report_all (effects T (shape σ) e) σ
      ++ (report t (suc d) l (at + 11 + expr_bytes e) (evaluate (states w) T e σ)
      ++ (report u (suc d) l (at + 18 + expr_bytes e + code_bytes t) (evaluate (states w) T e σ)
      ++ report r d l (at + 18 + expr_bytes e + code_bytes t + code_bytes u) (behind_if (states w) T e t u d σ)))
  report (if_then s e ts t r) d l at σ =
      report_all (effects T (shape σ) e) σ
      ++ (report t (suc d) l (at + 11 + expr_bytes e) (evaluate (states w) T e σ)
      ++ report r d l (at + 12 + expr_bytes e + code_bytes t) (behind_then (states w) T e t d σ))
  report (while s e ts t r) d l at σ =
      report_all (effects T (shape σ) e) σ
      ++ (report t (suc d) (some (suc d)) (at + 11 + expr_bytes e) (evaluate (states w) T e σ)
      ++ report r d l (at + 11 + expr_bytes e + code_bytes t) (behind_loop (states w) T e t d σ))
  report (jump k s x r) d l at σ = left_behind T w.jumps s (at_jump l) σ ++ report r d l (at + 5) σ

-- where the body's first statement stands: behind length and version, the tables, the entry, the block's span and count
abbrev pub body_start : Image → ℕ
body_start i = 11 + length (encode_tables i.tables) + length (encode_entry i.entry)

-- what is reported of an image
abbrev pub reports : Switches → Image → List Report
reports w i = report w i.tables i.body.code 1 Option.none (body_start i) (entered (states w) i.tables (locals_of i.entry) [])

-- the three lists
abbrev pub errors : List Report → List Report
errors [] = []
errors (error k p h ps ∷ rs) = error k p h ps ∷ errors rs
errors (warning s o ∷ rs) = errors rs
errors (left s n b ∷ rs) = errors rs

abbrev pub warnings : List Report → List Report
warnings [] = []
warnings (error k p h ps ∷ rs) = warnings rs
warnings (warning s o ∷ rs) = warning s o ∷ warnings rs
warnings (left s n b ∷ rs) = warnings rs

abbrev pub lefts : List Report → List Report
lefts [] = []
lefts (error k p h ps ∷ rs) = lefts rs
lefts (warning s o ∷ rs) = lefts rs
lefts (left s n b ∷ rs) = left s n b ∷ lefts rs
