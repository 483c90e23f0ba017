-- The scope stack as mod.rs keeps it: frames, innermost first, each with its locals and a map from names to states. What the pass
-- does to them, and the rules of Rules.antt on them, all switches off: there the Rust is the measure.
use Rattle.std.proofs.Common.{ℕ, ◌+◌, Bool, true, false, cond, not, ◌&&◌, eqb, leb, List, [], ◌∷◌, ◌++◌, length}
use mathlib.Core.Option.{Option, none, some}
use Rattle.tables.specs.Signature.{Param, Entry}
use Rattle.tables.specs.Tables.{Tables}
use Rattle.image_body.specs.Expr.{Expr}
use Rattle.image_body.specs.Stmt.{Code, Tree, Block, done, expr_stmt, variable, assign, return, bare_return, block, if_else, if_then, while, jump}
use Rattle.image.specs.Image.{Image}
use Rattle.rules.specs.Questions.{auto, is_temp_of}
use Rattle.rules.specs.Expr.{Named, nobody, called, view, ident_in, name_in, is_call, ty_of}
use Rattle.rules.specs.Stack.{Static, Shape}
use Rattle.rules.specs.State.{deleted, moved, consumed, State, alive, gone, is_alive, join_state}
use Rattle.rules.specs.Effects.{Effect, use', kill, hand, bad_move, global_move, effects, expr_stmt_effects, take_over, assign_effects, assign_takes}
use Rattle.rules.specs.Rules.{Drop, drop_of, Decided, sure_from, excludes, locals_of}
use Rattle.rules.specs.Report.{Report, error, left, bad_use, unused, expr_bytes, code_bytes, body_start}

-- LocalVar, and the span of the statement that registered it (02, d); is_compiler_temp is a question to its name
pub record Var : Type 0 where
  pub name : ℕ
  pub ty : ℕ
  pub born : ℕ

-- HashMap<&str, OwnershipState>: what get says of each name
abbrev pub States : Type 0
States = ℕ → Option State

-- HashMap::insert
abbrev pub insert : ℕ → State → States → States
insert n a m k = cond (eqb k n) (some a) (m k)

-- HashMap::contains_key, of what get says
abbrev pub is_some : {A : Type 0} → Option A → Bool
is_some none = false
is_some (some a) = true

-- matches!(.., Some(OwnershipState::Alive))
abbrev pub is_live : Option State → Bool
is_live none = false
is_live (some a) = is_alive a

-- ScopeFrame: the locals, newest first, and the states
pub data Frame : Type 0 where
  frame : List Var → States → Frame

abbrev pub Frames : Type 0
Frames = List Frame

-- scope_stack.push(ScopeFrame::default())
abbrev pub push : Frames → Frames
push fs = frame [] (λ n. none) ∷ fs

-- scope_stack.pop()
abbrev pub pop_frame : Frames → Frames
pop_frame [] = []
pop_frame (f ∷ fs) = fs

-- register_local
abbrev pub register_local : Var → Frames → Frames
register_local v [] = []
register_local v (frame ls m ∷ fs) = frame (v ∷ ls) (insert v.name alive m) ∷ fs

-- the local of a Let or Const, and that of a parameter or `this`
abbrev pub declared_var : ℕ → ℕ → ℕ → Var
declared_var s n t = record { name = n; ty = t; born = s }

abbrev pub given_var : Param → Var
given_var x = record { name = x.name; ty = x.ty; born = 0 }

-- run_ownership_for_method_body, run_ownership_for_body: the locals a body is entered with
abbrev pub entered_frames : List Param → Frames → Frames
entered_frames [] fs = fs
entered_frames (x ∷ xs) fs = entered_frames xs (register_local (given_var x) fs)

-- the first, or else the second
abbrev pub or_else : {A : Type 0} → Option A → Option A → Option A
or_else none y = y
or_else (some x) y = some x

-- locals.iter().rev().find(|v| v.name == name)
abbrev pub newest : ℕ → List Var → Option Var
newest n [] = none
newest n (v ∷ ls) = cond (eqb v.name n) (some v) (newest n ls)

-- find_local
abbrev pub find_local : ℕ → Frames → Option Var
find_local n [] = none
find_local n (frame ls m ∷ fs) = or_else (newest n ls) (find_local n fs)

-- find_state
abbrev pub find_state : ℕ → Frames → Option State
find_state n [] = none
find_state n (frame ls m ∷ fs) = or_else (m n) (find_state n fs)

-- what mark_deleted, mark_moved, mark_consumed and mark_assigned_alive do: insert into the innermost frame whose map has the name
abbrev pub mark_as : ℕ → State → Frames → Frames
mark_as n a [] = []
mark_as n a (frame ls m ∷ fs) = cond (is_some (m n)) (frame ls (insert n a m) ∷ fs) (frame ls m ∷ mark_as n a fs)

-- mark_deleted
abbrev pub mark_deleted : ℕ → ℕ → Frames → Frames
mark_deleted n p fs = mark_as n (gone false deleted (p ∷ [])) fs

-- mark_moved
abbrev pub mark_moved : ℕ → ℕ → Frames → Frames
mark_moved n p fs = mark_as n (gone false moved (p ∷ [])) fs

-- mark_consumed
abbrev pub mark_consumed : ℕ → ℕ → Frames → Frames
mark_consumed n p fs = mark_as n (gone false consumed (p ∷ [])) fs

-- mark_assigned_alive, of the destination's name
abbrev pub mark_alive : Named → Frames → Frames
mark_alive nobody fs = fs
mark_alive (called n s) fs = mark_as n alive fs

abbrev pub move_if : Bool → ℕ → ℕ → Frames → Frames
move_if true n p fs = mark_moved n p fs
move_if false n p fs = fs

-- mark_compiler_temp_consumed, of a local that is a temporary
abbrev pub hand_temp : ℕ → ℕ → Frames → Frames
hand_temp n p fs = move_if (is_live (find_state n fs)) n p fs

-- mark_compiler_temp_consumed, of a name
abbrev pub hand_local : Tables → ℕ → ℕ → Frames → Frames
hand_local T n p fs = cond (is_some (find_local n fs) && is_temp_of T n) (hand_temp n p fs) fs

-- merge_control_flow_states, of one name: does then, does else surely return; base, then, else
abbrev pub merge_state : Bool → Bool → State → State → State → State
merge_state true true a b c = a
merge_state true false a b c = c
merge_state false true a b c = b
merge_state false false a b c = join_state false b c

-- unwrap_or
abbrev pub unwrap_or : Option State → State → State
unwrap_or none a = a
unwrap_or (some b) a = b

-- a name that the base frame's map has; then's and else's states are the base's where they have none
abbrev pub merge_name : Bool → Bool → Option State → Option State → Option State → Option State
merge_name f g none y z = none
merge_name f g (some a) y z = some (merge_state f g a (unwrap_or y a) (unwrap_or z a))

-- Vec::get(i): the frame with i frames outside it
abbrev pub frame_at : ℕ → Frames → Option Frame
frame_at i [] = none
frame_at i (f ∷ fs) = cond (eqb (length fs) i) (some f) (frame_at i fs)

-- else_stack.and_then(|stack| stack.get(i))
abbrev pub else_at : ℕ → Option Frames → Option Frame
else_at i none = none
else_at i (some fs) = frame_at i fs

abbrev pub get_in : Option Frame → States
get_in none n = none
get_in (some (frame ls m)) n = m n

abbrev pub merge_frame : Bool → Bool → Frame → Option Frame → Option Frame → Frame
merge_frame f g b none e = b
merge_frame f g (frame ls m) (some (frame ls' m')) e = frame ls (λ n. merge_name f g (m n) (m' n) (get_in e n))

-- merge_control_flow_states: does then, does else surely return; base, then, else if there is one
abbrev pub merge_frames : Bool → Bool → Frames → Frames → Option Frames → Frames
merge_frames f g [] ts es = []
merge_frames f g (b ∷ bs) ts es = merge_frame f g b (frame_at (length bs) ts) (else_at (length bs) es) ∷ merge_frames f g bs ts es

-- a local of a frame with d frames outside it
abbrev pub at_depth : ℕ → Var → Static
at_depth d v = record { name = v.name; ty = v.ty; depth = d; born = v.born }

-- the locals of such a frame, then those of the others
abbrev pub numbered : ℕ → List Var → Shape → Shape
numbered d [] Γ = Γ
numbered d (v ∷ ls) Γ = at_depth d v ∷ numbered d ls Γ

abbrev pub shape_of : Frames → Shape
shape_of [] = []
shape_of (frame ls m ∷ fs) = numbered (length fs) ls (shape_of fs)

abbrev pub apply_frames : Effect → Frames → Frames
apply_frames (use' n s) fs = fs
apply_frames (kill deleted n s) fs = mark_deleted n s fs
apply_frames (kill moved n s) fs = mark_moved n s fs
apply_frames (kill consumed n s) fs = mark_consumed n s fs
apply_frames (hand n s) fs = hand_temp n s fs
apply_frames (bad_move s h) fs = fs
apply_frames (global_move s g) fs = fs

abbrev pub apply_all_frames : List Effect → Frames → Frames
apply_all_frames [] fs = fs
apply_all_frames (e ∷ es) fs = apply_all_frames es (apply_frames e fs)

-- validate_identifier_use, of what find_state gives
abbrev pub use_frames : ℕ → Option State → List Report
use_frames s none = []
use_frames s (some a) = bad_use s a

abbrev pub report_frame : Effect → Frames → List Report
report_frame (use' n s) fs = use_frames s (find_state n fs)
report_frame (kill k n s) fs = []
report_frame (hand n s) fs = []
report_frame (bad_move s h) fs = error 7 s h [] ∷ []
report_frame (global_move s g) fs = error 8 s 0 (g ∷ []) ∷ []

abbrev pub report_all_frames : List Effect → Frames → List Report
report_all_frames [] fs = []
report_all_frames (e ∷ es) fs = report_frame e fs ++ report_all_frames es (apply_frames e fs)

abbrev pub doing_frames : (Shape → List Effect) → Frames → Frames
doing_frames f fs = apply_all_frames (f (shape_of fs)) fs

module _ (T : Tables) where
  -- what f says of the living locals of one frame, by its own map, that q admits and whose type has a destructor, newest first
  abbrev pub frame_gather : {B : Type 0} → (ℕ → Bool) → (Var → B) → States → List Var → List B
  frame_gather q f m [] = []
  frame_gather q f m (v ∷ ls) = cond (q v.name && is_live (m v.name) && auto T v.ty) (f v ∷ frame_gather q f m ls) (frame_gather q f m ls)

  -- of every frame from the innermost
  abbrev pub scope_gather : {B : Type 0} → (ℕ → Bool) → (Var → B) → Frames → List B
  scope_gather q f [] = []
  scope_gather q f (frame ls m ∷ fs) = frame_gather q f m ls ++ scope_gather q f fs

  -- of the frames from the innermost out to the one with l frames outside it, the body of the nearest loop (02, c)
  abbrev pub loop_gather : {B : Type 0} → Option ℕ → (Var → B) → Frames → List B
  loop_gather none f fs = []
  loop_gather (some l) f [] = []
  loop_gather (some l) f (frame ls m ∷ fs) = cond (leb l (length fs)) (frame_gather (λ k. true) f m ls ++ loop_gather (some l) f fs) []

  abbrev pub delete_of : ℕ → Var → Drop
  delete_of p v = drop_of p v.name v.ty

  -- collect_scope_drops: every frame, but not the returned name, with span 0
  abbrev pub scope_drops : Named → Frames → List Drop
  scope_drops n fs = scope_gather (λ k. not (excludes n k)) (delete_of 0) fs

  -- transform_block's tail_drops: scope_stack.last(), with the block's span
  abbrev pub last_drops : ℕ → Frames → List Drop
  last_drops p [] = []
  last_drops p (frame ls m ∷ fs) = frame_gather (λ k. true) (delete_of p) m ls

  abbrev pub pre_drop : ℕ → ℕ → Option State → Option Var → List Drop → List Drop
  pre_drop p n a none ds = ds
  pre_drop p n a (some v) ds = cond (auto T v.ty) (cond (is_live a) (drop_of p n v.ty ∷ []) []) []

  abbrev pub pre_delete_name : ℕ → ℕ → Frames → List Drop
  pre_delete_name p n [] = []
  pre_delete_name p n (frame ls m ∷ fs) = pre_drop p n (m n) (newest n ls) (pre_delete_name p n fs)

  abbrev pub pre_delete_named : ℕ → Named → Frames → List Drop
  pre_delete_named p nobody fs = []
  pre_delete_named p (called n s) fs = pre_delete_name p n fs

  -- pre_delete_before_assign: the innermost frame that has a local of an Ident's name, with the statement's span
  abbrev pub pre_delete : ℕ → Expr → Frames → List Drop
  pre_delete p dst fs = pre_delete_named p (ident_in (view dst)) fs

  -- the frames after a statement's parts, as in Rules.antt
  abbrev pub evaluate_frames : Expr → Frames → Frames
  evaluate_frames e fs = doing_frames (λ Γ. effects T Γ e) fs

  abbrev pub after_expr_frames : Expr → Frames → Frames
  after_expr_frames e fs = doing_frames (λ Γ. expr_stmt_effects T Γ e) fs

  abbrev pub after_variable_frames : Var → Expr → Frames → Frames
  after_variable_frames v e fs = apply_all_frames (take_over T (shape_of fs) v.name v.ty e) (register_local v (evaluate_frames e fs))

  abbrev pub before_assign_frames : Expr → Expr → Frames → Frames
  before_assign_frames dst val fs = doing_frames (λ Γ. assign_effects T Γ dst val) fs

  abbrev pub after_assign_frames : Expr → Expr → Frames → Frames
  after_assign_frames dst val fs = apply_all_frames (assign_takes T (shape_of fs) dst val) (mark_alive (name_in (view dst)) fs)

  -- transform_block, once its own frame is pushed: the frames after the statements and the block's end
  abbrev pub exit_frames : {X Y : Type 0} → Code X Y → Frames → Frames
  exit_frames (done x) fs = pop_frame fs
  exit_frames (expr_stmt s e y r) fs = exit_frames r (after_expr_frames e fs)
  exit_frames (variable k s n t e r) fs = exit_frames r (after_variable_frames (declared_var s n t) e fs)
  exit_frames (assign s e v t x r) fs = exit_frames r (after_assign_frames e v (before_assign_frames e v fs))
  exit_frames (return s e t x r) fs = exit_frames r (evaluate_frames e fs)
  exit_frames (bare_return s t x r) fs = exit_frames r fs
  exit_frames (block s c r) fs = exit_frames r (exit_frames c (push fs))
  exit_frames (if_else s e ts t us u r) fs =
      exit_frames r
      (merge_frames (sure_from t false) (sure_from u false) (evaluate_frames e fs) (exit_frames t (push (evaluate_frames e fs)))
      (some (exit_frames u (push (evaluate_frames e fs)))))
  exit_frames (if_then s e ts t r) fs =
      exit_frames r (merge_frames (sure_from t false) false (evaluate_frames e fs) (exit_frames t (push (evaluate_frames e fs))) none)
  exit_frames (while s e ts t r) fs =
      exit_frames r (merge_frames false false (evaluate_frames e fs) (exit_frames t (push (evaluate_frames e fs))) none)
  exit_frames (jump k s x r) fs = exit_frames r fs

  -- behind an if with an else, an if without one, and a loop
  module _ {X Y : Type 0} (e : Expr) where
    abbrev pub behind_if_frames : Code X Y → Code X Y → Frames → Frames
    behind_if_frames t u fs =
        merge_frames (sure_from t false) (sure_from u false) (evaluate_frames e fs) (exit_frames t (push (evaluate_frames e fs)))
        (some (exit_frames u (push (evaluate_frames e fs))))

    abbrev pub behind_then_frames : Code X Y → Frames → Frames
    behind_then_frames t fs = merge_frames (sure_from t false) false (evaluate_frames e fs) (exit_frames t (push (evaluate_frames e fs))) none

    abbrev pub behind_loop_frames : Code X Y → Frames → Frames
    behind_loop_frames t fs = merge_frames false false (evaluate_frames e fs) (exit_frames t (push (evaluate_frames e fs))) none

  -- transform_block: the decisions. p is the block's span, f whether the statement before surely returns
  abbrev pub decide_frames : Tree → ℕ → Bool → Frames → Decided
  decide_frames (done x) p f fs = done (cond f [] (last_drops p fs))
  decide_frames (expr_stmt s e y r) p f fs = expr_stmt s e (auto T (ty_of e) && is_call (view e)) (decide_frames r p false (after_expr_frames e fs))
  decide_frames (variable k s n t e r) p f fs = variable k s n t e (decide_frames r p false (after_variable_frames (declared_var s n t) e fs))
  decide_frames (assign s e v t x r) p f fs =
      assign s e v t (pre_delete s e (before_assign_frames e v fs)) (decide_frames r p false (after_assign_frames e v (before_assign_frames e v fs)))
  decide_frames (return s e t x r) p f fs =
      return s e t (scope_drops (name_in (view e)) (evaluate_frames e fs)) (decide_frames r p true (evaluate_frames e fs))
  decide_frames (bare_return s t x r) p f fs = bare_return s t [] (decide_frames r p true fs)
  decide_frames (block s c r) p f fs = block s (decide_frames c s false (push fs)) (decide_frames r p (sure_from c false) (exit_frames c (push fs)))
  decide_frames (if_else s e ts t us u r) p f fs =
      if_else s e ts (decide_frames t ts false (push (evaluate_frames e fs))) us (decide_frames u us false (push (evaluate_frames e fs)))
      (decide_frames r p (sure_from t false && sure_from u false) (behind_if_frames e t u fs))
  decide_frames (if_then s e ts t r) p f fs =
      if_then s e ts (decide_frames t ts false (push (evaluate_frames e fs)))
      (decide_frames r p false (behind_then_frames e t fs))
  decide_frames (while s e ts t r) p f fs =
      while s e ts (decide_frames t ts false (push (evaluate_frames e fs)))
      (decide_frames r p false (behind_loop_frames e t fs))
  decide_frames (jump k s x r) p f fs = jump k s [] (decide_frames r p false fs)

  -- transform_block: what is reported of the statements that stand at a position, in walking order; l is how many frames are outside
  -- the body of the nearest loop, if they are in a loop
  abbrev pub report_frames : Tree → Option ℕ → ℕ → Frames → List Report
  report_frames (done x) l at fs = []
  report_frames (expr_stmt s e y r) l at fs =
      report_all_frames (expr_stmt_effects T (shape_of fs) e) fs
      ++ (unused (auto T (ty_of e) && is_call (view e)) s e at ++ report_frames r l (at + 5 + expr_bytes e) (after_expr_frames e fs))
  report_frames (variable k s n t e r) l at fs =
      report_all_frames (effects T (shape_of fs) e) fs ++ report_frames r l (at + 9 + expr_bytes e) (after_variable_frames (declared_var s n t) e fs)
  report_frames (assign s e v t x r) l at fs =
      report_all_frames (assign_effects T (shape_of fs) e v) fs
      ++ report_frames r l (at + 7 + expr_bytes e + expr_bytes v) (after_assign_frames e v (before_assign_frames e v fs))
  report_frames (return s e t x r) l at fs =
      report_all_frames (effects T (shape_of fs) e) fs ++ report_frames r l (at + 8 + expr_bytes e) (evaluate_frames e fs)
  report_frames (bare_return s t x r) l at fs = scope_gather (λ k. true) (λ v. left s v.name v.born) fs ++ report_frames r l (at + 8) fs
  report_frames (block s c r) l at fs = report_frames c l (at + 7) (push fs) ++ report_frames r l (at + 7 + code_bytes c) (exit_frames c (push fs))
  report_frames (if_else s e ts t us u r) l at fs =
      report_all_frames (effects T (shape_of fs) e) fs
      ++ (report_frames t l (at + 11 + expr_bytes e) (push (evaluate_frames e fs))
      ++ (report_frames u l (at + 18 + expr_bytes e + code_bytes t) (push (evaluate_frames e fs))
      ++ report_frames r l (at + 18 + expr_bytes e + code_bytes t + code_bytes u) (behind_if_frames e t u fs)))
  report_frames (if_then s e ts t r) l at fs =
      report_all_frames (effects T (shape_of fs) e) fs
      ++ (report_frames t l (at + 11 + expr_bytes e) (push (evaluate_frames e fs))
      ++ report_frames r l (at + 12 + expr_bytes e + code_bytes t) (behind_then_frames e t fs))
  report_frames (while s e ts t r) l at fs =
      report_all_frames (effects T (shape_of fs) e) fs
      ++ (report_frames t (some (length fs)) (at + 11 + expr_bytes e) (push (evaluate_frames e fs))
      ++ report_frames r l (at + 11 + expr_bytes e + code_bytes t) (behind_loop_frames e t fs))
  report_frames (jump k s x r) l at fs = loop_gather l (λ v. left s v.name v.born) fs ++ report_frames r l (at + 5) fs

-- run_ownership_for_method_body, run_ownership_for_body: from vec![ScopeFrame::default()]
abbrev pub decide_body_frames : Tables → Entry → Block → Decided
decide_body_frames T x b = decide_frames T b.code b.span false (push (entered_frames (locals_of x) (push [])))

-- what is reported of an image
abbrev pub reports_frames : Image → List Report
reports_frames i = report_frames i.tables i.body.code none (body_start i) (push (entered_frames (locals_of i.entry) (push [])))
