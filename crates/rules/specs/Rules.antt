-- The rules of the ownership pass on trees, for whatever a scope stack says of a local and all settings of the switches: the stack
-- after statements (exit), the deletes put in (decide), and which bodies are plain.
use Rattle.std.specs.Prelude.{ℕ, suc, ◌/◌, ◌%◌, Bool, true, false, cond, not, ◌&&◌, ◌||◌, T as So, List, [], ◌∷◌, ◌==◌, nat_le, nat_lt}
use Rattle.std.proofs.Math.Option.{Option, none, some}
use Rattle.tables.specs.Signature.{Param, Entry}
use Rattle.tables.specs.Tables.{Tables}
use Rattle.image_body.specs.Expr.{Expr}
use Rattle.image_body.specs.Stmt.{Code, Tree, Block, done, expr_stmt, variable, assign, return, bare_return, block, if_else, if_then, while, jump}
use Rattle.rules.specs.Questions.{auto}
use Rattle.rules.specs.Expr.{Named, nobody, called, view, ident_in, name_in, is_call, ty_of}
use Rattle.rules.specs.Stack.{Static, Local, local, Stack, Shape, shape, has, in_frame, mark, lookup, pop}
use Rattle.rules.specs.State.{Kind, State, alive, gone, is_alive, hand_state, join_state}
use Rattle.rules.specs.Effects.{Effect, use', kill, hand, bad_move, global_move, effects, expr_stmt_effects, take_over, assign_effects, assign_takes}

-- What a scope stack can say of a local: of a new one, of one given up or handed over at a place, after two branches, and whether
-- it lives
pub record Alg (A : Type 0) : Type 0 where
  pub new : A
  pub killed : Kind → ℕ → A → A
  pub handed_over : ℕ → A → A
  pub join : A → A → A
  pub lives : A → Bool

-- The switches for the drop rules (02, e), in this order: a bare return drops as a return with a value that excludes no name; Break and
-- Continue drop what they would leave behind; two conditional states of one family join to a conditional one; the end of the body
-- block drops the parameters' frame too
pub record Switches : Type 0 where
  pub bare_returns : Bool
  pub jumps : Bool
  pub conditional : Bool
  pub parameters : Bool

-- all off, where the Rust is the measure, and all on
abbrev pub off : Switches
off = record { bare_returns = false; jumps = false; conditional = false; parameters = false }

abbrev pub on : Switches
on = record { bare_returns = true; jumps = true; conditional = true; parameters = true }

-- as a value: the bits 1, 2, 4 and 8
abbrev pub switches_of : ℕ → Switches
switches_of v = record { bare_returns = (v % 2 == 1); jumps = (v / 2 % 2 == 1); conditional = (v / 4 % 2 == 1); parameters = (v / 8 % 2 == 1) }

-- the pass says a state
abbrev pub joining : Bool → Alg State
joining b = record { new = alive; killed = λ k p a. gone false k (p ∷ []); handed_over = hand_state; join = join_state b; lives = is_alive }

abbrev pub states : Switches → Alg State
states w = joining w.conditional

-- a run says whether it is held
abbrev pub holding : Alg Bool
holding = record { new = true; killed = λ k p a. false; handed_over = λ p a. false; join = λ a b. a && b; lives = λ a. a }

-- an inserted delete: the span of its nodes, and the name and type of its Ident
pub data Drop : Type 0 where
  drop_of : ℕ → ℕ → ℕ → Drop

-- that of a local
abbrev pub delete_at : ℕ → Static → Drop
delete_at p s = drop_of p s.name s.ty

-- A tree with the pass's decisions: the deletes put in at a block's end and before an assignment, a return, a Break and a Continue, and
-- whether an expression statement's unused result is deleted
abbrev pub Decided : Type 0
Decided = Code (List Drop) Bool

module _ {X Y : Type 0} where
  -- statements_guaranteed_return, with statement_guaranteed_return of the last one; b is the answer of the statement before
  abbrev pub sure_from : Code X Y → Bool → Bool
  sure_from (done x) b = b
  sure_from (expr_stmt s e y r) b = sure_from r false
  sure_from (variable k s n t e r) b = sure_from r false
  sure_from (assign s e v t x r) b = sure_from r false
  sure_from (return s e t x r) b = sure_from r true
  sure_from (bare_return s t x r) b = sure_from r true
  sure_from (block s c r) b = sure_from r (sure_from c false)
  sure_from (if_else s e ts t us u r) b = sure_from r (sure_from t false && sure_from u false)
  sure_from (if_then s e ts t r) b = sure_from r false
  sure_from (while s e ts t r) b = sure_from r false
  sure_from (jump k s x r) b = sure_from r false

  -- no statement is left
  abbrev pub is_done : Code X Y → Bool
  is_done (done x) = true
  is_done (expr_stmt s e y r) = false
  is_done (variable k s n t e r) = false
  is_done (assign s e v t x r) = false
  is_done (return s e t x r) = false
  is_done (bare_return s t x r) = false
  is_done (block s c r) = false
  is_done (if_else s e ts t us u r) = false
  is_done (if_then s e ts t r) = false
  is_done (while s e ts t r) = false
  is_done (jump k s x r) = false

-- is n that name
abbrev pub excludes : Named → ℕ → Bool
excludes nobody n = false
excludes (called m s) n = n == m

-- A place where locals are deleted or left behind: a block's end and its depth; a return and the returned name; a return without a
-- value; a Break or Continue and the depth of the nearest loop's body, if any; an assignment and the name it assigns
pub data Place : Type 0 where
  at_end : ℕ → Place
  at_return : Named → Place
  at_bare_return : Place
  at_jump : Option ℕ → Place
  at_assign : Named → Place

-- which locals a place concerns: those that it deletes if they are alive and of a type with a destructor
abbrev pub Policy : Type 0
Policy = Place → Static → Bool

-- the frames from the innermost out to the nearest loop's body; none outside any loop (02, c)
abbrev pub in_loop : Option ℕ → Static → Bool
in_loop none s = false
in_loop (some l) s = nat_le l s.depth

-- by the switches (02, e); what a place deletes it deletes newest first, so a block's own locals before the parameters
abbrev pub concerns : Switches → Policy
concerns w (at_end d) s = (w.parameters && d == 1 && s.depth == 0) || s.depth == d
concerns w (at_return n) s = not (excludes n s.name)
concerns w at_bare_return s = w.bare_returns
concerns w (at_jump l) s = w.jumps && in_loop l s
concerns w (at_assign n) s = excludes n s.name

-- the local of a Let or Const in a block of depth d: the statement's span, name and type
abbrev pub declared : ℕ → ℕ → ℕ → ℕ → Static
declared d s n t = record { name = n; ty = t; depth = d; born = s }

-- that of a parameter or `this`
abbrev pub given : Param → Static
given x = record { name = x.name; ty = x.ty; depth = 0; born = 0 }

-- the locals a body is entered with: `this` after the entry bytes 2 to 4, then the parameters
abbrev pub locals_of : Entry → List Param
locals_of x = cond (nat_lt x.receiver 2) x.params (record { name = 0; ty = x.this } ∷ x.params)

module _ {A : Type 0} (𝓐 : Alg A) where
  abbrev pub apply : Effect → Stack A → Stack A
  apply (use' n s) σ = σ
  apply (kill k n s) σ = mark n (𝓐.killed k s) σ
  apply (hand n s) σ = mark n (𝓐.handed_over s) σ
  apply (bad_move s h) σ = σ
  apply (global_move s g) σ = σ

  abbrev pub apply_all : List Effect → Stack A → Stack A
  apply_all [] σ = σ
  apply_all (e ∷ es) σ = apply_all es (apply e σ)

  abbrev pub doing : (Shape → List Effect) → Stack A → Stack A
  doing f σ = apply_all (f (shape σ)) σ

  -- mark_assigned_alive
  abbrev pub revived : Named → Stack A → Stack A
  revived nobody σ = σ
  revived (called n s) σ = mark n (λ a. 𝓐.new) σ

  -- register_local: the frame says the same of all its locals of one name
  abbrev pub register : Static → Stack A → Stack A
  register s σ = local s 𝓐.new ∷ in_frame s.name s.depth (λ a. 𝓐.new) σ

  -- the join of two branches, local by local
  abbrev pub joins : Stack A → Stack A → Stack A
  joins [] τ = []
  joins (l ∷ σ) [] = l ∷ σ
  joins (local s a ∷ σ) (local t b ∷ τ) = local s (𝓐.join a b) ∷ joins σ τ

  -- merge_control_flow_states: does then, does else surely return; base, then, else
  abbrev pub merge : Bool → Bool → Stack A → Stack A → Stack A → Stack A
  merge true true σ τ υ = σ
  merge true false σ τ υ = υ
  merge false true σ τ υ = τ
  merge false false σ τ υ = joins τ υ

  -- every local that lives in the first lives in the second
  abbrev pub Keeps : Stack A → Stack A → Type 0
  Keeps [] τ = Unit {0}
  Keeps (l ∷ σ) [] = ⊥
  Keeps (local s a ∷ σ) (local t b ∷ τ) = (So (𝓐.lives a) → So (𝓐.lives b)) × Keeps σ τ

  module _ (T : Tables) where
    -- what f says of the living locals that q admits and whose type has a destructor, newest first
    abbrev pub gather : {B : Type 0} → (Static → Bool) → (Static → B) → Stack A → List B
    gather q f [] = []
    gather q f (local s a ∷ σ) = cond (q s && 𝓐.lives a && auto T s.ty) (f s ∷ gather q f σ) (gather q f σ)

    -- their deletes
    abbrev pub collect : (Static → Bool) → ℕ → Stack A → List Drop
    collect q p σ = gather q (delete_at p) σ

    abbrev pub drop_newest : (Static → Bool) → ℕ → ℕ → Option (Local A) → List Drop
    drop_newest q p n none = []
    drop_newest q p n (some (local s a)) = cond (q s && 𝓐.lives a && auto T s.ty) (drop_of p n s.ty ∷ []) []

    -- the delete of a name's newest local, if q admits it
    abbrev pub drop_named : (Static → Bool) → ℕ → Named → Stack A → List Drop
    drop_named q p nobody σ = []
    drop_named q p (called n s) σ = drop_newest q p n (lookup n σ)

    -- the stack after a statement's parts, in the order of transform_block: an expression
    abbrev pub evaluate : Expr → Stack A → Stack A
    evaluate e σ = doing (λ Γ. effects T Γ e) σ

    -- an expression statement
    abbrev pub after_expr : Expr → Stack A → Stack A
    after_expr e σ = doing (λ Γ. expr_stmt_effects T Γ e) σ

    -- a Let or Const: its value, then its local is registered, then a temporary is taken over
    abbrev pub after_variable : Static → Expr → Stack A → Stack A
    after_variable s e σ = apply_all (take_over T (shape σ) s.name s.ty e) (register s (evaluate e σ))

    -- an assignment's destination and value, where its delete is decided on
    abbrev pub before_assign : Expr → Expr → Stack A → Stack A
    before_assign dst val σ = doing (λ Γ. assign_effects T Γ dst val) σ

    -- the assignment itself: the destination is alive, then a temporary is taken over
    abbrev pub after_assign : Expr → Expr → Stack A → Stack A
    after_assign dst val σ = apply_all (assign_takes T (shape σ) dst val) (revived (name_in (view dst)) σ)

    -- transform_block: the stack after the statements of a block of depth d and its end
    abbrev pub exit : {X Y : Type 0} → Code X Y → ℕ → Stack A → Stack A
    exit (done x) d σ = pop d σ
    exit (expr_stmt s e y r) d σ = exit r d (after_expr e σ)
    exit (variable k s n t e r) d σ = exit r d (after_variable (declared d s n t) e σ)
    exit (assign s e v t x r) d σ = exit r d (after_assign e v (before_assign e v σ))
    exit (return s e t x r) d σ = exit r d (evaluate e σ)
    exit (bare_return s t x r) d σ = exit r d σ
    exit (block s c r) d σ = exit r d (exit c (suc d) σ)
    exit (if_else s e ts t us u r) d σ =
        exit r d (merge (sure_from t false) (sure_from u false) (evaluate e σ) (exit t (suc d) (evaluate e σ)) (exit u (suc d) (evaluate e σ)))
    exit (if_then s e ts t r) d σ = exit r d (merge (sure_from t false) false (evaluate e σ) (exit t (suc d) (evaluate e σ)) (evaluate e σ))
    exit (while s e ts t r) d σ = exit r d (joins (exit t (suc d) (evaluate e σ)) (evaluate e σ))
    exit (jump k s x r) d σ = exit r d σ

    -- behind an if with an else, an if without one, and a loop
    module _ {X Y : Type 0} (e : Expr) where
      abbrev pub behind_if : Code X Y → Code X Y → ℕ → Stack A → Stack A
      behind_if t u d σ = merge (sure_from t false) (sure_from u false) (evaluate e σ) (exit t (suc d) (evaluate e σ)) (exit u (suc d) (evaluate e σ))

      abbrev pub behind_then : Code X Y → ℕ → Stack A → Stack A
      behind_then t d σ = merge (sure_from t false) false (evaluate e σ) (exit t (suc d) (evaluate e σ)) (evaluate e σ)

      abbrev pub behind_loop : Code X Y → ℕ → Stack A → Stack A
      behind_loop t d σ = joins (exit t (suc d) (evaluate e σ)) (evaluate e σ)

    module _ (𝓟 : Policy) where
      -- transform_block's tail_drops: the block's own frame, with the block's span; and the parameters' (02, e, switch 4)
      abbrev pub end_drops : ℕ → ℕ → Stack A → List Drop
      end_drops d p σ = collect (λ s. 𝓟 (at_end d) s) p σ

      -- collect_scope_drops: every frame, but not the returned name, with span 0
      abbrev pub return_drops : Named → Stack A → List Drop
      return_drops n σ = collect (λ s. 𝓟 (at_return n) s) 0 σ

      -- (02, e, switches 1 and 2)
      abbrev pub bare_return_drops : Stack A → List Drop
      bare_return_drops σ = collect (λ s. 𝓟 at_bare_return s) 0 σ

      abbrev pub jump_drops : Option ℕ → Stack A → List Drop
      jump_drops l σ = collect (λ s. 𝓟 (at_jump l) s) 0 σ

      -- pre_delete_before_assign: an Ident's newest local, with the statement's span
      abbrev pub assign_drops : ℕ → Expr → Stack A → List Drop
      assign_drops p dst σ = drop_named (λ s. 𝓟 (at_assign (ident_in (view dst))) s) p (ident_in (view dst)) σ

      -- transform_block: the decisions. p is the block's span, d its depth, l the depth of the nearest loop's body, if there is one, f
      -- whether the statement before surely returns
      abbrev pub decide : Tree → ℕ → ℕ → Option ℕ → Bool → Stack A → Decided
      decide (done x) p d l f σ = done (cond f [] (end_drops d p σ))
      decide (expr_stmt s e y r) p d l f σ = expr_stmt s e (auto T (ty_of e) && is_call (view e)) (decide r p d l false (after_expr e σ))
      decide (variable k s n t e r) p d l f σ = variable k s n t e (decide r p d l false (after_variable (declared d s n t) e σ))
      decide (assign s e v t x r) p d l f σ =
          assign s e v t (assign_drops s e (before_assign e v σ)) (decide r p d l false (after_assign e v (before_assign e v σ)))
      decide (return s e t x r) p d l f σ = return s e t (return_drops (name_in (view e)) (evaluate e σ)) (decide r p d l true (evaluate e σ))
      decide (bare_return s t x r) p d l f σ = bare_return s t (bare_return_drops σ) (decide r p d l true σ)
      decide (block s c r) p d l f σ = block s (decide c s (suc d) l false σ) (decide r p d l (sure_from c false) (exit c (suc d) σ))
      decide (if_else s e ts t us u r) p d l f σ =
          if_else s e ts (decide t ts (suc d) l false (evaluate e σ)) us (decide u us (suc d) l false (evaluate e σ))
          (decide r p d l (sure_from t false && sure_from u false) (behind_if e t u d σ))
      decide (if_then s e ts t r) p d l f σ =
          if_then s e ts (decide t ts (suc d) l false (evaluate e σ)) (decide r p d l false (behind_then e t d σ))
      decide (while s e ts t r) p d l f σ =
          while s e ts (decide t ts (suc d) (some (suc d)) false (evaluate e σ)) (decide r p d l false (behind_loop e t d σ))
      decide (jump k s x r) p d l f σ = jump k s (jump_drops l σ) (decide r p d l false σ)

    -- Plain, in its four parts: no Break or Continue; no name registered while a frame holds it; nothing after what surely returns;
    -- no loop body ending with a name not alive that was alive before the loop's condition
    abbrev pub Plain : Tree → ℕ → Stack A → Type 0
    Plain (done x) d σ = Unit {0}
    Plain (expr_stmt s e y r) d σ = Plain r d (after_expr e σ)
    Plain (variable k s n t e r) d σ = So (not (has n (shape σ))) × Plain r d (after_variable (declared d s n t) e σ)
    Plain (assign s e v t x r) d σ = Plain r d (after_assign e v (before_assign e v σ))
    Plain (return s e t x r) d σ = So (is_done r)
    Plain (bare_return s t x r) d σ = So (is_done r)
    Plain (block s c r) d σ = Plain c (suc d) σ × (So (sure_from c false) → So (is_done r)) × Plain r d (exit c (suc d) σ)
    Plain (if_else s e ts t us u r) d σ =
        Plain t (suc d) (evaluate e σ) × Plain u (suc d) (evaluate e σ) × (So (sure_from t false && sure_from u false) → So (is_done r))
        × Plain r d (behind_if e t u d σ)
    Plain (if_then s e ts t r) d σ = Plain t (suc d) (evaluate e σ) × Plain r d (behind_then e t d σ)
    Plain (while s e ts t r) d σ =
        Plain t (suc d) (evaluate e σ) × Keeps σ (exit t (suc d) (evaluate e σ)) × Plain r d (behind_loop e t d σ)
    Plain (jump k s x r) d σ = ⊥

    -- run_ownership_for_method_body, run_ownership_for_body: the locals a body is entered with, registered in the outermost frame
    abbrev pub entered : List Param → Stack A → Stack A
    entered [] σ = σ
    entered (x ∷ xs) σ = entered xs (register (given x) σ)

    -- no name among them twice
    abbrev pub Fresh : List Param → Stack A → Type 0
    Fresh [] σ = Unit {0}
    Fresh (x ∷ xs) σ = So (not (has x.name (shape σ))) × Fresh xs (register (given x) σ)

    abbrev pub PlainIn : List Param → Tree → Type 0
    PlainIn params body = Fresh params [] × Plain body 1 (entered params [])

    -- the body block has depth 1; p is its span
    abbrev pub decide_in : Policy → List Param → ℕ → Tree → Decided
    decide_in 𝓟 params p body = decide 𝓟 body p 1 none false (entered params [])

module _ (w : Switches) (T : Tables) where
  -- a plain body, by the pass's states
  abbrev pub PlainBody : Entry → Block → Type 0
  PlainBody x b = PlainIn (states w) T (locals_of x) b.code

  -- what the pass decides on a body
  abbrev pub decide_body : Entry → Block → Decided
  decide_body x b = decide_in (states w) T (concerns w) (locals_of x) b.span b.code
