-- Runs of a decided body (document 01, "Held, by history"), and demand 3 as a claim about all of them, for the policy that it was decided by.
-- The pass's states play no part.
use Rattle.std.specs.Prelude.{◌≡◌, ℕ, suc, Bool, true, false, not, ◌&&◌, ◌||◌, T as So, ◌↔◌, List, [], ◌∷◌, ◌++◌, ◌==◌}
use Rattle.std.proofs.Math.Option.{Option, none, some}
use Rattle.tables.specs.Signature.{Param}
use Rattle.tables.specs.Tables.{Tables}
use Rattle.image_body.specs.Expr.{Expr}
use Rattle.image_body.specs.Stmt.{done, expr_stmt, variable, assign, return, bare_return, block, if_else, if_then, while, jump}
use Rattle.rules.specs.Questions.{auto}
use Rattle.rules.specs.Expr.{view, ident_in, name_in}
use Rattle.rules.specs.Stack.{Static, Local, local, Stack, shape, mark, lookup, pop, static_of, has}
use Rattle.rules.specs.Rules.{holding, Drop, drop_of, Decided, Place, at_end, at_return, at_bare_return, at_assign, Policy, declared, evaluate, after_expr, after_variable, before_assign, after_assign, entered}

-- A path to a statement list: past a statement, into its block, into its second block (else)
pub data Dir : Type 0 where
  next into second : Dir

abbrev pub Path : Type 0
Path = List Dir

-- What is left to do: statements of a block of some depth; a return, or an assignment, whose expressions have run; inserted
-- deletes; a block's frame to close; an assignment whose delete is done, and what follows it
pub data Task : Type 0 where
  code : Path → ℕ → Decided → Task
  returning : Path → Place → List Drop → Task
  assigning : Path → ℕ → Expr → Expr → List Drop → Decided → Task
  deleting : List Drop → Task
  closing : ℕ → Task
  assigned : Path → ℕ → Expr → Expr → Decided → Task

-- Where a run stands, what it holds, and its choices left
pub data Config : Type 0 where
  at : List Task → Stack Bool → List Bool → Config

-- a delete of the name n
abbrev pub given_up : ℕ → Stack Bool → Stack Bool
given_up n H = mark n (λ a. false) H

module _ (T : Tables) where
  -- a condition: one choice is used; the run ends where none is left
  abbrev pub choose : List Task → List Task → Stack Bool → List Bool → Config
  choose ts us H [] = at [] H []
  choose ts us H (true ∷ cs) = at ts H cs
  choose ts us H (false ∷ cs) = at us H cs

  -- a Return, a Break and a Continue end the run after their deletes
  abbrev pub step_code : Decided → Path → ℕ → List Task → Stack Bool → List Bool → Config
  step_code (done x) p d K H cs = at (deleting x ∷ closing d ∷ K) H cs
  step_code (expr_stmt s e y r) p d K H cs = at (code (p ++ (next ∷ [])) d r ∷ K) (after_expr holding T e H) cs
  step_code (variable k s n t e r) p d K H cs = at (code (p ++ (next ∷ [])) d r ∷ K) (after_variable holding T (declared d s n t) e H) cs
  step_code (assign s e v t x r) p d K H cs = at (assigning p d e v x r ∷ K) (before_assign holding T e v H) cs
  step_code (return s e t x r) p d K H cs = at (returning p (at_return (name_in (view e))) x ∷ []) (evaluate holding T e H) cs
  step_code (bare_return s t x r) p d K H cs = at (returning p at_bare_return x ∷ []) H cs
  step_code (block s c r) p d K H cs = at (code (p ++ (into ∷ [])) (suc d) c ∷ code (p ++ (next ∷ [])) d r ∷ K) H cs
  step_code (if_else s e ts t us u r) p d K H cs =
      choose (code (p ++ (into ∷ [])) (suc d) t ∷ code (p ++ (next ∷ [])) d r ∷ K) (code (p ++ (second ∷ [])) (suc d) u ∷ code (p ++ (next ∷ [])) d r ∷ K)
      (evaluate holding T e H) cs
  step_code (if_then s e ts t r) p d K H cs =
      choose (code (p ++ (into ∷ [])) (suc d) t ∷ code (p ++ (next ∷ [])) d r ∷ K) (code (p ++ (next ∷ [])) d r ∷ K) (evaluate holding T e H) cs
  step_code (while s e ts t r) p d K H cs =
      choose (code (p ++ (into ∷ [])) (suc d) t ∷ code p d (while s e ts t r) ∷ K) (code (p ++ (next ∷ [])) d r ∷ K) (evaluate holding T e H) cs
  step_code (jump k s x r) p d K H cs = at (deleting x ∷ []) H cs

  abbrev pub step_delete : List Drop → List Task → Stack Bool → List Bool → Config
  step_delete [] K H cs = at K H cs
  step_delete (drop_of p n t ∷ x) K H cs = at (deleting x ∷ K) (given_up n H) cs

  abbrev pub step_task : Task → List Task → Stack Bool → List Bool → Config
  step_task (code p d c) K H cs = step_code c p d K H cs
  step_task (returning p pl x) K H cs = at (deleting x ∷ []) H cs
  step_task (assigning p d e v x r) K H cs = at (deleting x ∷ assigned p d e v r ∷ K) H cs
  step_task (deleting x) K H cs = step_delete x K H cs
  step_task (closing d) K H cs = at K (pop d H) cs
  step_task (assigned p d e v r) K H cs = at (code (p ++ (next ∷ [])) d r ∷ K) (after_assign holding T e v H) cs

  abbrev pub step_of : List Task → Stack Bool → List Bool → Config
  step_of [] H cs = at [] H cs
  step_of (t ∷ K) H cs = step_task t K H cs

  abbrev pub step : Config → Config
  step (at ts H cs) = step_of ts H cs

  -- some number of steps leads from one to the other
  pub data Steps : Config → Config → Type 0 where
    arrived : {c c' : Config} → c ≡ c' → Steps c c'
    onward : {c c' : Config} → Steps (step c) c' → Steps c c'

  -- a body entered: `this`, if any, and the parameters registered
  abbrev pub start : List Param → Decided → List Bool → Config
  start params body cs = at (code [] 1 body ∷ []) (entered holding T params []) cs

-- A moment: its path, its place, the deletes put in there, what is held before them
pub record Moment : Type 0 where
  pub path : Path
  pub place : Place
  pub drops : List Drop
  pub held : Stack Bool

abbrev pub moment_code : Decided → Path → ℕ → Stack Bool → Option Moment
moment_code (done x) p d H = some (record { path = p; place = at_end d; drops = x; held = H })
moment_code (expr_stmt s e y r) p d H = none
moment_code (variable k s n t e r) p d H = none
moment_code (assign s e v t x r) p d H = none
moment_code (return s e t x r) p d H = none
moment_code (bare_return s t x r) p d H = none
moment_code (block s c r) p d H = none
moment_code (if_else s e ts t us u r) p d H = none
moment_code (if_then s e ts t r) p d H = none
moment_code (while s e ts t r) p d H = none
moment_code (jump k s x r) p d H = none

abbrev pub moment_task : Task → Stack Bool → Option Moment
moment_task (code p d c) H = moment_code c p d H
moment_task (returning p pl x) H = some (record { path = p; place = pl; drops = x; held = H })
moment_task (assigning p d e v x r) H = some (record { path = p; place = at_assign (ident_in (view e)); drops = x; held = H })
moment_task (deleting x) H = none
moment_task (closing d) H = none
moment_task (assigned p d e v r) H = none

abbrev pub moment_of : List Task → Stack Bool → Option Moment
moment_of [] H = none
moment_of (t ∷ K) H = moment_task t H

abbrev pub moment : Config → Option Moment
moment (at ts H cs) = moment_of ts H

-- some run of the body, by whatever choices, comes to the moment
pub record Reached (T : Tables) (params : List Param) (body : Decided) (m : Moment) : Type 0 where
  pub choices : List Bool
  pub config : Config
  pub steps : Steps T (start T params body choices) config
  pub stands : moment config ≡ some m

-- is the (newest) local of that name held
abbrev pub value_of : Option (Local Bool) → Bool
value_of none = false
value_of (some (local s a)) = a

abbrev pub holds : ℕ → Stack Bool → Bool
holds n H = value_of (lookup n H)

abbrev pub dropped : ℕ → List Drop → Bool
dropped n [] = false
dropped n (drop_of p m t ∷ ds) = m == n || dropped n ds

-- of a type with a destructor, and admitted by q
abbrev pub admits : Tables → (Static → Bool) → Option Static → Bool
admits T q none = false
admits T q (some s) = q s && auto T s.ty

-- the name is a local's, of a type with a destructor, that the place concerns
abbrev pub concerned : Policy → Tables → Moment → ℕ → Bool
concerned 𝓟 T m n = admits T (λ s. 𝓟 m.place s) (static_of n (shape m.held))

-- another run reaches that same place without holding it
pub record Lost (T : Tables) (params : List Param) (body : Decided) (m : Moment) (n : ℕ) : Type 0 where
  pub there : Moment
  pub reached : Reached T params body there
  pub same_path : there.path ≡ m.path
  pub known : So (has n (shape there.held))
  pub not_held : So (not (holds n there.held))

pub record Demand3 (𝓟 : Policy) (T : Tables) (params : List Param) (body : Decided) : Type 0 where
  -- no run comes to an inserted delete of a local that it no longer holds
  pub held_at_delete : (choices : List Bool) (p n t : ℕ) (x : List Drop) (K : List Task) (H : Stack Bool) (cs : List Bool)
      → Steps T (start T params body choices) (at (deleting (drop_of p n t ∷ x) ∷ K) H cs) → So (holds n H)
  -- a held local of a type with a destructor is passed over exactly if another run reaches the place without holding it
  pub passed_over : (m : Moment) → Reached T params body m → (n : ℕ) → So (concerned 𝓟 T m n) → So (holds n m.held)
      → (So (not (dropped n m.drops)) ↔ Lost T params body m n)
  -- nothing else is deleted: an inserted delete is of a local of a type with a destructor that its place concerns
  pub concerned_only : (m : Moment) → Reached T params body m → (n : ℕ) → So (dropped n m.drops) → So (concerned 𝓟 T m n)
