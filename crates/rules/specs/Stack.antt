-- The scope stack: mod.rs's frames of locals and states as one list of locals, newest first.
use Rattle.std.specs.Prelude.{ℕ, Bool, false, cond, ◌&&◌, ◌||◌, List, [], ◌∷◌, ◌==◌}
use Rattle.std.proofs.Math.Option.{Option, none, some}

-- LocalVar; the block depth of its frame, 0 for parameters and `this`, 1 for the body block; and the span of the statement that
-- registered it, 0 for parameters and `this` (02, d)
pub record Static : Type 0 where
  pub name : ℕ
  pub ty : ℕ
  pub depth : ℕ
  pub born : ℕ

-- a local, and what is said of it: its state, or whether it is held
pub data Local (A : Type 0) : Type 0 where
  local : Static → A → Local A

abbrev pub Stack : Type 0 → Type 0
Stack A = List (Local A)

-- the locals alone
abbrev pub Shape : Type 0
Shape = List Static

module _ {A : Type 0} where
  abbrev pub shape : Stack A → Shape
  shape [] = []
  shape (local s a ∷ σ) = s ∷ shape σ

  -- f on what a frame says of a name: on every local of that name and depth
  abbrev pub in_frame : ℕ → ℕ → (A → A) → Stack A → Stack A
  in_frame n d f [] = []
  in_frame n d f (local s a ∷ σ) = local s (cond (s.name == n && s.depth == d) (f a) a) ∷ in_frame n d f σ

  -- mark_deleted, mark_moved, mark_consumed, mark_assigned_alive: f on what the innermost frame that has the name says of it
  abbrev pub mark : ℕ → (A → A) → Stack A → Stack A
  mark n f [] = []
  mark n f (local s a ∷ σ) = cond (s.name == n) (local s (f a) ∷ in_frame n s.depth f σ) (local s a ∷ mark n f σ)

  -- find_local and find_state: the newest local of the name
  abbrev pub lookup : ℕ → Stack A → Option (Local A)
  lookup n [] = none
  lookup n (local s a ∷ σ) = cond (s.name == n) (some (local s a)) (lookup n σ)

  -- scope_stack.pop() at the end of a block of depth d
  abbrev pub pop : ℕ → Stack A → Stack A
  pop d [] = []
  pop d (local s a ∷ σ) = cond (s.depth == d) (pop d σ) (local s a ∷ pop d σ)

-- find_local, of the locals alone
abbrev pub static_of : ℕ → Shape → Option Static
static_of n [] = none
static_of n (s ∷ Γ) = cond (s.name == n) (some s) (static_of n Γ)

-- is the name a local's
abbrev pub has : ℕ → Shape → Bool
has n [] = false
has n (s ∷ Γ) = s.name == n || has n Γ
