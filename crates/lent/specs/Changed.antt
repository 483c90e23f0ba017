-- A lent stack after a mark, and after a registration (document 01, "What changes shape": a thin layer lends one stack and changes it in
-- place). Both hold wherever the rows stand and whatever they have.
use Rattle.std.specs.Prelude.{ℕ, ◌≡◌, Bool, true, false, List, ltb}
use Rattle.tables.specs.Limits.{version1}
use Rattle.rules.specs.State.{State as Status}
use Rattle.rules.specs.Stack.{Stack as Scope}
use Rattle.rules.specs.Rules.{declared, states, register, off}
use Rattle.scope_stack.specs.View.{Kept, Held, Rowed, Marks, Grows, view as seen}
use Rattle.lent.specs.declared.Stack.{Stack}

-- the arrays of a stack
abbrev pub Whole : Stack → Type 0
Whole s = Kept s.locals × Held s.states

-- the rules' stack, with the rows
abbrev pub view : Stack → List ℕ → ℕ → ℕ → Scope Status
view s = seen s.locals s.states

-- a mark: the locals as they were, and of their states those that the innermost frame with the name has of it, changed by f
pub record Marked (old : Stack) (name : ℕ) (f : Status → Status) (new : Stack) : Type 0 where
  pub locals : new.locals ≡ old.locals
  pub held : Held new.states
  pub marks : Marks old.locals name f old.states new.states

-- a registration, refused where it would be the 65th local; refused, the stack is as it was
pub record Registered (old : Stack) (name ty depth born : ℕ) (dtor ok : Bool) (new : Stack) : Type 0 where
  pub answer : ok ≡ ltb old.locals.count version1.locals
  pub kept : ok ≡ false → new ≡ old
  pub grows : ok ≡ true → Grows old.locals (declared depth born name ty) dtor new.locals
  pub held : Held new.states
  pub is : ok ≡ true → (rows : List ℕ) (cur width : ℕ) → Rowed old.locals.count old.states rows cur width
      → view new rows cur width ≡ register (states off) (declared depth born name ty) (view old rows cur width)
  pub rowed : ok ≡ true → (rows : List ℕ) (cur width : ℕ) → Rowed old.locals.count old.states rows cur width
      → Rowed new.locals.count new.states rows cur width
