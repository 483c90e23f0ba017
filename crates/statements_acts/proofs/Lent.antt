-- The local of lent arrays that find_local gave, as the shape of their stack has it.
-- Assumes nothing.
use Prim.Native.Nat.{ℕ}
use mathlib.Core.Path.{◌≡◌, refl, ap, ◌∙◌}
use mathlib.Core.Bool.{Bool, true, false, cond}
use mathlib.Core.List.{List, [], ◌∷◌}
use mathlib.Core.Option.{Option as Maybe, none, some}
use Rattle.std.specs.Prelude.{Option, Some, None}
use lib.Dec.{eqb}
use Rattle.rules.specs.State.{State as Status}
use Rattle.rules.specs.Stack.{Static, Local, local, shape, lookup, static_of, Stack as Scope}
use Rattle.scope_state.specs.Locals.{static_in, lent, found_in, Finds}

said_of : Maybe (Local Status) → Maybe Static
said_of none = none
said_of (some (local s a)) = some s

pick : (b : Bool) (s : Static) (a : Status) (o : Maybe Static) (l : Maybe (Local Status)) → o ≡ said_of l → cond b (some s) o ≡ said_of (cond b (some (local s a)) l)
unfolding said_of
pick true s a o l e = refl
pick false s a o l e = e

static-in : (n : ℕ) (σ : Scope Status) → static_of n (shape σ) ≡ said_of (lookup n σ)
unfolding said_of
static-in n [] = refl
static-in n (local s a ∷ σ) = pick (eqb s.name n) s a (static_of n (shape σ)) (lookup n σ) (static-in n σ)

module _ {names : List ℕ} {k n : ℕ} {r : Option ℕ} (f : Finds names k n r) (types depths births : List ℕ) (g : ℕ → Status) where
  pub found_as : {x : Option ℕ} → r ≡ x → lookup n (lent names types depths births g k) ≡ found_in names types depths births g x
  found_as e = f.is types depths births g ∙ ap (found_in names types depths births g) e

  pub static-none : r ≡ None → static_of n (shape (lent names types depths births g k)) ≡ none
  unfolding said_of
  static-none e = static-in n (lent names types depths births g k) ∙ ap said_of (found_as e)

  pub static-some : {i : ℕ} → r ≡ Some i → static_of n (shape (lent names types depths births g k)) ≡ some (static_in names types depths births i)
  unfolding said_of
  static-some e = static-in n (lent names types depths births g k) ∙ ap said_of (found_as e)
