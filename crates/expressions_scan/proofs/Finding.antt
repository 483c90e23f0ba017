-- What is known of the newest local of a name once find_local has found it, or none.
-- Assumes nothing.
use Prim.Native.Nat.{ℕ}
use mathlib.Core.Path.{◌≡◌, refl, sym, ap, ◌∙◌}
use mathlib.Core.Bool.{Bool, true, false, cond, ◌||◌}
use mathlib.Core.List.{List, [], ◌∷◌}
use mathlib.Core.Option.{Option, some}
use lib.Dec.{eqb}
use Rattle.std.specs.Prelude.{Option as Maybe, Some, None}
use Rattle.rules.specs.State.{State as Status}
use Rattle.rules.specs.Stack.{Static, Local, local, shape, has, lookup, Stack as Scope}
use Rattle.rules.proofs.FrameRules.{is_some}
use Rattle.rules.specs.Report.{use_of, bad_use}
use Rattle.scope_state.specs.Locals.{lent, found_in, Finds}

has-head : (b : Bool) (s : Static) (a : Status) (h : Bool) (o : Option (Local Status)) → h ≡ is_some o → (b || h) ≡ is_some (cond b (some (local s a)) o)
has-head true s a h o e = refl
has-head false s a h o e = e

-- a name is a local's where one is found
has-lookup : (n : ℕ) (σ : Scope Status) → has n (shape σ) ≡ is_some (lookup n σ)
has-lookup n [] = refl
has-lookup n (local s a ∷ σ) = has-head (eqb s.name n) s a (has n (shape σ)) (lookup n σ) (has-lookup n σ)

module _ {names : List ℕ} {n name : ℕ} {r : Maybe ℕ} (f : Finds names n name r) (types depths births : List ℕ) (at : ℕ → Status) where
  abbrev held : Scope Status
  held = lent names types depths births at n

  found_as : {x : Maybe ℕ} → r ≡ x → lookup name held ≡ found_in names types depths births at x
  found_as e = f.is types depths births at ∙ ap (found_in names types depths births at) e

  pub found_local : {i : ℕ} → r ≡ Some i → true ≡ has name (shape held)
  found_local e = sym (has-lookup name held ∙ ap is_some (found_as e))

  pub found_none : r ≡ None → false ≡ has name (shape held)
  found_none e = sym (has-lookup name held ∙ ap is_some (found_as e))

  pub use-some : {i : ℕ} → r ≡ Some i → (p : ℕ) → use_of p (lookup name held) ≡ bad_use p (at i)
  use-some e p = ap (use_of p) (found_as e)

  pub use-none : r ≡ None → (p : ℕ) → use_of p (lookup name held) ≡ []
  use-none e p = ap (use_of p) (found_as e)
