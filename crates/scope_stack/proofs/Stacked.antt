-- The depth of the newest local of a name is that of the local that a lookup finds.
-- Assumes nothing.
use Rattle.std.proofs.Common.{◌≡◌, ℕ, Bool, true, false, cond, eqb, [], ◌∷◌, refl}
use Rattle.std.proofs.Math.Option.{Option, none, some}
use Rattle.rules.specs.State.{State as Status}
use Rattle.rules.specs.Stack.{Static, Local, local, lookup, Stack as Scope}
use Rattle.scope_stack.specs.View.{depth_of}

abbrev pub depth_in : Option (Local Status) → ℕ
depth_in none = 0
depth_in (some (local s a)) = s.depth

depth-step : (b : Bool) (s : Static) (a : Status) (r : ℕ) (o : Option (Local Status)) → r ≡ depth_in o → cond b s.depth r ≡ depth_in (cond b (some (local s a)) o)
depth-step true s a r o e = refl
depth-step false s a r o e = e

pub depth-lookup : (n : ℕ) (σ : Scope Status) → depth_of n σ ≡ depth_in (lookup n σ)
depth-lookup n [] = refl
depth-lookup n (local s a ∷ σ) = depth-step (eqb s.name n) s a (depth_of n σ) (lookup n σ) (depth-lookup n σ)
