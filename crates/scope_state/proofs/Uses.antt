-- The number of a state is the kind of error that a use reports.
-- Assumes nothing.
use Prim.Native.Nat.{ℕ, zero, suc, ◌<◌}
use mathlib.Core.Path.{◌≡◌, refl}
use mathlib.Core.Bool.{cond}
use mathlib.Core.List.{List, [], ◌∷◌}
use native.Mathlib.Omega.{arith}
use lib.Dec.{eqb}
use Rattle.rules.specs.Report.{error, first, bad_use}
use Rattle.scope_state.specs.Kinds.{base_of, said}

pub bad-use : (s k : ℕ) (ps : List ℕ) → k < 7 → bad_use s (said k ps) ≡ cond (eqb k 0) [] (error k s 0 (cond (eqb (base_of k) 3) ps (first ps)) ∷ [])
bad-use s zero ps h = refl
bad-use s (suc zero) ps h = refl
bad-use s (suc (suc zero)) ps h = refl
bad-use s (suc (suc (suc zero))) ps h = refl
bad-use s (suc (suc (suc (suc zero)))) ps h = refl
bad-use s (suc (suc (suc (suc (suc zero))))) ps h = refl
bad-use s (suc (suc (suc (suc (suc (suc zero)))))) ps h = refl
bad-use s (suc (suc (suc (suc (suc (suc (suc k))))))) ps h = absurd (omega arith)
