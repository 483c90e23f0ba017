-- The tags whose nodes take over, as a match asks for them.
-- Assumes nothing.
use mathlib.Core.Path.{◌≡◌, refl}
use mathlib.Core.Bool.{true, false}
use mathlib.Core.List.{[], ◌∷◌}
use Prim.Native.Nat.{ℕ, ◌≤◌, ◌<◌}
use native.Mathlib.Omega.{arith}
use mathlib.Core.Logic.{⊎_elim}
use Rattle.image_fields.proofs.Tests.{less}
use lib.Dec.{eqb}
use lib.ListN.{get_or}
use Rattle.image_fields.proofs.Columns.{zero}
use Rattle.rules.specs.Effects.{takes}

pub takes_6 : {k : ℕ} → k ≡ 6 → true ≡ eqb (get_or takes k 0) 1
unfolding takes
takes_6 e = rw e refl

pub takes_8 : {k : ℕ} → 8 ≤ k → k ≤ 9 → true ≡ eqb (get_or takes k 0) 1
unfolding takes
takes_8 {k} l h = ⊎_elim
    (λ (m : 8 < k). let e : k ≡ 9 = omega arith in rw e refl)
    (λ (m : k ≤ 8). let e : k ≡ 8 = omega arith in rw e refl) (less 8 k)

pub takes_low : {k : ℕ} → k < 8 → (k ≡ 6 → ⊥) → false ≡ eqb (get_or takes k 0) 1
unfolding takes
takes_low {k} l n = rw (← (zero takes (9 ∷ 8 ∷ 6 ∷ []) tt k (((tt, λ e. n e), λ e. omega arith), λ e. omega arith)).0) refl

pub takes_high : {k : ℕ} → 9 < k → false ≡ eqb (get_or takes k 0) 1
unfolding takes
takes_high {k} l = rw (← (zero takes (9 ∷ 8 ∷ 6 ∷ []) tt k (((tt, λ e. omega arith), λ e. omega arith), λ e. omega arith)).0) refl
