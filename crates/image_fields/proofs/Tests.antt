-- Tests and their two outcomes.
-- Assumes nothing.
use mathlib.Core.Path.{◌≡◌, refl}
use mathlib.Core.Bool.{Bool, true, false, ◌&&◌, ◌||◌}
use mathlib.Core.Logic.{◌⊎◌, inl, inr, ⊎_elim}
use Prim.Native.Nat.{ℕ, ◌≤◌, ◌<◌}
use native.Mathlib.Omega.{arith}
use borrow.Author.Tests.{ltb-true, ltb-false}
use lib.Dec.{ltb}

pub split : (b : Bool) → (b ≡ true) ⊎ (b ≡ false)
split true = inl refl
split false = inr refl

pub less : (a b : ℕ) → (a < b) ⊎ (b ≤ a)
less a b = ⊎_elim (λ e. inl (ltb-true a b e)) (λ e. inr (ltb-false a b e)) (split (ltb a b))

pub and-true : (a b : Bool) → (a && b) ≡ true → (a ≡ true) × (b ≡ true)
and-true true b e = (refl, e)
and-true false b e = let z : ◌≡◌ {A = ℕ} 0 1 = cc in absurd (omega arith)

pub and-id : (b : Bool) → (b && true) ≡ b
and-id true = refl
and-id false = refl

pub or-true : (b : Bool) → true ≡ (b || true)
or-true true = refl
or-true false = refl

pub false-true : {C : Type 0} → false ≡ true → C
false-true e = let z : ◌≡◌ {A = ℕ} 0 1 = cc in absurd (omega arith)
