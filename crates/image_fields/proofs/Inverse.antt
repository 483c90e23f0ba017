-- What an accepted reading tells of its steps.
-- Assumes nothing.
use mathlib.Core.Path.{◌≡◌, refl}
use mathlib.Core.Bool.{Bool, true, false}
use Prim.Native.Nat.{ℕ}
use native.Mathlib.Omega.{arith}
use Rattle.image_fields.specs.Parsed.{Parsed, ok, fault, bind, ensure}

pub impossible : {A C : Type 0} {n : ℕ} {a : A} {p : ℕ} → fault n ≡ ok a p → C
impossible e = let z : ◌≡◌ {A = ℕ} 0 1 = cc in absurd (omega arith)

pub bind_ok : {A B : Type 0} {x : Parsed A} {k : A → ℕ → Parsed B} {b : B} {q : ℕ} → bind x k ≡ ok b q
    → (a : A) × (p : ℕ) × (x ≡ ok a p) × (k a p ≡ ok b q)
unfolding bind
bind_ok {x = ok a p} e = (a, p, refl, e)
bind_ok {x = fault n} e = impossible e

pub ensure-ok : {A : Type 0} {b : Bool} (n : ℕ) {k : Parsed A} {a : A} {p : ℕ} → ensure b n k ≡ ok a p → (b ≡ true) × (k ≡ ok a p)
unfolding ensure
ensure-ok {b = true} n e = (refl, e)
ensure-ok {b = false} n e = impossible e

-- the same, for a chain of steps: what follows is a function of variables, so that no term grows
pub bound : {A B C : Type 0} {x : Parsed A} {k : A → ℕ → Parsed B} {b : B} {q : ℕ} → bind x k ≡ ok b q
    → ((a : A) (p : ℕ) → x ≡ ok a p → k a p ≡ ok b q → C) → C
bound e f = let g = bind_ok e in f g.0 g.1 g.2 g.3
