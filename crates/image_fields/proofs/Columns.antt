-- A column as a match says it: what it is where no arm names the number. Assumes nothing.
use mathlib.Core.Path.{◌≡◌, refl, sym}
use mathlib.Core.List.{List, [], ◌∷◌}
use mathlib.Core.Bool.{Bool, false, ◌||◌}
use mathlib.Core.Logic.{⊎_elim}
use Prim.Native.Nat.{ℕ, ◌<◌}
use native.Mathlib.Omega.{arith}
use lib.ListN.{length, get_or}
use lib.Dec.{T, eqb, eqb→eq}
use borrow.Author.Tests.{ne_eqb}
use Rattle.image_fields.proofs.Tests.{less}
use Rattle.image_fields.proofs.Numbers.{past_end}
use Rattle.image_fields.proofs.Rules.{every, at}

-- no arm names x; the last arm comes first
abbrev pub Unnamed : List ℕ → ℕ → Type 0
Unnamed [] x = Unit {0}
Unnamed (k ∷ ks) x = Unnamed ks x × (x ≡ k → ⊥)

abbrev pub named : List ℕ → ℕ → Bool
named [] x = false
named (k ∷ ks) x = eqb x k || named ks x

unnamed : (ks : List ℕ) (x : ℕ) → Unnamed ks x → named ks x ≡ false
unnamed [] x n = refl
unnamed (k ∷ ks) x n = simp (ne_eqb x k n.1, unnamed ks x n.0)

-- each entry is named or passes a test: one that is not named passes
pub passes : (f : ℕ → ℕ → Bool) (xs ks : List ℕ) → T (every (λ i x. named ks i || f i x) 0 xs) → (k : ℕ) → Unnamed ks k → k < length xs → T (f k (get_or xs k 0))
passes f xs ks t k n lt = rw (unnamed ks k n) at (at (λ i x. named ks i || f i x) xs t k lt)

pub zero : (xs ks : List ℕ) → T (every (λ i x. named ks i || eqb x 0) 0 xs) → (k : ℕ) → Unnamed ks k → (0 ≡ get_or xs k 0) × (0 < 10)
zero xs ks t k n = (⊎_elim (λ l. sym (eqb→eq _ _ (passes (λ i x. eqb x 0) xs ks t k n l))) (λ l. sym (past_end xs k l)) (less k (length xs)), omega arith)
