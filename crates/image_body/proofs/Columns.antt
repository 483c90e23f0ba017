-- The columns of a leaf.
-- Assumes nothing.
use mathlib.Core.Path.{◌≡◌, refl, sym}
use mathlib.Core.List.{[], ◌∷◌}
use mathlib.Core.Bool.{Bool, true, false, not, ◌||◌}
use mathlib.Core.Logic.{◌⊎◌, inl, inr, ⊎_elim}
use Prim.Native.Nat.{ℕ, ◌≤◌, ◌<◌}
use native.Mathlib.Omega.{arith}
use lib.ListN.{get_or}
use lib.Dec.{T, ltb, eqb}
use borrow.Author.Tests.{lt-ltb, le-ltb, ltb-true, eqb-true}
use Rattle.image_fields.proofs.Tests.{less, and-true}
use Rattle.image_fields.proofs.Rules.{at}
use Rattle.image_fields.proofs.Columns.{Unnamed, passes}
use Rattle.image_body.specs.Expr.{arg_width, fixed_count, count_width, last_width, leaf}

untrue : (b : Bool) → T (not b) → b ≡ false
untrue true t = absurd t
untrue false t = refl

one-two : (k : ℕ) → 1 ≤ k → k < 3 → (k ≡ 1) ⊎ (k ≡ 2)
one-two k le lt = ⊎_elim (λ (l : k < 2). inl (omega arith)) (λ (l : 2 ≤ k). inr (omega arith)) (less k 2)

no-leaf : (k : ℕ) → Unnamed (15 ∷ 13 ∷ 2 ∷ 1 ∷ []) k → false ≡ leaf k
unfolding fixed_count count_width last_width
no-leaf k n =
    ⊎_elim (λ l. sym (untrue (leaf k) (passes (λ i x. not (leaf i)) fixed_count (15 ∷ 13 ∷ 2 ∷ 1 ∷ []) tt k n l))) (λ l. simp (lt-ltb 0 k (omega arith), le-ltb k 16 l)) (less k 16)

pub leaf-high : (k : ℕ) → 3 ≤ k → ((k ≡ 13) ⊎ (k ≡ 15) → ⊥) → false ≡ leaf k
leaf-high k le n =
    let a : k ≡ 1 → ⊥ = omega arith in
    let b : k ≡ 2 → ⊥ = omega arith in
    no-leaf k ((((tt, a), b), λ e. n (inl e)), λ e. n (inr e))

pub leaf-low : (k : ℕ) → 1 ≤ k → k < 3 → true ≡ leaf k
unfolding fixed_count count_width last_width
leaf-low k le lt = ⊎_elim (λ e. rw e refl) (λ e. rw e refl) (one-two k le lt)

-- a leaf has no children, no count and no name after them
pub leaf-columns : (k : ℕ) → leaf k ≡ true → (k < 16) × (get_or fixed_count k 0 ≡ 0) × (get_or count_width k 0 ≡ 0) × (get_or last_width k 0 ≡ 0)
leaf-columns k e =
    let a = and-true (ltb k 16) _ (and-true (ltb 0 k) _ e).1 in
    let b = and-true (eqb (get_or fixed_count k 0) 0) _ a.1 in
    let c = and-true (eqb (get_or count_width k 0) 0) _ b.1 in
    (ltb-true k 16 a.0, eqb-true _ 0 b.0, eqb-true _ 0 c.0, eqb-true _ 0 c.1)

-- nor an operator
pub leaf-operator : (k : ℕ) → leaf k ≡ true → eqb (get_or arg_width k 0) 1 ≡ false
unfolding arg_width fixed_count count_width last_width
leaf-operator k e = untrue _ (rw e at (at (λ i x. not (leaf i) || not (eqb x 1)) arg_width tt k (leaf-columns k e).0))
