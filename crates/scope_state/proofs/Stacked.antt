-- Laws of stacked: a stack from what its locals are and what is said of them; and what find_local found.
-- Assumes nothing.
use Prim.Native.Nat.{ℕ, zero, suc, ◌+◌, ◌-◌, ◌≤◌, ◌<◌}
use mathlib.Core.Path.{◌≡◌, refl, ap, subst}
use mathlib.Core.Bool.{cond, ◌&&◌}
use mathlib.Core.List.{List, [], ◌∷◌}
use mathlib.Core.Logic.{◌≢◌, ⊎_elim}
use mathlib.Core.Option.{none, some}
use borrow.Author.Tests.{eq-eqb, ne_eqb}
use native.Mathlib.Numerals.{add-one}
use native.Mathlib.Omega.{arith}
use lib.Dec.{eqb}
use lib.ListN.{length, get_or}
use Rattle.image_fields.proofs.Tests.{less}
use Rattle.std.specs.Prelude.{Option, Some, None}
use Rattle.rules.specs.State.{State as Status}
use Rattle.rules.specs.Stack.{Static, local, Shape, shape, lookup, in_frame, Stack as Scope}
use Rattle.scope_state.specs.Locals.{stacked, static_in, Below, Finds}

module _ (f : ℕ → Static) (g : ℕ → Status) where
  pub length-stacked : (n : ℕ) → length (stacked n f g) ≡ n
  unfolding stacked
  length-stacked zero = refl
  length-stacked (suc n) = ap suc (length-stacked n)

  -- the newest of the first i, for the code's i - 1
  pub stacked-pos : (i : ℕ) → 0 < i → stacked i f g ≡ local (f (i - 1)) (g (i - 1)) ∷ stacked (i - 1) f g
  unfolding stacked
  stacked-pos zero h = absurd (omega arith)
  stacked-pos (suc n) h =
      let e : suc n - 1 ≡ n = omega arith in
      rw e

  pub stacked-none : (i : ℕ) → i ≤ 0 → stacked i f g ≡ []
  unfolding stacked
  stacked-none zero h = refl
  stacked-none (suc n) h = absurd (omega arith)

  pub stacked-more : (i : ℕ) → stacked (i + 1) f g ≡ local (f i) (g i) ∷ stacked i f g
  unfolding stacked
  stacked-more i = rw add-one

-- the same locals
pub agree : (n : ℕ) (f f' : ℕ → Static) (g g' : ℕ → Status) → ((k : ℕ) → k < n → f k ≡ f' k) → ((k : ℕ) → k < n → g k ≡ g' k)
    → stacked n f g ≡ stacked n f' g'
unfolding stacked
agree zero f f' g g' a b = refl
agree (suc n) f f' g g' a b =
    let rest : stacked n f g ≡ stacked n f' g' = agree n f f' g g' (λ k l. a k (omega arith)) (λ k l. b k (omega arith)) in
    let s : f n ≡ f' n = a n (omega arith) in
    let t : g n ≡ g' n = b n (omega arith) in
    rw (s, t, rest)

-- what is said of the locals is not in their shape
pub shape_same : (n : ℕ) (f : ℕ → Static) (g h : ℕ → Status) → shape (stacked n f g) ≡ shape (stacked n f h)
unfolding stacked
shape_same zero f g h = refl
shape_same (suc n) f g h = ap (λ (Γ : Shape). f n ∷ Γ) (shape_same n f g h)

-- what a frame says of a name, local by local
pub framed : (name d : ℕ) (h : Status → Status) (f : ℕ → Static) (g : ℕ → Status) (n : ℕ)
    → in_frame name d h (stacked n f g) ≡ stacked n f (λ i. cond (eqb (f i).name name && eqb (f i).depth d) (h (g i)) (g i))
unfolding stacked
framed name d h f g zero = refl
framed name d h f g (suc n) =
    ap (λ (σ : Scope Status). local (f n) (cond (eqb (f n).name name && eqb (f n).depth d) (h (g n)) (g n)) ∷ σ) (framed name d h f g n)

module _ (f : ℕ → Static) (g : ℕ → Status) (name : ℕ) where
  pub find-none : (n : ℕ) → ((k : ℕ) → k < n → (f k).name ≢ name) → lookup name (stacked n f g) ≡ none
  unfolding stacked
  find-none zero h = refl
  find-none (suc n) h =
      let other : (f n).name ≢ name = h n (omega arith) in
      rw (ne_eqb _ _ other) (find-none n (λ k l. h k (omega arith)))

  pub find-last : (n i : ℕ) → i < n → (f i).name ≡ name → ((k : ℕ) → i < k → k < n → (f k).name ≢ name)
      → lookup name (stacked n f g) ≡ some (local (f i) (g i))
  unfolding stacked
  find-last zero i l e h = absurd (omega arith)
  find-last (suc n) i l e h =
      ⊎_elim
      (λ (q : i < n). let other : (f n).name ≢ name = h n q (omega arith) in rw (ne_eqb _ _ other) (find-last n i q e (λ k a b. h k a (omega arith))))
      (λ (q : n ≤ i). let z : n ≡ i = omega arith in rw (z, eq-eqb _ _ e))
      (less i n)

-- what a search from the newest local down finds
module _ (names : List ℕ) (n name : ℕ) where
  pub finds-none : ((k : ℕ) → k < n → get_or names k 0 ≢ name) → Finds names n name None
  finds-none h = record { below = tt; is = λ types depths births at. find-none (static_in names types depths births) at name n h }

  pub finds-last : (i : ℕ) → i < n → get_or names i 0 ≡ name → ((k : ℕ) → i < k → k < n → get_or names k 0 ≢ name) → Finds names n name (Some i)
  finds-last i l e h = record { below = l; is = λ types depths births at. find-last (static_in names types depths births) at name n i l e h }

pub found_below : {names : List ℕ} {n name : ℕ} {r : Option ℕ} → Finds names n name r → {i : ℕ} → r ≡ Some i → i < n
found_below {n = n} f e = subst (λ (x : Option ℕ). Below x n) e f.below
