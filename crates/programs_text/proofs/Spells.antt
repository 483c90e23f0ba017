-- What is stored by the steps of the code is what the text says.
-- Assumes nothing.
use Prim.Native.Nat.{ℕ, zero, suc, ◌+◌, ◌-◌, ◌/◌, ◌%◌, ◌≤◌, ◌<◌}
use native.Mathlib.Omega.{arith}
use mathlib.Core.Path.{◌≡◌, refl, sym, subst}
use mathlib.Core.List.{List, [], ◌∷◌, ◌++◌, append_assoc}
use borrow.Author.Tests.{lt-ltb, le-ltb}
use Rattle.image_writing.specs.Stored.{Stored}
use Rattle.image_writing.proofs.Stores.{both_stored}
use Rattle.programs_text.specs.Text.{spell, numbers}

module _ {xs ys : List ℕ} {at r : ℕ} where
  pub last-put : (k n : ℕ) → k ≡ 0 → Stored xs at ((48 + n % 10) ∷ []) ys r → Stored xs at (spell k n) ys r × (r ≤ at + k + 1)
  unfolding spell
  last-put zero n e s = (s, let p = s.place in omega arith)
  last-put (suc k) n e s = absurd (omega arith)

  pub short-put : (k n : ℕ) → (k ≡ 0 → ⊥) → n < 10 → Stored xs at ((48 + n) ∷ []) ys r → Stored xs at (spell k n) ys r × (r ≤ at + k + 1)
  unfolding spell
  short-put zero n z h s = absurd (z refl)
  short-put (suc k) n z h s = (rw (lt-ltb n 10 h) s, let p = s.place in omega arith)

pub more-put : {xs ys zs : List ℕ} {at q r : ℕ} (k n : ℕ) → (k ≡ 0 → ⊥) → 10 ≤ n
    → Stored xs at (spell (k - 1) (n / 10)) ys q × (q ≤ at + (k - 1) + 1) → Stored ys q ((48 + n % 10) ∷ []) zs r
    → Stored xs at (spell k n) zs r × (r ≤ at + k + 1)
unfolding spell
more-put zero n z h s u = absurd (z refl)
more-put {xs} {ys} {zs} {at} {q} {r} (suc k) n z h s u =
    let e : suc k - 1 ≡ k = omega arith in
    let w = subst (λ j. Stored xs at (spell j (n / 10)) ys q) e s.0 in
    (rw (le-ltb n 10 h) (both_stored w u), let p = u.place in let b = s.1 in omega arith)

-- the same bytes, written another way
pub spelled_as : {xs ys u v : List ℕ} {i j : ℕ} → v ≡ u → Stored xs i u ys j → Stored xs i v ys j
spelled_as {xs} {ys} {u} {v} {i} {j} e a = subst (λ (w : List ℕ). Stored xs i w ys j) (sym e) a

-- numbers one after another
pub one_more : {xs ys zs : List ℕ} {p q r : ℕ} (n : ℕ) (ns vs : List ℕ)
    → Stored xs p (32 ∷ spell 19 n) ys q → Stored ys q (numbers ns ++ vs) zs r → Stored xs p (numbers (n ∷ ns) ++ vs) zs r
unfolding numbers
one_more n ns vs a b = spelled_as (append_assoc (32 ∷ spell 19 n) (numbers ns) vs) (both_stored a b)

pub no_more : {xs ys vs : List ℕ} {p q : ℕ} → Stored xs p vs ys q → Stored xs p (numbers [] ++ vs) ys q
unfolding numbers
no_more a = a

-- the largest number of 64 bits has all its 20 digits
pub largest : spell 19 18446744073709551615
    ≡ 49 ∷ 56 ∷ 52 ∷ 52 ∷ 54 ∷ 55 ∷ 52 ∷ 52 ∷ 48 ∷ 55 ∷ 51 ∷ 55 ∷ 48 ∷ 57 ∷ 53 ∷ 53 ∷ 49 ∷ 54 ∷ 49 ∷ 53 ∷ []
unfolding spell
largest = refl
