-- The bytes of a name compared with a word, from the first on.
-- Assumes nothing.
use Rattle.std.proofs.Common.{◌≡◌, ℕ, suc, ◌+◌, ◌-◌, ◌<◌, true, false, ◌&&◌, eqb, List, [], ◌∷◌, length, get_or, sym, refl, ap, ◌∙◌, ⊎_elim, arith, eq-eqb, ne_eqb}
use Rattle.image_fields.proofs.Tests.{split}
use Rattle.tables.specs.Name.{bytes_at, name_of, same_bytes, starts_with}
use Rattle.tables.proofs.Names.{length-bytes}

pub rest-bytes : (s : List ℕ) (p n i : ℕ) → i < n → bytes_at s (p + i) (n - i) ≡ get_or s (p + i) 0 ∷ bytes_at s (p + (i + 1)) (n - (i + 1))
unfolding bytes_at
rest-bytes s p n i lt =
    let e : n - i ≡ suc (n - (i + 1)) = omega arith in
    let f : p + i + 1 ≡ p + (i + 1) = omega arith in
    rw (e, f)

-- the steps of a loop
module _ {xs ys us vs : List ℕ} {x y : ℕ} (e : xs ≡ x ∷ us) (f : ys ≡ y ∷ vs) where
  pub starts-differ : (x ≡ y → ⊥) → starts_with xs ys ≡ false
  unfolding starts_with
  starts-differ n = rw (e, f, ne_eqb x y n)

  pub starts-next : x ≡ y → starts_with xs ys ≡ starts_with us vs
  unfolding starts_with
  starts-next g = rw (e, f, eq-eqb x y g)

pub starts_none : {xs : List ℕ} (ys : List ℕ) → xs ≡ [] → starts_with xs ys ≡ true
unfolding starts_with
starts_none ys e = rw e

-- nothing begins with a longer word
pub starts-short : (xs ys : List ℕ) → length ys < length xs → starts_with xs ys ≡ false
unfolding starts_with
starts-short [] ys lt = absurd (omega arith)
starts-short (x ∷ xs) [] lt = refl
starts-short (x ∷ xs) (y ∷ ys) lt =
    ⊎_elim (λ t. rw t (starts-short xs ys (omega arith))) (λ t. rw t) (split (eqb x y))

-- a name is a word if it begins with it and is as long
pub same-starts : (xs ys : List ℕ) → length ys ≡ length xs → same_bytes xs ys ≡ starts_with xs ys
unfolding same_bytes starts_with
same-starts [] [] e = refl
same-starts [] (y ∷ ys) e = absurd (omega arith)
same-starts (x ∷ xs) [] e = absurd (omega arith)
same-starts (x ∷ xs) (y ∷ ys) e = ap (λ b. eqb x y && b) (same-starts xs ys (omega arith))

pub same_length : (xs ys : List ℕ) → (length ys ≡ length xs → ⊥) → same_bytes xs ys ≡ false
unfolding same_bytes
same_length [] [] n = absurd (n refl)
same_length [] (y ∷ ys) n = refl
same_length (x ∷ xs) [] n = refl
same_length (x ∷ xs) (y ∷ ys) n =
    ⊎_elim (λ t. rw t (same_length xs ys (λ e. n (ap suc e)))) (λ t. rw t) (split (eqb x y))

-- the name at a position
module _ (s word : List ℕ) (at : ℕ) {n : ℕ} (e : n ≡ get_or s at 0) where
  pub name-length : length (name_of s at) ≡ n
  unfolding name_of
  name-length = length-bytes s (at + 1) (get_or s at 0) ∙ sym e

  pub name-short : n < length word → false ≡ starts_with word (name_of s at)
  name-short lt = sym (starts-short word (name_of s at) (let l = name-length in omega arith))

  pub name-start : starts_with word (name_of s at) ≡ starts_with word (bytes_at s (at + 1 + 0) (n - 0))
  unfolding name_of
  name-start =
      let a : at + 1 ≡ at + 1 + 0 = omega arith in
      let b : get_or s at 0 ≡ n - 0 = omega arith in
      ap (λ p. starts_with word (bytes_at s p (get_or s at 0))) a ∙ ap (λ k. starts_with word (bytes_at s (at + 1 + 0) k)) b

  pub name-is : n ≡ length word → starts_with word (name_of s at) ≡ same_bytes word (name_of s at)
  name-is f = sym (same-starts word (name_of s at) (name-length ∙ f))

  pub name-not : (n ≡ length word → ⊥) → false ≡ same_bytes word (name_of s at)
  name-not f = sym (same_length word (name_of s at) (λ g. f (sym name-length ∙ g)))
