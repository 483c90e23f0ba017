-- Runs of entries: what was read is what was written, and what was written is read back, for any entry.
-- Assumes nothing.
use mathlib.Core.Path.{◌≡◌, refl, sym, ap, ◌∙◌, subst₂}
use mathlib.Core.List.{List, [], ◌∷◌, ◌++◌, append_assoc, append-nil}
use mathlib.Core.Logic.{inl}
use Prim.Native.Nat.{ℕ, zero, suc, ◌≤◌, ◌<◌}
use native.Mathlib.Omega.{arith}
use lib.ListN.{length}
use Rattle.image_fields.specs.Parsed.{Parsed, ok, bind}
use Rattle.image_fields.specs.Table.{many_of, table_from, table_at}
use Rattle.image_fields.specs.Bytes.{two_bytes, number_bytes, each_bytes, Bytes}
use Rattle.image_fields.proofs.Inverse.{bound}
use Rattle.image_fields.proofs.Tables.{table-all, table-parts, count-good}
use Rattle.image_encoding.specs.Written.{Written}
use Rattle.image_encoding.specs.Tables.{encode_table}
use Rattle.image_encoding.specs.Valid.{Each}
use Rattle.image_encoding.proofs.Parts.{then, nothing, being, split, field-written, field-read-back}

pub each_append : {A : Type 0} (f : A → List ℕ) (xs : List A) (x : A) → each_bytes f (xs ++ (x ∷ [])) ≡ each_bytes f xs ++ f x
unfolding each_bytes
each_append f [] x = append-nil (f x)
each_append f (y ∷ xs) x = ap (λ z. f y ++ z) (each_append f xs x) ∙ sym (append_assoc (f y) (each_bytes f xs) (f x))

-- so many of a kind: a property of each that was read holds of all
module _ {A L : Type 0} (nil : L) (cons : A → L → L) (f : ℕ → Parsed A) where
  pub many-all : (P : A → ℕ → ℕ → Type 0) (Q : L → ℕ → ℕ → ℕ → Type 0)
      → ((p : ℕ) → Q nil 0 p p) → ((x : A) (xs : L) (n p q r : ℕ) → P x p q → Q xs n q r → Q (cons x xs) (suc n) p r)
      → ((p : ℕ) (x : A) (q : ℕ) → f p ≡ ok x q → P x p q)
      → (n p : ℕ) (xs : L) (q : ℕ) → many_of nil cons f n p ≡ ok xs q → Q xs n p q
  unfolding many_of
  many-all P Q none more each zero p xs q e =
      let a : nil ≡ xs = cc in
      let b : p ≡ q = cc in
      subst₂ (λ y z. Q y 0 p z) a b (none p)
  many-all P Q none more each (suc n) p xs q e =
      bound e (λ y r e1 e2. bound e2 (λ ys u e3 e4.
      let a : cons y ys ≡ xs = cc in
      let b : u ≡ q = cc in
      subst₂ (λ v z. Q v (suc n) p z) a b (more y ys n p r u (each p y r e1) (many-all P Q none more each n r ys u e3))))

  pub many-none : (p : ℕ) → many_of nil cons f 0 p ≡ ok nil p
  unfolding many_of
  many-none p = refl

  pub many_more : (n : ℕ) {p q r : ℕ} {x : A} {xs : L} → f p ≡ ok x q → many_of nil cons f n q ≡ ok xs r → many_of nil cons f (suc n) p ≡ ok (cons x xs) r
  unfolding many_of bind
  many_more n e g = rw (e, g)

-- a table
module _ {A : Type 0} (enc : A → List ℕ) (f : List A → ℕ → Parsed A) (s : List ℕ) where
  pub table-written : Bytes s → ((xs : List A) (p : ℕ) (x : A) (q : ℕ) → f xs p ≡ ok x q → Written s p (enc x) q)
      → (k least limit p : ℕ) (xs : List A) (q : ℕ) → table_at k least limit f s p ≡ ok xs q → Written s p (encode_table enc xs) q
  unfolding number_bytes each_bytes
  table-written small each k least limit p xs q e =
      let g = table-parts f k least limit s p e in
      then (being (ap two_bytes (sym g.5)) (field-written s small _ _ {k = 2} (inl (omega arith)) g.2))
      (table-all f (λ x o r. Written s o (enc x) r) (λ ys o r. Written s o (each_bytes enc ys) r)
      (λ o. nothing) (λ ys y o r u a b. being (sym (each_append enc ys y)) (then a b)) each
      [] g.0 g.1 g.1 xs q nothing g.4)

  module _ (Good : List A → A → Type 0) (each : (xs : List A) (p : ℕ) (x : A) (q : ℕ) → Good xs x → Written s p (enc x) q → f xs p ≡ ok x q) where
    entries-back : (ys xs : List A) (p q : ℕ) → Each Good xs ys → Written s p (each_bytes enc ys) q → table_from f xs (length ys) p ≡ ok (xs ++ ys) q
    unfolding table_from each_bytes Each bind
    entries-back [] xs p q v g = let e = g.end in rw append-nil (ap (ok xs) (omega arith))
    entries-back (y ∷ ys) xs p q v g =
        split (enc y) (each_bytes enc ys) g (λ r a b.
        rw (each xs p y r v.0 a) (entries-back ys (xs ++ (y ∷ [])) r q v.1 b ∙ ap (λ z. ok z q) (append_assoc xs (y ∷ []) ys)))

    pub table-read-back : (k least limit p : ℕ) (xs : List A) (q : ℕ) → least ≤ length xs → length xs < limit → Each Good [] xs
        → Written s p (encode_table enc xs) q → table_at k least limit f s p ≡ ok xs q
    unfolding number_bytes
    table-read-back k least limit p xs q le lt v g =
        split (two_bytes (length xs)) (each_bytes enc xs) g (λ r a b.
        count-good f k least limit s p (field-read-back k limit {k = 2} (inl (omega arith)) (λ z. absurd (omega arith)) lt a) le
        ∙ entries-back xs [] r q v b)
