-- Runs of entries: so many, one after another.
use Rattle.std.specs.Prelude.{ℕ, zero, suc, ◌+◌, List, [], ◌∷◌, ◌++◌, Bool, false, ◌||◌, leb}
use Rattle.image_fields.specs.Parsed.{Parsed, ok, bind, ensure}
use Rattle.image_fields.specs.Number.{field_at}

-- n of a kind, in a list of that kind
unfoldable pub many_of : {A L : Type 0} → L → (A → L → L) → (ℕ → Parsed A) → ℕ → ℕ → Parsed L
many_of nil cons f zero at = ok nil at
many_of nil cons f (suc n) at = bind (f at) (λ x p. bind (many_of nil cons f n p) (λ xs q. ok (cons x xs) q))

-- n more entries after those of xs; an entry is read in the knowledge of those before it
unfoldable pub table_from : {A : Type 0} → (List A → ℕ → Parsed A) → List A → ℕ → ℕ → Parsed (List A)
table_from f xs zero at = ok xs at
table_from f xs (suc n) at = bind (f xs at) (λ x p. table_from f (xs ++ (x ∷ [])) n p)

-- a table: its count, at least `least` and below `limit`, and its entries; k is the table's fault
unfoldable pub table_at : {A : Type 0} → ℕ → ℕ → ℕ → (List A → ℕ → Parsed A) → List ℕ → ℕ → Parsed (List A)
table_at k least limit f s at =
    bind (field_at k limit 2 s at) (λ n p. ensure (leb least n) k (table_from f [] n p))

-- whether x is among those, by a test of sameness
unfoldable pub member : {A : Type 0} → (A → A → Bool) → List A → A → Bool
member same [] x = false
member same (y ∷ ys) x = same y x || member same ys x

-- what stands at n positions, each k bytes after the one before
unfoldable pub entries : {A : Type 0} → (ℕ → A) → ℕ → ℕ → ℕ → List A
entries view k zero at = []
entries view k (suc n) at = view at ∷ entries view k n (at + k)
