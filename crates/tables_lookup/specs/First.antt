-- The first entry of a table that passes a test, by its number.
use Rattle.std.specs.Prelude.{ℕ, ◌+◌, Bool, cond, List, [], ◌∷◌, length, ◌==◌}
use Rattle.std.proofs.Math.Option.{Option, none, some}
use Rattle.image_fields.specs.Number.{two}
use Rattle.image_fields.specs.Table.{entries}
use Rattle.tables.specs.Answer.{Within}

-- the number, counted from i, of the first entry that passes the test q
unfoldable pub first_from : {A : Type 0} → (A → Bool) → ℕ → List A → Option ℕ
first_from q i [] = none
first_from q i (x ∷ xs) = cond (q x) (some i) (first_from q (i + 1) xs)

-- go on with what was found
unfoldable pub and_then : {A B : Type 0} → Option A → (A → Option B) → Option B
and_then none k = none
and_then (some a) k = k a

unfoldable pub or_else : {A : Type 0} → Option A → Option A → Option A
or_else none o = o
or_else (some a) o = some a

-- whether the number x stands at a position
abbrev pub is_number : List ℕ → ℕ → ℕ → Bool
is_number s x at = two s at == x

-- n positions, each w bytes after the one before
abbrev pub positions : ℕ → ℕ → ℕ → List ℕ
positions w n at = entries (λ p. p) w n at

-- the positions of a table's entries lie within the bytes
abbrev pub AllWithin : List ℕ → List ℕ → Type 0
AllWithin s starts = Within s starts (length starts)
