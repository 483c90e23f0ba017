-- Big-endian numbers in bytes (document 01, "The image": counts, names, types and shapes take two bytes, spans four).
-- Past the end a byte counts as 0.
use Rattle.std.specs.Prelude.{ℕ, ◌+◌, ◌-◌, ◌*◌, List, cond, length, get_or, ltb, leb, eqb}
use Rattle.image_fields.specs.Parsed.{Parsed, ok, ensure}

abbrev pub two : List ℕ → ℕ → ℕ
two s at = get_or s at 0 * 256 + get_or s (at + 1) 0

abbrev pub four : List ℕ → ℕ → ℕ
four s at = two s at * 65536 + two s (at + 2)

-- the number in k bytes, k being 1, 2 or 4; 0 in no bytes
abbrev pub number_in : List ℕ → ℕ → ℕ → ℕ
number_in s k at = cond (eqb k 2) (two s at) (cond (eqb k 1) (get_or s at 0) (cond (eqb k 4) (four s at) 0))

-- a number of k bytes below a limit, or the fault f
unfoldable pub field_at : ℕ → ℕ → ℕ → List ℕ → ℕ → Parsed ℕ
field_at f limit k s at =
    ensure (leb k (length s - at)) f
    (ensure (ltb (number_in s k at) limit) f
    (ok (number_in s k at) (at + k)))
