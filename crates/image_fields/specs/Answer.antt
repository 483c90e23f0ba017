-- The code's answers for what the definitions say, a fault by its number.
use Rattle.std.specs.Prelude.{ℕ, List, length, Result, Ok, Err}
use Rattle.image_fields.specs.Parsed.{Parsed, ok, fault}

-- the position after a value, or the fault's number
unfoldable pub read_of : {A : Type 0} → Parsed A → Result ℕ ℕ
read_of (ok a p) = Ok p
read_of (fault n) = Err n

-- a number and the position after it, or the fault's number
unfoldable pub number_of : Parsed ℕ → Result (ℕ × ℕ) ℕ
number_of (ok a p) = Ok (a, p)
number_of (fault n) = Err n

-- the same, with what is said in place of the fault's number
unfoldable pub number_or : {E : Type 0} → E → Parsed ℕ → Result (ℕ × ℕ) E
number_or e (ok a p) = Ok (a, p)
number_or e (fault n) = Err e

-- a table's count and the position after it, or the fault's number
unfoldable pub table_of : {A : Type 0} → Parsed (List A) → Result (ℕ × ℕ) ℕ
table_of (ok xs p) = Ok (length xs, p)
table_of (fault n) = Err n
