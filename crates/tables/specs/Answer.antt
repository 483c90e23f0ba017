-- The code's answers for what the definitions say.
use Rattle.std.specs.Prelude.{◌≡◌, ℕ, ◌+◌, ◌-◌, ◌<◌, ◌&&◌, cond, List, map, length, take, nat_lt, nat_le, slice_index, Result, Ok, Err}
use Rattle.image_fields.specs.declared.Fault.{Fault}
use Rattle.image_fields.specs.Fault.{fault_number}
use Rattle.image_fields.specs.Parsed.{Parsed, ok, fault}
use Rattle.tables.specs.Name.{name_of, key_of}
use Rattle.tables.specs.Ty.{Ty}
use Rattle.tables.specs.declared.ty.Kind.{Kind}
use Rattle.tables.specs.declared.ty.Kind.TheVariants.{Plain, Named, Generic, Array, Pointer}
use Rattle.tables.specs.declared.ty.Parts.{Parts}

abbrev pub kind_number : Kind → ℕ
kind_number Plain = 0
kind_number Named = 1
kind_number Generic = 2
kind_number Array = 3
kind_number Pointer = 4

-- a type's kind, its name or lower type, and the position after it, or the fault's number
abbrev pub coded_type : Result Parts Fault → Result (ℕ × ℕ × ℕ) ℕ
coded_type (Ok t) = Ok (kind_number t.kind, t.of, t.next)
coded_type (Err f) = Err (fault_number f)

unfoldable pub type_of : Parsed Ty → Result (ℕ × ℕ × ℕ) ℕ
type_of (ok t p) = Ok (t.kind, t.of, p)
type_of (fault n) = Err n

-- the length of the name at a position, where one of 1 to 64 bytes stands within the bytes
abbrev pub length_at : List ℕ → ℕ → Result ℕ ℕ
length_at s p = cond (nat_lt 0 (slice_index s p) && (nat_le (slice_index s p) 64 && nat_lt (slice_index s p) (length s - p))) (Ok (slice_index s p)) (Err 3)

-- the first i positions lie within the bytes
abbrev pub Within : List ℕ → List ℕ → ℕ → Type 0
Within s starts i = (k : ℕ) → k < i → slice_index starts k < length s

-- the names at the first i positions lie within the bytes
abbrev pub Whole : List ℕ → List ℕ → ℕ → Type 0
Whole s starts i = (k : ℕ) → k < i → slice_index starts k + slice_index s (slice_index starts k) < length s

-- the first i keys are those of the names at the first i positions
pub record Keyed (s starts keys : List ℕ) (i : ℕ) : Type 0 where
  pub are : (k : ℕ) → k < i → slice_index keys k ≡ key_of (name_of s (slice_index starts k))

-- the entries of a table stand at the first of these positions
pub record Listed {A : Type 0} (view : ℕ → A) (s starts : List ℕ) (xs : List A) : Type 0 where
  pub placed : map view (take (length xs) starts) ≡ xs
  pub within : Within s starts (length xs)
