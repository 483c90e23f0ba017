-- The code's answers for what the definitions say.
use Rattle.std.specs.Prelude.{ℕ, ◌≡◌, List, [], Bool, true, get_or, Option, None, Some, Result, Ok, Err}
use Rattle.image_fields.specs.Parsed.{Parsed, ok, fault}
use Rattle.tables.specs.Name.{below_bytes}
use Rattle.tables.specs.Signature.{Struct, rises}

-- a struct's name and the position after it, or the fault's number
unfoldable pub struct_name_of : Parsed Struct → Result (ℕ × ℕ) ℕ
struct_name_of (ok x p) = Ok (x.name, p)
struct_name_of (fault n) = Err n

-- whether a name is above the name `last`, if there is one
abbrev pub above_last : List (List ℕ) → Option ℕ → ℕ → Bool
above_last ns None name = true
above_last ns (Some last) name = below_bytes (get_or ns last []) (get_or ns name [])

-- a name rises after the structs ss exactly if it is above the name `last`
pub record Ends (ns : List (List ℕ)) (ss : List Struct) (last : Option ℕ) : Type 0 where
  pub is : (name : ℕ) → rises ns ss name ≡ above_last ns last name
