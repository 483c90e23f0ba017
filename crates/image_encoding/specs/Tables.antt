-- The bytes of the tables and the entry (document 01, "The image").
use Rattle.std.specs.Prelude.{ℕ, List, [], ◌∷◌, ◌++◌, length, get_or}
use Rattle.image_fields.specs.Bytes.{two_bytes, four_bytes, number_bytes, each_bytes}
use Rattle.tables.specs.Ty.{Ty, of_width, shape_width}
use Rattle.tables.specs.Signature.{Method, Struct, Global, Param, Entry, this_width}
use Rattle.tables.specs.Tables.{Tables}

-- a count and the entries
abbrev pub encode_table : {A : Type 0} → (A → List ℕ) → List A → List ℕ
encode_table f xs = two_bytes (length xs) ++ each_bytes f xs

unfoldable pub encode_name : List ℕ → List ℕ
encode_name n = length n ∷ n

unfoldable pub encode_type : Ty → List ℕ
encode_type t = t.kind ∷ (number_bytes (get_or of_width t.kind 0) t.of ++ number_bytes (get_or shape_width t.kind 0) t.shape)

unfoldable pub encode_method : Method → List ℕ
encode_method m = two_bytes m.name ++ (m.modifier ∷ [])

unfoldable pub encode_struct : Struct → List ℕ
encode_struct x = two_bytes x.name ++ (x.destructor ∷ (two_bytes x.shape ++ encode_table encode_method x.methods))

unfoldable pub encode_global : Global → List ℕ
encode_global g = two_bytes g.name ++ four_bytes g.span

unfoldable pub encode_param : Param → List ℕ
encode_param p = two_bytes p.name ++ two_bytes p.ty

unfoldable pub encode_entry : Entry → List ℕ
encode_entry e = e.receiver ∷ (number_bytes (this_width e.receiver) e.this ++ encode_table encode_param e.params)

unfoldable pub encode_tables : Tables → List ℕ
encode_tables T =
    encode_table encode_name T.names ++ (encode_table encode_type T.types
    ++ (encode_table encode_struct T.structs ++ encode_table encode_global T.globals))
