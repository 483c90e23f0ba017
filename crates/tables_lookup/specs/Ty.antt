-- What a type answers: its struct, whether its values are deleted, its class.
use Rattle.std.specs.Prelude.{ℕ, zero, suc, ◌<◌, ◌≤◌, Bool, false, cond, List, [], ◌==◌, nat_eq, slice_index_or}
use Rattle.std.proofs.Math.Option.{Option, none, some}
use Rattle.tables.specs.Ty.{Ty}
use Rattle.tables.specs.Signature.{Struct}
use Rattle.tables_lookup.specs.First.{first_from, or_else}

-- a type by its number; a plain one past the table
abbrev pub type_no : List Ty → ℕ → Ty
type_no types t = slice_index_or types t (record { kind = 0; of = 0; shape = 0 })

-- a struct by its number
abbrev pub struct_no : List Struct → ℕ → Struct
struct_no structs i = slice_index_or structs i (record { name = 0; destructor = 0; shape = 0; methods = [] })

-- sig.is_some_and(|sig| sig.destructor.is_some()), the struct by its number
unfoldable pub has_destructor : List Struct → Option ℕ → Bool
has_destructor structs none = false
has_destructor structs (some i) = (struct_no structs i).destructor == 1

-- an inline array or pointer has a lower type
abbrev pub Lower : List Ty → Type 0
Lower types = (t : ℕ) → 3 ≤ (type_no types t).kind → (type_no types t).of < t

-- the type inside types of a kind (3 inline arrays, 4 pointers), at most n of them
unfoldable pub inside : ℕ → List Ty → ℕ → ℕ → ℕ
inside kind types zero t = t
inside kind types (suc n) t = cond ((type_no types t).kind == kind) (inside kind types n (type_no types t).of) t

-- inside all of them: each is of a lower number
abbrev pub innermost : ℕ → List Ty → ℕ → Ty
innermost kind types t = type_no types (inside kind types (suc t) t)

-- signature.structs.get(name)
unfoldable pub struct_named : ℕ → List Struct → Option ℕ
struct_named n structs = first_from (λ x. nat_eq x.name n) 0 structs

-- the first struct in table order with that shape; shape 0 matches none
unfoldable pub struct_shaped : ℕ → List Struct → Option ℕ
struct_shaped k structs = cond (k == 0) none (first_from (λ x. nat_eq x.shape k) 0 structs)

-- a generic type takes the struct of its plain name if there is one, destructor or not; else the first with its shape
unfoldable pub struct_of_generic : ℕ → ℕ → List Struct → Option ℕ
struct_of_generic n k structs = or_else (struct_named n structs) (struct_shaped k structs)

-- the struct of a named or generic type; no other has one
unfoldable pub struct_of_ty : List Struct → Ty → Option ℕ
struct_of_ty structs t =
    cond (t.kind == 1) (struct_named t.of structs)
    (cond (t.kind == 2) (struct_of_generic t.of t.shape structs) none)

-- the struct that should_auto_delete asks; an inline array asks that of its inner type, a pointer none
unfoldable pub struct_of : List Ty → List Struct → ℕ → Option ℕ
struct_of types structs t = struct_of_ty structs (innermost 3 types t)

-- should_auto_delete
unfoldable pub should_auto_delete : List Ty → List Struct → ℕ → Bool
should_auto_delete types structs t = has_destructor structs (struct_of types structs t)

-- class_name_from_receiver_ty: the name of a named type, behind pointers. A generic receiver is fault 11
unfoldable pub class_of_ty : Ty → Option ℕ
class_of_ty t = cond (t.kind == 1) (some t.of) none

unfoldable pub class_of : List Ty → ℕ → Option ℕ
class_of types t = class_of_ty (innermost 4 types t)
