-- What methods and globals answer.
use Rattle.std.specs.Prelude.{ℕ, Bool, false, List, ◌==◌, nat_eq, slice_index_or}
use Rattle.std.proofs.Math.Option.{Option, none, some}
use Rattle.tables.specs.Ty.{Ty}
use Rattle.tables.specs.Signature.{Method, Struct, Global}
use Rattle.tables_lookup.specs.First.{first_from, and_then}
use Rattle.tables_lookup.specs.Ty.{struct_no, struct_named, class_of}

abbrev pub method_no : List Method → ℕ → Method
method_no ms i = slice_index_or ms i (record { name = 0; modifier = 0 })

abbrev pub global_no : List Global → ℕ → Global
global_no gs i = slice_index_or gs i (record { name = 0; span = 0 })

-- class.methods.get(name): its modifier
unfoldable pub modifier_in : List Method → ℕ → Option ℕ
modifier_in ms m = and_then (first_from (λ x. nat_eq x.name m) 0 ms) (λ i. some (method_no ms i).modifier)

-- consuming_method_receiver: the modifier of the method m of the struct of a type's class
unfoldable pub modifier_of : List Ty → List Struct → ℕ → ℕ → Option ℕ
modifier_of types structs t m =
    and_then (class_of types t) (λ n.
    and_then (struct_named n structs) (λ i.
    modifier_in (struct_no structs i).methods m))

-- HirStructMethodModifier::Consuming is 3
unfoldable pub is_consuming : Option ℕ → Bool
is_consuming none = false
is_consuming (some k) = k == 3

-- the span of the global of that name
unfoldable pub global_of : List Global → ℕ → Option ℕ
global_of gs n = and_then (first_from (λ x. nat_eq x.name n) 0 gs) (λ i. some (global_no gs i).span)
