-- One image's types, and what each answers.
use Rattle.std.proofs.Common.{◌≡◌, ℕ, Bool, true, false, List, [], ◌∷◌, map, refl}
use mathlib.Core.Option.{Option, none, some}
use Rattle.tables.specs.Ty.{Ty}
use Rattle.tables.specs.Signature.{Struct}
use Rattle.tables_lookup.specs.First.{first_from, and_then, or_else}
use Rattle.tables_lookup.specs.Ty.{inside, struct_named, struct_shaped, struct_of_generic, struct_of_ty, struct_of, has_destructor, should_auto_delete, class_of_ty, class_of}
use Rattle.tables_lookup.specs.Signature.{modifier_in, modifier_of}

abbrev ty : ℕ → ℕ → ℕ → Ty
ty kind of shape = record { kind = kind; of = of; shape = shape }

-- struct 0 is named 10 and has no destructor; struct 1 is 11, and struct 2 is 12, both with one and of shape 7. Method 20 of
-- struct 1 is consuming
abbrev structs : List Struct
structs =
    record { name = 10; destructor = 0; shape = 0; methods = [] }
    ∷ record { name = 11; destructor = 1; shape = 7; methods = record { name = 21; modifier = 1 } ∷ record { name = 20; modifier = 3 } ∷ [] }
    ∷ record { name = 12; destructor = 1; shape = 7; methods = [] }
    ∷ []

abbrev types : List Ty
types = ty 0 0 0 ∷ ty 1 11 0 ∷ ty 3 1 0 ∷ ty 4 1 0 ∷ ty 2 10 7 ∷ ty 2 13 7 ∷ ty 2 13 0 ∷ ty 3 2 0 ∷ ty 4 3 0 ∷ ty 4 2 0 ∷ []

record Row : Type 0 where
  ty : ℕ
  struct : Option ℕ
  deleted : Bool
  method : Option ℕ

abbrev row : ℕ → Option ℕ → Bool → Option ℕ → Row
row t i b m = record { ty = t; struct = i; deleted = b; method = m }

-- a type, its struct, whether its values are deleted, the modifier of method 20
abbrev table : List Row
table =
    -- plain
    row 0 none false none
    -- named 11; an inline array of it; a pointer to it
    ∷ row 1 (some 1) true (some 3)
    ∷ row 2 (some 1) true none
    ∷ row 3 none false (some 3)
    -- generic: 10 of shape 7, 13 of shape 7, 13 of shape 0
    ∷ row 4 (some 0) false none
    ∷ row 5 (some 1) true none
    ∷ row 6 none false none
    -- an array of arrays, a pointer to a pointer, a pointer to an array, past the table
    ∷ row 7 (some 1) true none
    ∷ row 8 none false (some 3)
    ∷ row 9 none false none
    ∷ row 10 none false none
    ∷ []

answers : map (λ r. row r.ty (struct_of types structs r.ty) (should_auto_delete types structs r.ty) (modifier_of types structs r.ty 20)) table ≡ table
unfolding first_from and_then or_else inside struct_named struct_shaped struct_of_generic struct_of_ty struct_of has_destructor should_auto_delete class_of_ty class_of modifier_in modifier_of
answers = refl
