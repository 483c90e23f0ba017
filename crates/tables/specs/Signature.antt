-- Structs, globals and the entry (signature.rs).
use Rattle.std.specs.Prelude.{ℕ, ◌+◌, Bool, true, cond, not, ◌&&◌, List, [], ◌∷◌, map, length, nat_eq, nat_lt, slice_index, slice_index_or}
use Rattle.image_fields.specs.Parsed.{Parsed, ok, bind, ensure}
use Rattle.image_fields.specs.Number.{two, four, number_in, field_at}
use Rattle.image_fields.specs.Table.{table_at, member, entries}
use Rattle.tables.specs.Limits.{Limits}
use Rattle.tables.specs.Name.{below_bytes}

-- modifier: 0 static, 1 const, 2 mutable, 3 consuming
pub record Method : Type 0 where
  pub name : ℕ
  pub modifier : ℕ

-- destructor: 1 if it has one. shape: 0 for none
pub record Struct : Type 0 where
  pub name : ℕ
  pub destructor : ℕ
  pub shape : ℕ
  pub methods : List Method

pub record Global : Type 0 where
  pub name : ℕ
  pub span : ℕ

pub record Param : Type 0 where
  pub name : ℕ
  pub ty : ℕ

-- receiver: 0 none, 1 static, 2 const, 3 mutable, 4 consuming. this: the type of `this` after 2 to 4, 0 otherwise
pub record Entry : Type 0 where
  pub receiver : ℕ
  pub this : ℕ
  pub params : List Param

abbrev pub method_names : List Method → List ℕ
method_names ms = map (λ m. m.name) ms

abbrev pub global_names : List Global → List ℕ
global_names gs = map (λ g. g.name) gs

-- a method whose name differs from those before it: a name and a byte
unfoldable pub method_at : ℕ → List ℕ → List Method → ℕ → Parsed Method
method_at names s ms at =
    bind (field_at 5 names 2 s at) (λ name p.
    bind (field_at 5 4 1 s p) (λ modifier q.
    ensure (not (member nat_eq (method_names ms) name)) 5
    (ok (record { name = name; modifier = modifier }) q)))

-- the name after those of the structs ss rises by its bytes: it is above the last of them
unfoldable pub rises : List (List ℕ) → List Struct → ℕ → Bool
rises ns [] name = true
rises ns (x ∷ []) name = below_bytes (slice_index_or ns x.name []) (slice_index_or ns name [])
rises ns (x ∷ y ∷ xs) name = rises ns (y ∷ xs) name

-- what follows a struct's name
unfoldable pub struct_rest_at : Limits → ℕ → List ℕ → ℕ → ℕ → Parsed Struct
struct_rest_at L names s name p =
    bind (field_at 5 2 1 s p) (λ destructor q.
    bind (field_at 5 65536 2 s q) (λ shape r.
    bind (table_at 5 0 (L.methods + 1) (method_at names s) s r) (λ ms u.
    ok (record { name = name; destructor = destructor; shape = shape; methods = ms }) u)))

-- Structs: name, destructor flag, shape (0: none), method count to 32, methods. Fault 5.
unfoldable pub struct_at : Limits → List (List ℕ) → List ℕ → List Struct → ℕ → Parsed Struct
struct_at L ns s ss at =
    bind (field_at 5 (length ns) 2 s at) (λ name p.
    ensure (rises ns ss name) 5 (struct_rest_at L (length ns) s name p))

-- count to 64, rising by name bytes
unfoldable pub structs_at : Limits → List (List ℕ) → List ℕ → ℕ → Parsed (List Struct)
structs_at L ns s at = table_at 5 0 (L.structs + 1) (struct_at L ns s) s at

-- Globals: count to 64: name, span. Names differ. Fault 6.
unfoldable pub global_at : ℕ → List ℕ → List Global → ℕ → Parsed Global
global_at names s gs at =
    bind (field_at 6 names 2 s at) (λ name p.
    bind (field_at 6 4294967296 4 s p) (λ span q.
    ensure (not (member nat_eq (global_names gs) name)) 6
    (ok (record { name = name; span = span }) q)))

unfoldable pub globals_at : Limits → ℕ → List ℕ → ℕ → Parsed (List Global)
globals_at L names s at = table_at 6 0 (L.globals + 1) (global_at names s) s at

-- Entry: byte 0 no receiver, 1 static, 2 const, 3 mutable, 4 consuming; after 2 to 4 the type of `this`. Parameter count to 16:
-- name, type. Fault 7.
unfoldable pub param_at : ℕ → ℕ → List ℕ → List Param → ℕ → Parsed Param
param_at names types s ps at =
    bind (field_at 7 names 2 s at) (λ name p.
    bind (field_at 7 types 2 s p) (λ ty q.
    ok (record { name = name; ty = ty }) q))

abbrev pub this_width : ℕ → ℕ
this_width receiver = cond (nat_lt receiver 2) 0 2

unfoldable pub entry_at : Limits → ℕ → ℕ → List ℕ → ℕ → Parsed Entry
entry_at L names types s at =
    bind (field_at 7 5 1 s at) (λ receiver p.
    bind (field_at 7 types (this_width receiver) s p) (λ this q.
    bind (table_at 7 0 (L.params + 1) (param_at names types s) s q) (λ ps r.
    ok (record { receiver = receiver; this = this; params = ps }) r)))

-- A method, a global and a parameter are each a name and a number: what one reader of all three reads. k is the fault, w the
-- width of the number and limit what it stays below; names differ if distinct.
pub record Named : Type 0 where
  pub name : ℕ
  pub value : ℕ

unfoldable pub named_at : ℕ → ℕ → ℕ → ℕ → Bool → List ℕ → List Named → ℕ → Parsed Named
named_at k names limit w distinct s xs at =
    bind (field_at k names 2 s at) (λ name p.
    bind (field_at k limit w s p) (λ value q.
    ensure (not (distinct && member nat_eq (map (λ x. x.name) xs) name)) k
    (ok (record { name = name; value = value }) q)))

-- the entries that stand at a position
abbrev pub named_in : ℕ → List ℕ → ℕ → Named
named_in w s at = record { name = two s at; value = number_in s w (at + 2) }

abbrev pub method_in : List ℕ → ℕ → Method
method_in s at = record { name = two s at; modifier = slice_index s (at + 2) }

abbrev pub global_in : List ℕ → ℕ → Global
global_in s at = record { name = two s at; span = four s (at + 2) }

abbrev pub param_in : List ℕ → ℕ → Param
param_in s at = record { name = two s at; ty = two s (at + 2) }

abbrev pub struct_in : List ℕ → ℕ → Struct
struct_in s at = record {
  name = two s at;
  destructor = slice_index s (at + 2);
  shape = two s (at + 3);
  methods = entries (method_in s) 3 (two s (at + 5)) (at + 7);
}
