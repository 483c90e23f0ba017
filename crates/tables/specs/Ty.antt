-- Types: count 1 to 256; each a kind byte: 0 plain; 1 named (name); 2 generic (name, shape); 3 inline array, 4 pointer (a lower
-- type). Type 0 is plain. Fault 4.
use Rattle.std.specs.Prelude.{ℕ, ◌+◌, cond, ◌||◌, List, [], ◌∷◌, ◌++◌, length, ◌==◌, nat_lt, slice_index}
use Rattle.image_fields.specs.Parsed.{Parsed, ok, bind, ensure}
use Rattle.image_fields.specs.Number.{number_in, field_at}
use Rattle.image_fields.specs.Table.{table_at}
use Rattle.tables.specs.Limits.{Limits}

-- of: the name, or the lower type (0 of a plain one). shape: of a generic one (0 of any other)
pub record Ty : Type 0 where
  pub kind : ℕ
  pub of : ℕ
  pub shape : ℕ

-- by kind: the bytes of the name or lower type, and of the shape
unfoldable pub of_width : List ℕ
of_width = 0 ∷ 2 ∷ 2 ∷ 2 ∷ 2 ∷ []

unfoldable pub shape_width : List ℕ
shape_width = 0 ∷ 0 ∷ 2 ∷ 0 ∷ 0 ∷ []

-- what `of` stays below, in type number i: names of a named or generic type, lower types of an inline array or pointer
abbrev pub of_limit : ℕ → ℕ → ℕ → ℕ
of_limit names i kind = cond (kind == 0) 1 (cond (nat_lt kind 3) names i)

-- what follows the kind of the type after those of ts
unfoldable pub parts_at : ℕ → List ℕ → List Ty → ℕ → ℕ → Parsed Ty
parts_at names s ts kind p =
    bind (field_at 4 (of_limit names (length ts) kind) (slice_index of_width kind) s p) (λ of q.
    bind (field_at 4 65536 (slice_index shape_width kind) s q) (λ shape r.
    ok (record { kind = kind; of = of; shape = shape }) r))

-- the type after those of ts
unfoldable pub type_at : ℕ → List ℕ → List Ty → ℕ → Parsed Ty
type_at names s ts at =
    bind (field_at 4 5 1 s at) (λ kind p.
    ensure (nat_lt 0 (length ts) || kind == 0) 4 (parts_at names s ts kind p))

unfoldable pub types_at : Limits → ℕ → List ℕ → ℕ → Parsed (List Ty)
types_at L names s at = table_at 4 1 (L.types + 1) (type_at names s) s at

-- the type that stands at a position
abbrev pub type_in : List ℕ → ℕ → Ty
type_in s at = record {
  kind = slice_index s at;
  of = number_in s (slice_index of_width (slice_index s at)) (at + 1);
  shape = number_in s (slice_index shape_width (slice_index s at)) (at + 1 + slice_index of_width (slice_index s at));
}

-- 1 for a type that is generic, perhaps behind pointers; g has the flags of the lower types (fault 11)
abbrev pub generic_flag : List ℕ → Ty → ℕ
generic_flag g t = cond (t.kind == 2) 1 (cond (t.kind == 4) (slice_index g t.of) 0)

unfoldable pub generic_flags : List ℕ → List Ty → List ℕ
generic_flags g [] = g
generic_flags g (t ∷ ts) = generic_flags (g ++ (generic_flag g t ∷ [])) ts
