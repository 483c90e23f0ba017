-- The tables of an image as they are lent, 1,096 numbers: how many names, types, structs and globals there are and where the globals
-- stand; from 8, 520 and 776 on where each name, type and struct stands; from 840 on, for each type, 1 if its values are deleted.
use Rattle.std.specs.Prelude.{◌≡◌, ℕ, ◌+◌, ◌*◌, ◌<◌, ◌≤◌, List, map, length, ◌==◌, slice_index, slice_index_or}
use Rattle.std.proofs.Math.Seq.{slice}
use Rattle.image_fields.specs.Table.{entries}
use Rattle.tables.specs.Tables.{Tables}
use Rattle.tables.specs.Name.{name_of}
use Rattle.tables.specs.Ty.{type_in}
use Rattle.tables.specs.Signature.{struct_in, global_in}
use Rattle.tables_lookup.specs.First.{AllWithin}
use Rattle.tables_lookup.specs.Ty.{Lower, should_auto_delete}

-- where the names, types and structs stand
abbrev pub names_in : List ℕ → List ℕ
names_in tb = slice 8 (8 + slice_index tb 0) tb

abbrev pub types_in : List ℕ → List ℕ
types_in tb = slice 520 (520 + slice_index tb 1) tb

abbrev pub structs_in : List ℕ → List ℕ
structs_in tb = slice 776 (776 + slice_index tb 2) tb

-- all but what is asked once for each type
pub record Filled (s tb : List ℕ) : Type 0 where
  pub size : length tb ≡ 1096
  pub few_names : slice_index_or tb 0 0 ≤ 512
  pub few_types : slice_index_or tb 1 0 ≤ 256
  pub few_structs : slice_index_or tb 2 0 ≤ 64
  pub names : AllWithin s (names_in tb)
  pub types : AllWithin s (types_in tb)
  pub structs : AllWithin s (structs_in tb)
  pub lower : Lower (map (type_in s) (types_in tb))
  pub globals : slice_index_or tb 4 0 + 6 * slice_index tb 3 ≤ length s

-- what is lent has room for all types
abbrev pub Sized : List ℕ → Type 0
Sized tb = (length tb ≡ 1096) × (slice_index tb 1 ≤ 256)

-- what the questions to the tables require of what is lent
pub record Lent (s tb : List ℕ) : Type 0 where
  pub filled : Filled s tb
  pub drops : (t : ℕ) → t < slice_index tb 1 → (slice_index tb (840 + t) == 1) ≡ should_auto_delete (map (type_in s) (types_in tb)) (map (struct_in s) (structs_in tb)) t

-- the tables that stand there
pub record Says (s tb : List ℕ) (T : Tables) : Type 0 where
  pub names : map (name_of s) (names_in tb) ≡ T.names
  pub types : map (type_in s) (types_in tb) ≡ T.types
  pub structs : map (struct_in s) (structs_in tb) ≡ T.structs
  pub globals : entries (global_in s) 6 (slice_index tb 3) (slice_index tb 4) ≡ T.globals
