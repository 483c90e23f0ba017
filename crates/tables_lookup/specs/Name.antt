-- Names that the pass knows.
use Rattle.std.specs.Prelude.{ℕ, Bool, List}
use Rattle.tables.specs.Name.{same_bytes, starts_with, temp_name, move_name}

-- is_compiler_temp_name: begins with `__tmp`
abbrev pub is_temp : List ℕ → Bool
is_temp name = starts_with temp_name name

-- `std::move`
abbrev pub is_move : List ℕ → Bool
is_move name = same_bytes move_name name
