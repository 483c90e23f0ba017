-- What the rules ask the tables.
use Rattle.std.specs.Prelude.{ℕ, Bool, [], slice_index_or}
use Rattle.std.proofs.Math.Option.{Option}
use Rattle.tables.specs.Tables.{Tables}
use Rattle.tables_lookup.specs.Ty.{should_auto_delete}
use Rattle.tables_lookup.specs.Signature.{modifier_of, is_consuming, global_of}
use Rattle.tables_lookup.specs.Name.{is_temp, is_move}

-- should_auto_delete: is the type one with a destructor
unfoldable pub auto : Tables → ℕ → Bool
auto T t = should_auto_delete T.types T.structs t

-- is_compiler_temp_name
unfoldable pub is_temp_of : Tables → ℕ → Bool
is_temp_of T n = is_temp (slice_index_or T.names n [])

-- is the name `std::move`
unfoldable pub is_move_of : Tables → ℕ → Bool
is_move_of T n = is_move (slice_index_or T.names n [])

-- does the method m consume a receiver of type t
unfoldable pub consumes : Tables → ℕ → ℕ → Bool
consumes T t m = is_consuming (modifier_of T.types T.structs t m)

-- signature.global_consts.get(name): where it is defined
unfoldable pub global_in : Tables → ℕ → Option ℕ
global_in T n = global_of T.globals n
