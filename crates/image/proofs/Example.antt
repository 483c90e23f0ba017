-- Document 01's example, 81 bytes, by computation: what it is read as, and that it is written so.
use mathlib.Core.Path.{◌≡◌, refl}
use mathlib.Core.List.{List, [], ◌∷◌}
use Prim.Native.Nat.{ℕ}
use Rattle.image_fields.specs.Parsed.{bind, ensure}
use Rattle.image_fields.specs.Number.{field_at}
use Rattle.image_fields.specs.Table.{many_of, table_from, table_at, member}
use Rattle.image_fields.specs.Bytes.{two_bytes, four_bytes, number_bytes, each_bytes}
use Rattle.tables.specs.Limits.{version1}
use Rattle.tables.specs.Name.{bytes_at, name_of, same_bytes, below_bytes, name_at, names_at}
use Rattle.tables.specs.Ty.{of_width, shape_width, parts_at, type_at, types_at, generic_flags}
use Rattle.tables.specs.Signature.{method_at, rises, struct_rest_at, struct_at, structs_at, global_at, globals_at, param_at, entry_at}
use Rattle.image_body.specs.Expr.{Expr, node, none, more, arg_width, fixed_count, count_width, last_width, head_at, through, generic_receiver, end_at, rest_at, expr_at}
use Rattle.image_body.specs.Stmt.{done, expr_stmt, head_bytes, value_flag, value_count, type_width, block_count, else_flag, stmt_head_at, values_at, front_at, back_at, stmt_at, before_of, block_at}
use Rattle.image_encoding.specs.Tables.{encode_name, encode_type, encode_method, encode_struct, encode_global, encode_param, encode_entry, encode_tables}
use Rattle.image_encoding.specs.Body.{encode_expr, size, encode_code, encode_block}
use Rattle.image.specs.Image.{Image, Decoded, accepted, body_at, image_at, outcome, decode, encode}
use Rattle.image.specs.Image as image

abbrev pub bytes : List ℕ
bytes =
    0 ∷ 0 ∷ 0 ∷ 77 ∷ 1
    ∷ 0 ∷ 3 ∷ 4 ∷ 116 ∷ 104 ∷ 105 ∷ 115 ∷ 1 ∷ 120 ∷ 1 ∷ 84
    ∷ 0 ∷ 2 ∷ 0 ∷ 1 ∷ 0 ∷ 2
    ∷ 0 ∷ 1 ∷ 0 ∷ 2 ∷ 1 ∷ 0 ∷ 0 ∷ 0 ∷ 0
    ∷ 0 ∷ 0
    ∷ 0 ∷ 0 ∷ 1 ∷ 0 ∷ 1 ∷ 0 ∷ 1
    ∷ 0 ∷ 0 ∷ 0 ∷ 10 ∷ 0 ∷ 2
    ∷ 3 ∷ 0 ∷ 0 ∷ 0 ∷ 11 ∷ 10 ∷ 0 ∷ 0 ∷ 0 ∷ 12 ∷ 0 ∷ 0 ∷ 1 ∷ 0 ∷ 0 ∷ 0 ∷ 13 ∷ 0 ∷ 1 ∷ 0 ∷ 1
    ∷ 3 ∷ 0 ∷ 0 ∷ 0 ∷ 14 ∷ 1 ∷ 0 ∷ 0 ∷ 0 ∷ 15 ∷ 0 ∷ 1 ∷ 0 ∷ 1 ∷ []

-- the Ident `x` of type 1 with a span
abbrev pub x : ℕ → Expr
x span = node (record { tag = 1; span = span; ty = 1; arg = 1 }) none none

abbrev pub tree : Image
tree = record {
  tables = record {
    names = (116 ∷ 104 ∷ 105 ∷ 115 ∷ []) ∷ (120 ∷ []) ∷ (84 ∷ []) ∷ [];
    types = record { kind = 0; of = 0; shape = 0 } ∷ record { kind = 1; of = 2; shape = 0 } ∷ [];
    structs = record { name = 2; destructor = 1; shape = 0; methods = [] } ∷ [];
    globals = [];
  };
  entry = record { receiver = 0; this = 0; params = record { name = 1; ty = 1 } ∷ [] };
  body = record {
    span = 10;
    code = expr_stmt 11 (node (record { tag = 10; span = 12; ty = 0; arg = 0 }) (more (x 13) none) none) tt (expr_stmt 14 (x 15) tt (done tt));
  };
}

pub example-read : decode version1 bytes ≡ accepted tree
unfolding bind ensure field_at many_of table_from table_at member bytes_at name_of same_bytes below_bytes name_at names_at of_width shape_width parts_at type_at types_at generic_flags method_at rises struct_rest_at struct_at structs_at global_at globals_at param_at entry_at arg_width fixed_count count_width last_width head_at through generic_receiver end_at rest_at expr_at head_bytes value_flag value_count type_width block_count else_flag stmt_head_at values_at front_at back_at stmt_at before_of block_at body_at image.rest_at image_at outcome decode
example-read = refl

pub example-written : encode version1 tree ≡ bytes
unfolding two_bytes four_bytes number_bytes each_bytes of_width shape_width arg_width count_width last_width encode_name encode_type encode_method encode_struct encode_global encode_param encode_entry encode_tables encode_expr size encode_code encode_block encode
example-written = refl
