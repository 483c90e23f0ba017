-- An unused result with the place of its callee, by computation.
-- Assumes nothing.
use Rattle.std.proofs.Common.{◌≡◌, [], ◌∷◌, get_or, refl}
use Rattle.image_fields.specs.Bytes.{two_bytes, four_bytes, number_bytes, each_bytes}
use Rattle.tables.specs.Limits.{version1}
use Rattle.tables.specs.Name.{same_bytes, starts_with}
use Rattle.tables.specs.Ty.{of_width, shape_width}
use Rattle.tables_lookup.specs.First.{first_from, and_then, or_else}
use Rattle.tables_lookup.specs.Ty.{inside, struct_named, struct_shaped, struct_of_generic, struct_of_ty, struct_of, has_destructor, should_auto_delete, class_of_ty, class_of}
use Rattle.tables_lookup.specs.Signature.{modifier_in, modifier_of, is_consuming, global_of}
use Rattle.image_body.specs.Expr.{arg_width, count_width, last_width, through, none}
use Rattle.image_body.specs.Stmt.{expr_stmt}
use Rattle.image_encoding.specs.Tables.{encode_name, encode_type, encode_method, encode_struct, encode_global, encode_param, encode_entry, encode_tables}
use Rattle.image_encoding.specs.Body.{encode_expr, size, encode_code, encode_block}
use Rattle.image.specs.Image.{Image, encode}
use Rattle.image.proofs.Example.{tree}
use Rattle.rules.proofs.Nodes.{ident, unary, call, delete, end}
use Rattle.rules.specs.Questions.{auto, is_temp_of, is_move_of, consumes, global_in}
use Rattle.rules.specs.Expr.{callee_at}
use Rattle.rules.specs.Effects.{takes, handed, finish, effects, expr_stmt_effects, take_over, assign_effects, assign_takes}
use Rattle.rules.specs.Rules.{off}
use Rattle.rules.specs.Report.{warning, returned_image, reports, with_code}

-- the tables of document 01's example with two statements, `x;` and `x();` in a unary without an operator: the second's result is unused
abbrev pub unused_result : Image
unused_result = with_code tree (expr_stmt 11 (ident 12 1 1) tt (expr_stmt 13 (unary 14 1 0 (call 15 1 (ident 16 1 1) none)) tt end))

-- a warning with the statement's span and where the callee's tag, that of an Ident, stands
pub record Unused : Type 0 where
  pub reported : reports off unused_result ≡ warning 13 80 ∷ []
  pub stands : get_or (encode version1 unused_result) 80 0 ≡ 1
  pub span : get_or (encode version1 unused_result) 84 0 ≡ 16
  pub returned : returned_image off unused_result
      ≡ with_code tree (expr_stmt 11 (ident 12 1 1) tt (expr_stmt 13 (delete 13 (unary 14 1 0 (call 15 1 (ident 16 1 1) none))) tt end))

pub unused-result : Unused
unfolding same_bytes starts_with first_from and_then or_else inside struct_named struct_shaped struct_of_generic struct_of_ty struct_of has_destructor should_auto_delete class_of_ty class_of modifier_in modifier_of is_consuming global_of count_width through auto is_temp_of is_move_of consumes global_in takes handed finish effects expr_stmt_effects take_over assign_effects assign_takes callee_at two_bytes four_bytes number_bytes each_bytes of_width shape_width arg_width last_width encode_name encode_type encode_method encode_struct encode_global encode_param encode_entry encode_tables encode_expr size encode_code encode_block encode
unused-result = record { reported = refl; stands = refl; span = refl; returned = refl }
