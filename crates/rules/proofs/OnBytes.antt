-- Document 01's worked example as a row on bytes: 81 bytes in, what the pass answers out.
-- Assumes nothing.
use Rattle.std.proofs.Common.{◌≡◌, [], ◌∷◌, refl, ap, ◌∙◌}
use Rattle.image_fields.specs.Bytes.{two_bytes, four_bytes, number_bytes, each_bytes}
use Rattle.image_fields.specs.Table.{member}
use Rattle.tables.specs.Limits.{version1}
use Rattle.tables.specs.Name.{same_bytes, starts_with}
use Rattle.tables.specs.Ty.{of_width, shape_width}
use Rattle.tables_lookup.specs.First.{first_from, and_then, or_else}
use Rattle.tables_lookup.specs.Ty.{inside, struct_named, struct_shaped, struct_of_generic, struct_of_ty, struct_of, has_destructor, should_auto_delete, class_of_ty, class_of}
use Rattle.tables_lookup.specs.Signature.{modifier_in, modifier_of, is_consuming, global_of}
use Rattle.image_body.specs.Expr.{arg_width, count_width, last_width, through}
use Rattle.image_encoding.specs.Tables.{encode_name, encode_type, encode_method, encode_struct, encode_global, encode_param, encode_entry, encode_tables}
use Rattle.image_encoding.specs.Body.{encode_expr, size, encode_code, encode_block}
use Rattle.image.specs.Image.{encode}
use Rattle.image.proofs.Example.{bytes, example-read}
use Rattle.rules.specs.Questions.{auto, is_temp_of, is_move_of, consumes, global_in}
use Rattle.rules.specs.Expr.{callee_at}
use Rattle.rules.specs.Effects.{takes, handed, finish, effects, expr_stmt_effects, take_over, assign_effects, assign_takes}
use Rattle.rules.specs.Rules.{off}
use Rattle.rules.specs.Walk.{crowded, walk_fault, image_fault}
use Rattle.rules.specs.Verdict.{Lent, Verdict, answers, decided, counts_fit, pass_verdict}

-- what the program lends: 65,536 bytes and 256 entries a list
abbrev lent : Lent
lent = record { bytes = 65536; errors = 256; warnings = 256; lefts = 256 }

-- the same 81 bytes, and one error: kind 1 at 15, hint 0, one other place, 13
abbrev answer : Verdict
answer = answers (record {
  output = bytes;
  error_count = 1;
  warning_count = 0;
  left_count = 0;
  error_numbers = 1 ∷ 15 ∷ 0 ∷ 1 ∷ 13 ∷ 0 ∷ 0 ∷ 0 ∷ 0 ∷ 0 ∷ 0 ∷ 0 ∷ [];
  warning_numbers = [];
  left_numbers = [];
})

pub example-answered : pass_verdict version1 lent 0 bytes ≡ answer
unfolding pass_verdict member same_bytes starts_with of_width shape_width first_from and_then or_else inside struct_named struct_shaped struct_of_generic struct_of_ty struct_of has_destructor should_auto_delete class_of_ty class_of modifier_in modifier_of is_consuming global_of arg_width count_width last_width through two_bytes four_bytes number_bytes each_bytes encode_name encode_type encode_method encode_struct encode_global encode_param encode_entry encode_tables encode_expr size encode_code encode_block encode auto is_temp_of is_move_of consumes global_in callee_at takes handed finish effects expr_stmt_effects take_over assign_effects assign_takes crowded walk_fault image_fault counts_fit
example-answered = ap (decided version1 off lent) example-read ∙ refl
