-- The bytes of the deletes that are put in.
use Rattle.std.specs.Prelude.{ℕ, List, [], ◌∷◌, ◌++◌}
use Rattle.image_fields.specs.Bytes.{four_bytes}
use Rattle.image_encoding.specs.Body.{encode_expr}
use Rattle.rules.specs.Rules.{Drop, drop_of}
use Rattle.rules.specs.Report.{delete_node, ident_node}

-- the bytes of inserted delete statements
abbrev pub delete_bytes : List Drop → List ℕ
delete_bytes [] = []
delete_bytes (drop_of p n t ∷ x) = (3 ∷ (four_bytes p ++ encode_expr (delete_node p (ident_node p t n)))) ++ delete_bytes x
