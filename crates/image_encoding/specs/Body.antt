-- The bytes of a body (document 01, "The image").
use Rattle.std.specs.Prelude.{ℕ, suc, List, [], ◌∷◌, ◌++◌, cond, get_or}
use Rattle.image_fields.specs.Bytes.{two_bytes, four_bytes, number_bytes}
use Rattle.image_body.specs.Expr.{Expr, Exprs, node, none, more, arg_width, count_width, last_width}
use Rattle.image_body.specs.Stmt.{Code, Block, done, expr_stmt, variable, assign, return, bare_return, block, if_else, if_then, while, jump}
use Rattle.image_body.specs.Stands.{count}

unfoldable mutual
  pub encode_expr : Expr → List ℕ
  encode_expr (node h ks xs) =
      h.tag ∷ (four_bytes h.span ++ (two_bytes h.ty ++ (number_bytes (get_or arg_width h.tag 0) h.arg
      ++ (encode_exprs ks ++ (number_bytes (get_or count_width h.tag 0) (count xs)
      ++ (encode_exprs xs ++ number_bytes (get_or last_width h.tag 0) h.arg))))))

  pub encode_exprs : Exprs → List ℕ
  encode_exprs none = []
  encode_exprs (more e es) = encode_expr e ++ encode_exprs es

-- a block: its span, its count, its statements
abbrev pub with_count : ℕ → ℕ → List ℕ → List ℕ
with_count span n bytes = four_bytes span ++ (two_bytes n ++ bytes)

module _ {X Y : Type 0} where
  -- the number of statements of a block
  unfoldable pub size : Code X Y → ℕ
  size (done x) = 0
  size (expr_stmt p e y c) = suc (size c)
  size (variable b p n t e c) = suc (size c)
  size (assign p d e t x c) = suc (size c)
  size (return p e t x c) = suc (size c)
  size (bare_return p t x c) = suc (size c)
  size (block q b c) = suc (size c)
  size (if_else p e q b r d c) = suc (size c)
  size (if_then p e q b c) = suc (size c)
  size (while p e q b c) = suc (size c)
  size (jump b p x c) = suc (size c)

  unfoldable pub encode_code : Code X Y → List ℕ
  encode_code (done x) = []
  encode_code (expr_stmt p e y c) = 3 ∷ (four_bytes p ++ (encode_expr e ++ encode_code c))
  encode_code (variable b p n t e c) = cond b 5 4 ∷ (four_bytes p ++ (two_bytes n ++ (two_bytes t ++ (encode_expr e ++ encode_code c))))
  encode_code (assign p d e t x c) = 6 ∷ (four_bytes p ++ (encode_expr d ++ (encode_expr e ++ (two_bytes t ++ encode_code c))))
  encode_code (return p e t x c) = 2 ∷ (four_bytes p ++ (1 ∷ (encode_expr e ++ (two_bytes t ++ encode_code c))))
  encode_code (bare_return p t x c) = 2 ∷ (four_bytes p ++ (0 ∷ (two_bytes t ++ encode_code c)))
  encode_code (block q b c) = 1 ∷ (with_count q (size b) (encode_code b) ++ encode_code c)
  encode_code (if_else p e q b r d c) =
      7 ∷ (four_bytes p ++ (encode_expr e ++ (with_count q (size b) (encode_code b) ++ (1 ∷ (with_count r (size d) (encode_code d) ++ encode_code c)))))
  encode_code (if_then p e q b c) = 7 ∷ (four_bytes p ++ (encode_expr e ++ (with_count q (size b) (encode_code b) ++ (0 ∷ encode_code c))))
  encode_code (while p e q b c) = 8 ∷ (four_bytes p ++ (encode_expr e ++ (with_count q (size b) (encode_code b) ++ encode_code c)))
  encode_code (jump b p x c) = cond b 10 9 ∷ (four_bytes p ++ encode_code c)

unfoldable pub encode_block : Block → List ℕ
encode_block b = with_count b.span (size b.code) (encode_code b.code)
