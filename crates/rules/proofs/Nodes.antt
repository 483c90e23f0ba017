-- Expressions and tables that the examples are made of.
use Rattle.std.proofs.Common.{ℕ, [], ◌∷◌}
use Rattle.tables.specs.Ty.{Ty}
use Rattle.tables.specs.Signature.{Param}
use Rattle.tables.specs.Tables.{Tables}
use Rattle.image_body.specs.Expr.{Expr, Exprs, node, none, more}
use Rattle.image_body.specs.Stmt.{Tree, done, expr_stmt}

-- a node of a tag, span, type and argument, with its children and items
abbrev pub node_of : ℕ → ℕ → ℕ → ℕ → Exprs → Exprs → Expr
node_of tag span ty arg ks xs = node (record { tag = tag; span = span; ty = ty; arg = arg }) ks xs

abbrev pub one : Expr → Exprs
one e = more e none

-- an Ident (span, type, name), a ThisLiteral (span), a literal
abbrev pub ident : ℕ → ℕ → ℕ → Expr
ident span ty name = node_of 1 span ty name none none

abbrev pub this : ℕ → Expr
this span = node_of 2 span 1 0 none none

abbrev pub literal : Expr
literal = node_of 15 1 0 0 none none

-- a Unary: 0 without an operator, 3 AsRef
abbrev pub unary : ℕ → ℕ → ℕ → Expr → Expr
unary span ty op e = node_of 3 span ty op (one e) none

abbrev pub call : ℕ → ℕ → Expr → Exprs → Expr
call span ty f xs = node_of 6 span ty 0 (one f) xs

abbrev pub delete : ℕ → Expr → Expr
delete span e = node_of 10 span 0 0 (one e) none

abbrev pub field : ℕ → Expr → ℕ → Expr
field span e name = node_of 11 span 0 name (one e) none

-- `std::move` is name 4
abbrev pub move : ℕ → Exprs → Expr
move span xs = node_of 14 span 0 4 none xs

abbrev pub end : Tree
end = done tt

-- statements: `std::move(e);` and `delete n;` of a local of type 1
abbrev pub moving : ℕ → Expr → Tree → Tree
moving span e c = expr_stmt span (move span (one e)) tt c

abbrev pub deletion : ℕ → ℕ → Tree → Tree
deletion span n c = expr_stmt span (delete span (ident span 1 n)) tt c

abbrev ty : ℕ → ℕ → Ty
ty kind of = record { kind = kind; of = of; shape = 0 }

-- Names: 0 `this`, 1 `v`, 2 `w`, 3 `T`, 4 `std::move`, 5 `g`, 6 `__tmp`, 7 `take`. Types: 0 plain, 1 T, 2 a pointer to T. The
-- struct T has a destructor and the consuming method `take`. `g` is a global defined at 99
abbrev pub tables : Tables
tables = record {
  names =
      (116 ∷ 104 ∷ 105 ∷ 115 ∷ []) ∷ (118 ∷ []) ∷ (119 ∷ []) ∷ (84 ∷ []) ∷ (115 ∷ 116 ∷ 100 ∷ 58 ∷ 58 ∷ 109 ∷ 111 ∷ 118 ∷ 101 ∷ [])
      ∷ (103 ∷ []) ∷ (95 ∷ 95 ∷ 116 ∷ 109 ∷ 112 ∷ []) ∷ (116 ∷ 97 ∷ 107 ∷ 101 ∷ []) ∷ [];
  types = ty 0 0 ∷ ty 1 3 ∷ ty 4 1 ∷ [];
  structs = record { name = 3; destructor = 1; shape = 0; methods = record { name = 7; modifier = 3 } ∷ [] } ∷ [];
  globals = record { name = 5; span = 99 } ∷ [];
}

abbrev pub param : ℕ → Param
param n = record { name = n; ty = 1 }
