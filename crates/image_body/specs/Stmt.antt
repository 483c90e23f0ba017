-- Statements and blocks (document 01, "The image"; stmt.rs): the tree, the layout of each tag, and what stands at a position.
use Rattle.std.specs.Prelude.{ℕ, zero, suc, ◌+◌, ◌-◌, List, [], ◌∷◌, Bool, true, false, cond, not, ◌&&◌, ◌||◌, length, get_or, ltb, leb, eqb}
use Rattle.image_fields.specs.Parsed.{Parsed, ok, fault, bind, ensure}
use Rattle.image_fields.specs.Number.{two, four, field_at}
use Rattle.image_fields.specs.Table.{many_of}
use Rattle.image_body.specs.Expr.{Expr, Exprs, Scope, node, none, more, exprs_at}

-- A block's statements: each constructor but `done` is a statement and what follows it. X decorates the places where deletes may
-- be put in (a block's end, an assignment, a return, Break and Continue), Y an expression statement; both are Unit in a submitted tree.
-- The first number is the statement's span (a block statement has its block's), a number before a Code is that block's span, and
-- the number after a returned or assigned value is the statement's type.
pub data Code (X Y : Type 0) : Type 0 where
  done : X → Code X Y
  expr_stmt : ℕ → Expr → Y → Code X Y → Code X Y
  -- Let, or Const if true: name, type, value
  variable : Bool → ℕ → ℕ → ℕ → Expr → Code X Y → Code X Y
  -- destination, value
  assign : ℕ → Expr → Expr → ℕ → X → Code X Y → Code X Y
  return : ℕ → Expr → ℕ → X → Code X Y → Code X Y
  bare_return : ℕ → ℕ → X → Code X Y → Code X Y
  block : ℕ → Code X Y → Code X Y → Code X Y
  if_else : ℕ → Expr → ℕ → Code X Y → ℕ → Code X Y → Code X Y → Code X Y
  if_then : ℕ → Expr → ℕ → Code X Y → Code X Y → Code X Y
  while : ℕ → Expr → ℕ → Code X Y → Code X Y → Code X Y
  -- Break, or Continue if true
  jump : Bool → ℕ → X → Code X Y → Code X Y

abbrev pub Tree : Type 0
Tree = Code (Unit {0}) (Unit {0})

pub record Block : Type 0 where
  pub span : ℕ
  pub code : Tree

-- By tag, 0 to 10: bytes of the head, bytes of the flag that says if there is a value, values, bytes of the type after them,
-- blocks, bytes of the flag that says if there is one more.
unfoldable pub head_bytes : List ℕ
head_bytes = 0 ∷ 1 ∷ 5 ∷ 5 ∷ 9 ∷ 9 ∷ 5 ∷ 5 ∷ 5 ∷ 5 ∷ 5 ∷ []

unfoldable pub value_flag : List ℕ
value_flag = 0 ∷ 0 ∷ 1 ∷ 0 ∷ 0 ∷ 0 ∷ 0 ∷ 0 ∷ 0 ∷ 0 ∷ 0 ∷ []

unfoldable pub value_count : List ℕ
value_count = 0 ∷ 0 ∷ 0 ∷ 1 ∷ 1 ∷ 1 ∷ 2 ∷ 1 ∷ 1 ∷ 0 ∷ 0 ∷ []

unfoldable pub type_width : List ℕ
type_width = 0 ∷ 0 ∷ 2 ∷ 0 ∷ 0 ∷ 0 ∷ 2 ∷ 0 ∷ 0 ∷ 0 ∷ 0 ∷ []

unfoldable pub block_count : List ℕ
block_count = 0 ∷ 1 ∷ 0 ∷ 0 ∷ 0 ∷ 0 ∷ 0 ∷ 1 ∷ 1 ∷ 0 ∷ 0 ∷ []

unfoldable pub else_flag : List ℕ
else_flag = 0 ∷ 0 ∷ 0 ∷ 0 ∷ 0 ∷ 0 ∷ 0 ∷ 1 ∷ 0 ∷ 0 ∷ 0 ∷ []

-- tag and span (0 of a Block, whose tag has no span of its own); the name and type of a Let or Const (0 otherwise)
pub record StmtHead : Type 0 where
  pub tag : ℕ
  pub span : ℕ
  pub name : ℕ
  pub ty : ℕ

-- what comes before a statement's blocks: its head, its values, and the type of a Return or Assign
pub record Front : Type 0 where
  pub head : StmtHead
  pub values : Exprs
  pub last : ℕ

-- a statement by itself: its front, its blocks, and the one after its flag
pub record Stmt : Type 0 where
  pub front : Front
  pub blocks : List Block
  pub others : List Block

abbrev pub binds_ok : ℕ → ℕ → ℕ → List ℕ → ℕ → Bool
binds_ok names types size s at = not (eqb size 9) || (ltb (two s (at + 5)) names && ltb (two s (at + 7)) types)

unfoldable pub stmt_head_at : ℕ → ℕ → List ℕ → ℕ → Parsed StmtHead
stmt_head_at names types s at =
    ensure (ltb 0 (get_or s at 0)) 8
    (ensure (ltb (get_or s at 0) 11) 8
    (ensure (leb (get_or head_bytes (get_or s at 0) 0) (length s - at)) 8
    (ensure (binds_ok names types (get_or head_bytes (get_or s at 0) 0) s at) 8
    (ok (record {
      tag = get_or s at 0;
      span = cond (eqb (get_or s at 0) 1) 0 (four s (at + 1));
      name = cond (eqb (get_or head_bytes (get_or s at 0) 0) 9) (two s (at + 5)) 0;
      ty = cond (eqb (get_or head_bytes (get_or s at 0) 0) 9) (two s (at + 7)) 0;
    })
    (at + get_or head_bytes (get_or s at 0) 0)))))

-- the values of a statement and the type after them
unfoldable pub values_at : Scope → List ℕ → StmtHead → ℕ → Parsed Front
values_at t s h p =
    bind (field_at 8 2 (get_or value_flag h.tag 0) s p) (λ n q.
    bind (exprs_at t s t.expr_depth (get_or value_count h.tag 0 + n) q) (λ es r.
    bind (field_at 8 t.types (get_or type_width h.tag 0) s r) (λ l u.
    ok (record { head = h; values = es; last = l }) u)))

-- a statement up to its blocks
unfoldable pub front_at : Scope → List ℕ → ℕ → Parsed Front
front_at t s at = bind (stmt_head_at t.names t.types s at) (λ h p. values_at t s h p)

-- a statement's blocks, by the reader of a block
unfoldable pub back_at : (ℕ → Parsed Block) → List ℕ → Front → ℕ → Parsed Stmt
back_at f s h p =
    bind (many_of [] ◌∷◌ f (get_or block_count h.head.tag 0) p) (λ bs q.
    bind (field_at 8 2 (get_or else_flag h.head.tag 0) s q) (λ n r.
    bind (many_of [] ◌∷◌ f n r) (λ cs u.
    ok (record { front = h; blocks = bs; others = cs }) u)))

unfoldable pub stmt_at : (ℕ → Parsed Block) → Scope → List ℕ → ℕ → Parsed Stmt
stmt_at f t s at = bind (front_at t s at) (λ h p. back_at f s h p)

-- a statement's first and second value, and its block
abbrev pub literal : Expr
literal = node (record { tag = 15; span = 0; ty = 0; arg = 0 }) none none

abbrev pub first_value : Exprs → Expr
first_value none = literal
first_value (more e es) = e

abbrev pub second_value : Exprs → Expr
second_value none = literal
second_value (more e es) = first_value es

abbrev pub no_block : Block
no_block = record { span = 0; code = done tt }

abbrev pub first_block : List Block → Block
first_block [] = no_block
first_block (b ∷ bs) = b

abbrev pub before_return : Exprs → ℕ → ℕ → Tree → Tree
before_return none span ty c = bare_return span ty tt c
before_return (more e es) span ty c = return span e ty tt c

abbrev pub before_if : List Block → ℕ → Expr → Block → Tree → Tree
before_if [] span e b c = if_then span e b.span b.code c
before_if (d ∷ ds) span e b c = if_else span e b.span b.code d.span d.code c

-- a statement of a tag before the rest of its list
unfoldable pub before_of : ℕ → StmtHead → Exprs → ℕ → List Block → List Block → Tree → Tree
before_of tag h es l bs cs c =
    cond (eqb tag 1) (block (first_block bs).span (first_block bs).code c)
    (cond (eqb tag 2) (before_return es h.span l c)
    (cond (eqb tag 3) (expr_stmt h.span (first_value es) tt c)
    (cond (eqb tag 4) (variable false h.span h.name h.ty (first_value es) c)
    (cond (eqb tag 5) (variable true h.span h.name h.ty (first_value es) c)
    (cond (eqb tag 6) (assign h.span (first_value es) (second_value es) l tt c)
    (cond (eqb tag 7) (before_if cs h.span (first_value es) (first_block bs) c)
    (cond (eqb tag 8) (while h.span (first_value es) (first_block bs).span (first_block bs).code c)
    (cond (eqb tag 9) (jump false h.span tt c)
    (jump true h.span tt c)))))))))

abbrev pub before : Stmt → Tree → Tree
before x c = before_of x.front.head.tag x.front.head x.front.values x.front.last x.blocks x.others c

-- n statements, one after another, by the reader of a block
abbrev pub stmts_by : (ℕ → Parsed Block) → Scope → List ℕ → ℕ → ℕ → Parsed Tree
stmts_by f t s n at = many_of (done tt) before (stmt_at f t s) n at

-- a block with so much depth left: span, count, statements; depth is tested before its first byte (fault 9)
unfoldable pub block_at : Scope → List ℕ → ℕ → ℕ → Parsed Block
block_at t s zero at = fault 9
block_at t s (suc d) at =
    ensure (leb 6 (length s - at)) 8
    (bind (stmts_by (block_at t s d) t s (two s (at + 4)) (at + 6)) (λ c q. ok (record { span = four s at; code = c }) q))

abbrev pub stmt_in : Scope → List ℕ → ℕ → ℕ → Parsed Stmt
stmt_in t s d at = stmt_at (block_at t s d) t s at

abbrev pub back_in : Scope → List ℕ → ℕ → Front → ℕ → Parsed Stmt
back_in t s d h p = back_at (block_at t s d) s h p

abbrev pub stmts_at : Scope → List ℕ → ℕ → ℕ → ℕ → Parsed Tree
stmts_at t s d n at = stmts_by (block_at t s d) t s n at

abbrev pub blocks_at : Scope → List ℕ → ℕ → ℕ → ℕ → Parsed (List Block)
blocks_at t s d n at = many_of [] ◌∷◌ (block_at t s d) n at
