-- What surely returns, of whatever statement or block was read at a position.
use Rattle.std.specs.Prelude.{ℕ, ◌+◌, ◌≤◌, ◌<◌, ◌≡◌, false, ◌&&◌, List, length, get_or}
use Rattle.image_fields.specs.Parsed.{ok}
use Rattle.image_body.specs.Expr.{Scope}
use Rattle.image_body.specs.Stmt.{Stmt, Block, done, before, stmt_in, block_at}
use Rattle.rules.specs.Rules.{sure_from}
use Rattle.statements_returns.specs.declared.Sure.{Sure}

-- a statement, a block, the blocks of an IfElse stand there: they were read, expressions at most 24 deep and blocks so deep as is left
pub record StmtThere (s : List ℕ) (left at : ℕ) : Type 0 where
  pub t : Scope
  pub deep : t.expr_depth ≡ 24
  pub x : Stmt
  pub next : ℕ
  pub read : stmt_in t s left at ≡ ok x next

pub record BlockThere (s : List ℕ) (left at : ℕ) : Type 0 where
  pub t : Scope
  pub deep : t.expr_depth ≡ 24
  pub b : Block
  pub next : ℕ
  pub read : block_at t s left at ≡ ok b next

-- the byte after the first block says whether there is another
pub record BranchesThere (s : List ℕ) (left at : ℕ) : Type 0 where
  pub t : Scope
  pub deep : t.expr_depth ≡ 24
  pub b : Block
  pub flag : ℕ
  pub body : block_at t s left at ≡ ok b flag
  pub end : flag + 1 ≤ length s
  pub other : 0 < get_or s flag 0 → (d : Block) × (next : ℕ) × (block_at t s left (flag + 1) ≡ ok d next)

-- statement_guaranteed_return, and where the statement ends
pub record StmtSure (s : List ℕ) (left at : ℕ) (r : Sure) : Type 0 where
  pub is : (t : Scope) → t.expr_depth ≡ 24 → (x : Stmt) (next : ℕ) → stmt_in t s left at ≡ ok x next
      → (r.returns ≡ sure_from (before x (done tt)) false) × (r.at ≡ next)

-- statements_guaranteed_return, of a block
pub record BlockSure (s : List ℕ) (left at : ℕ) (r : Sure) : Type 0 where
  pub is : (t : Scope) → t.expr_depth ≡ 24 → (b : Block) (next : ℕ) → block_at t s left at ≡ ok b next
      → (r.returns ≡ sure_from b.code false) × (r.at ≡ next)

-- statement_guaranteed_return, of the blocks of an IfElse
pub record BranchesSure (s : List ℕ) (left at : ℕ) (r : Sure) : Type 0 where
  pub without : (t : Scope) → t.expr_depth ≡ 24 → (b : Block) (flag : ℕ) → block_at t s left at ≡ ok b flag → get_or s flag 0 ≡ 0
      → (r.returns ≡ false) × (r.at ≡ flag + 1)
  pub with : (t : Scope) → t.expr_depth ≡ 24 → (b : Block) (flag : ℕ) → block_at t s left at ≡ ok b flag → 0 < get_or s flag 0
      → (d : Block) (next : ℕ) → block_at t s left (flag + 1) ≡ ok d next
      → (r.returns ≡ (sure_from b.code false && sure_from d.code false)) × (r.at ≡ next)
