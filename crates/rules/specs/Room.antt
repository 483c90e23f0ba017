-- The room a returned body takes (document 01, "What is reported", the second entry).
use Rattle.std.specs.Prelude.{ℕ, suc, ◌+◌, ◌*◌, cond, length}
use Rattle.tables.specs.Signature.{Entry}
use Rattle.image_body.specs.Stmt.{Code, Block, done, expr_stmt, variable, assign, return, bare_return, block, if_else, if_then, while, jump}
use Rattle.rules.specs.Rules.{Decided, locals_of}

-- the bytes that the insertions add: 21 for a delete statement, 7 for a delete round an unused result
abbrev pub added : Decided → ℕ
added (done x) = 21 * length x
added (expr_stmt s e y r) = cond y 7 0 + added r
added (variable k s n t e r) = added r
added (assign s e v t x r) = 21 * length x + added r
added (return s e t x r) = 21 * length x + added r
added (bare_return s t x r) = 21 * length x + added r
added (block s c r) = added c + added r
added (if_else s e ts t us u r) = added t + added u + added r
added (if_then s e ts t r) = added t + added r
added (while s e ts t r) = added t + added r
added (jump k s x r) = 21 * length x + added r

module _ {X Y : Type 0} where
  -- statements in all blocks
  abbrev pub size_of : Code X Y → ℕ
  size_of (done x) = 0
  size_of (expr_stmt s e y r) = suc (size_of r)
  size_of (variable k s n t e r) = suc (size_of r)
  size_of (assign s e v t x r) = suc (size_of r)
  size_of (return s e t x r) = suc (size_of r)
  size_of (bare_return s t x r) = suc (size_of r)
  size_of (block s c r) = suc (size_of c + size_of r)
  size_of (if_else s e ts t us u r) = suc (size_of t + size_of u + size_of r)
  size_of (if_then s e ts t r) = suc (size_of t + size_of r)
  size_of (while s e ts t r) = suc (size_of t + size_of r)
  size_of (jump k s x r) = suc (size_of r)

  -- registrations: Let and Const
  abbrev pub regs_of : Code X Y → ℕ
  regs_of (done x) = 0
  regs_of (expr_stmt s e y r) = regs_of r
  regs_of (variable k s n t e r) = suc (regs_of r)
  regs_of (assign s e v t x r) = regs_of r
  regs_of (return s e t x r) = regs_of r
  regs_of (bare_return s t x r) = regs_of r
  regs_of (block s c r) = regs_of c + regs_of r
  regs_of (if_else s e ts t us u r) = regs_of t + regs_of u + regs_of r
  regs_of (if_then s e ts t r) = regs_of t + regs_of r
  regs_of (while s e ts t r) = regs_of t + regs_of r
  regs_of (jump k s x r) = regs_of r

-- what document 01 grants the room entry beyond the image's length: registrations are Let, Const, parameters and `this`
abbrev pub room_bound : Entry → Block → ℕ
room_bound x b = 21 * ((size_of b.code + 1) * (regs_of b.code + length (locals_of x) + 1))
