-- The code's answers for what the definitions say, a fault by its number.
use Rattle.std.specs.Prelude.{ℕ, zero, suc, Result, Ok, Err}
use Rattle.image_fields.specs.Parsed.{Parsed, ok, fault}
use Rattle.image_body.specs.Expr.{Scope, Head}
use Rattle.image_body.specs.Stmt.{StmtHead, Front}
use Rattle.image_body.specs.Answer.{scope_of}
use Rattle.image_reading.specs.declared.Reader.{Reader}

-- what a reader reads against
abbrev pub scope : Reader → Scope
scope r = scope_of r.env r.flags.now

-- a node's tag and the position of what follows its head, or the fault's number
unfoldable pub start_of : Parsed Head → Result (ℕ × ℕ) ℕ
start_of (ok h p) = Ok (h.tag, p)
start_of (fault n) = Err n

unfoldable pub stmt_start_of : Parsed StmtHead → Result (ℕ × ℕ) ℕ
stmt_start_of (ok h p) = Ok (h.tag, p)
stmt_start_of (fault n) = Err n

unfoldable pub front_of : Parsed Front → Result (ℕ × ℕ) ℕ
front_of (ok h p) = Ok (h.head.tag, p)
front_of (fault n) = Err n

-- go on at a position; a fault's number stays
unfoldable pub onward : Result ℕ ℕ → (ℕ → Result ℕ ℕ) → Result ℕ ℕ
onward (Ok p) k = k p
onward (Err n) k = Err n

-- where n end, one after another, if one that starts at p ends at g p
unfoldable pub ends_after : (ℕ → Result ℕ ℕ) → ℕ → ℕ → Result ℕ ℕ
ends_after g zero at = Ok at
ends_after g (suc n) at = onward (g at) (λ p. ends_after g n p)
