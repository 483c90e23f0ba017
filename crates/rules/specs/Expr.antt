-- What an expression is, looked through, as far as the rules ask.
use Rattle.std.specs.Prelude.{ℕ, ◌+◌, Bool, true, false, cond, ◌==◌}
use Rattle.image_body.specs.Expr.{Head, Expr, Exprs, node, none, more, head_of, through, noop_unary}

-- HirExpr::ty, of the node as it stands
abbrev pub ty_of : Expr → ℕ
ty_of e = (head_of e).ty

-- an Ident (name, span), a ThisLiteral (span), a FieldAccess (span, target, name), a Delete (child), a Call (callee)
pub data View : Type 0 where
  an_ident : ℕ → ℕ → View
  a_this : ℕ → View
  a_field : ℕ → Expr → ℕ → View
  a_delete : Expr → View
  a_call : Expr → View
  other : View

abbrev pub field_view : Head → Exprs → View
field_view h none = other
field_view h (more e es) = a_field h.span e h.arg

abbrev pub delete_view : Exprs → View
delete_view none = other
delete_view (more e es) = a_delete e

abbrev pub call_view : Exprs → View
call_view none = other
call_view (more e es) = a_call e

abbrev pub view_of : Expr → View
view_of (node h ks xs) =
    cond (h.tag == 1) (an_ident h.arg h.span)
    (cond (h.tag == 2) (a_this h.span)
    (cond (h.tag == 6) (call_view ks)
    (cond (h.tag == 10) (delete_view ks)
    (cond (h.tag == 11) (field_view h ks) other))))

-- what strip_noop_unary gives
abbrev pub view : Expr → View
view e = view_of (through e)

-- a name and the span of its node, or none
pub data Named : Type 0 where
  nobody : Named
  called : ℕ → ℕ → Named

-- the name of an Ident
abbrev pub ident_in : View → Named
ident_in (an_ident n s) = called n s
ident_in (a_this s) = nobody
ident_in (a_field s e n) = nobody
ident_in (a_delete e) = nobody
ident_in (a_call f) = nobody
ident_in other = nobody

-- the name of an Ident or a ThisLiteral
abbrev pub name_in : View → Named
name_in (an_ident n s) = called n s
name_in (a_this s) = called 0 s
name_in (a_field s e n) = nobody
name_in (a_delete e) = nobody
name_in (a_call f) = nobody
name_in other = nobody

abbrev pub is_call : View → Bool
is_call (an_ident n s) = false
is_call (a_this s) = false
is_call (a_field s e m) = false
is_call (a_delete e) = false
is_call (a_call f) = true
is_call other = false

-- where the tag of a call's callee stands, the expression at a position: behind the operator-less unaries, 8 bytes each, and the
-- call's own tag, span and type
unfoldable mutual
  pub callee_at : Expr → ℕ → ℕ
  callee_at (node h ks xs) at = callee_in ks (noop_unary h) at

  pub callee_in : Exprs → Bool → ℕ → ℕ
  callee_in none b at = at
  callee_in (more c cs) true at = callee_at c (at + 8)
  callee_in (more c cs) false at = at + 7
