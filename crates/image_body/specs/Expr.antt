-- Expressions (document 01, "The image"; expr.rs): the tree, the layout of each tag, and what stands at a position.
use Rattle.std.specs.Prelude.{ℕ, zero, suc, ◌+◌, ◌-◌, List, [], ◌∷◌, Bool, true, false, not, cond, ◌&&◌, ◌||◌, length, get_or, ltb, leb, eqb}
use Rattle.image_fields.specs.Parsed.{Parsed, ok, fault, bind, ensure}
use Rattle.image_fields.specs.Number.{two, four, field_at}
use Rattle.image_fields.specs.Table.{many_of}

-- tag, span, type, and the operator of a Unary or the name of an Ident, Intrinsic or FieldAccess (0 otherwise).
-- Tags: 1 Ident, 2 This, 3 Unary, 4 Casting, 5 Binary, 6 Call, 7 List, 8 ListLiteralWithSize, 9 Obj, 10 Delete, 11 FieldAccess,
-- 12 Indexing, 13 StaticAccess, 14 Intrinsic, 15 any literal.
pub record Head : Type 0 where
  pub tag : ℕ
  pub span : ℕ
  pub ty : ℕ
  pub arg : ℕ

mutual
  -- a node: its head, its fixed children, and the items of its counted list
  pub data Expr : Type 0 where
    node : Head → Exprs → Exprs → Expr

  pub data Exprs : Type 0 where
    none : Exprs
    more : Expr → Exprs → Exprs

-- By tag, 0 to 15: bytes of the argument before the children (1 an operator, 2 a name), fixed children, bytes of the count of
-- the items that follow them, bytes of the name after these.
unfoldable pub arg_width : List ℕ
arg_width = 0 ∷ 2 ∷ 0 ∷ 1 ∷ 0 ∷ 0 ∷ 0 ∷ 0 ∷ 0 ∷ 0 ∷ 0 ∷ 0 ∷ 0 ∷ 0 ∷ 2 ∷ 0 ∷ []

unfoldable pub fixed_count : List ℕ
fixed_count = 0 ∷ 0 ∷ 0 ∷ 1 ∷ 1 ∷ 2 ∷ 1 ∷ 0 ∷ 1 ∷ 0 ∷ 1 ∷ 1 ∷ 2 ∷ 0 ∷ 0 ∷ 0 ∷ []

unfoldable pub count_width : List ℕ
count_width = 0 ∷ 0 ∷ 0 ∷ 0 ∷ 0 ∷ 0 ∷ 2 ∷ 2 ∷ 0 ∷ 2 ∷ 0 ∷ 0 ∷ 0 ∷ 0 ∷ 2 ∷ 0 ∷ []

unfoldable pub last_width : List ℕ
last_width = 0 ∷ 0 ∷ 0 ∷ 0 ∷ 0 ∷ 0 ∷ 0 ∷ 0 ∷ 0 ∷ 0 ∷ 0 ∷ 2 ∷ 0 ∷ 0 ∷ 0 ∷ 0 ∷ []

-- a tag with nothing after the head
abbrev pub leaf : ℕ → Bool
leaf tag = ltb 0 tag && (ltb tag 16 && (eqb (get_or fixed_count tag 0) 0 && (eqb (get_or count_width tag 0) 0 && eqb (get_or last_width tag 0) 0)))

-- what a body is read against: the numbers of names and types, for each type 1 if it is generic, perhaps behind pointers, and how
-- deep an expression may be
pub record Scope : Type 0 where
  pub names : ℕ
  pub types : ℕ
  pub generic : List ℕ
  pub expr_depth : ℕ

-- n expressions, one after another
abbrev pub exprs_by : (ℕ → Parsed Expr) → ℕ → ℕ → Parsed Exprs
exprs_by f n at = many_of none more f n at

-- what an argument of k bytes stays below: an operator or a name
abbrev pub arg_limit : ℕ → ℕ → ℕ
arg_limit names k = cond (eqb k 1) 5 names

-- a type in the table; a Delete has type 0
abbrev pub type_ok : ℕ → ℕ → ℕ → Bool
type_ok types tag ty = ltb ty types && (not (eqb tag 10) || eqb ty 0)

-- tag, span, type and the argument before the children
unfoldable pub head_at : ℕ → ℕ → List ℕ → ℕ → Parsed Head
head_at names types s at =
    ensure (leb 7 (length s - at)) 8
    (ensure (ltb 0 (get_or s at 0)) 8
    (ensure (ltb (get_or s at 0) 16) 8
    (ensure (type_ok types (get_or s at 0) (two s (at + 5))) 8
    (bind (field_at 8 (arg_limit names (get_or arg_width (get_or s at 0) 0)) (get_or arg_width (get_or s at 0) 0) s (at + 7))
    (λ a p. ok (record { tag = get_or s at 0; span = four s (at + 1); ty = two s (at + 5); arg = a }) p)))))

abbrev pub head_of : Expr → Head
head_of (node h ks xs) = h

abbrev pub children_of : Expr → Exprs
children_of (node h ks xs) = ks

-- a unary without an operator
abbrev pub noop_unary : Head → Bool
noop_unary h = eqb h.tag 3 && eqb h.arg 0

-- strip_noop_unary: an expression looked through, what stands under its operator-less unaries
unfoldable mutual
  pub through : Expr → Expr
  through (node h ks xs) = through_first ks (noop_unary h) (node h ks xs)

  pub through_first : Exprs → Bool → Expr → Expr
  through_first none b e = e
  through_first (more c cs) true e = through c
  through_first (more c cs) false e = e

-- fault 11: a callee that is, looked through, a field access whose target is, looked through, an Ident, and whose target's type,
-- as it stands, is generic, perhaps behind pointers
abbrev pub generic_target : List ℕ → Exprs → Bool
generic_target g none = false
generic_target g (more e es) = eqb (head_of (through e)).tag 1 && eqb (get_or g (head_of e).ty 0) 1

unfoldable pub generic_receiver : List ℕ → Expr → Bool
generic_receiver g e = eqb (head_of (through e)).tag 11 && generic_target g (children_of (through e))

abbrev pub generic_callee : List ℕ → Exprs → Bool
generic_callee g none = false
generic_callee g (more e es) = generic_receiver g e

-- the head with the name after the children, where the tag has one
abbrev pub named : Head → ℕ → ℕ → Head
named h k a = record { tag = h.tag; span = h.span; ty = h.ty; arg = cond (eqb k 0) h.arg a }

-- what is left once the children are read: the name of a FieldAccess, and the test of a Call's receiver
unfoldable pub end_at : Scope → List ℕ → Head → Exprs → Exprs → ℕ → Parsed Expr
end_at t s h ks xs at =
    bind (field_at 8 t.names (get_or last_width h.tag 0) s at) (λ a p.
    ensure (not (eqb h.tag 6 && generic_callee t.generic ks)) 11
    (ok (node (named h (get_or last_width h.tag 0) a) ks xs) p))

-- what follows a head: the fixed children, the counted list and the end
unfoldable pub rest_at : (ℕ → Parsed Expr) → Scope → List ℕ → Head → ℕ → Parsed Expr
rest_at f t s h p =
    bind (exprs_by f (get_or fixed_count h.tag 0) p) (λ ks q.
    bind (field_at 8 65536 (get_or count_width h.tag 0) s q) (λ n r.
    bind (exprs_by f n r) (λ xs u. end_at t s h ks xs u)))

-- an expression at a position, with so much depth left; depth is tested before its first byte (fault 9)
unfoldable pub expr_at : Scope → List ℕ → ℕ → ℕ → Parsed Expr
expr_at t s zero at = fault 9
expr_at t s (suc d) at = bind (head_at t.names t.types s at) (λ h p. rest_at (expr_at t s d) t s h p)

abbrev pub exprs_at : Scope → List ℕ → ℕ → ℕ → ℕ → Parsed Exprs
exprs_at t s d n at = exprs_by (expr_at t s d) n at

abbrev pub children_at : Scope → List ℕ → ℕ → Head → ℕ → Parsed Expr
children_at t s d h p = rest_at (expr_at t s d) t s h p
