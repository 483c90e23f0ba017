-- Expressions of mod.rs's corners and their effects, as rows of one table.
-- Assumes nothing.
use Rattle.std.proofs.Common.{◌≡◌, ℕ, List, [], ◌∷◌, map, refl}
use Rattle.tables.specs.Name.{same_bytes, starts_with}
use Rattle.tables_lookup.specs.First.{first_from, and_then, or_else}
use Rattle.tables_lookup.specs.Ty.{inside, struct_named, class_of_ty, class_of}
use Rattle.tables_lookup.specs.Signature.{modifier_in, modifier_of, is_consuming, global_of}
use Rattle.image_body.specs.Expr.{Expr, count_width, through, none, more}
use Rattle.rules.proofs.Nodes.{node_of, one, ident, this, unary, call, field, move, tables}
use Rattle.rules.specs.Questions.{is_temp_of, is_move_of, consumes, global_in}
use Rattle.rules.specs.Stack.{Static, Shape}
use Rattle.rules.specs.State.{moved, consumed}
use Rattle.rules.specs.Effects.{Effect, use', kill, hand, bad_move, global_move, takes, handed, finish, effects}

-- locals: `this`, `v`, `g` and the temporary `__tmp`; `w` is none
abbrev a : ℕ → Static
a n = record { name = n; ty = 1; depth = 0; born = 0 }

abbrev locals : Shape
locals = a 6 ∷ a 5 ∷ a 1 ∷ a 0 ∷ []

pub record Row : Type 0 where
  pub expr : Expr
  pub effects' : List Effect

abbrev row : Expr → List Effect → Row
row e es = record { expr = e; effects' = es }

abbrev v : ℕ → Expr
v s = ident s 1 1

abbrev tmp : ℕ → Expr
tmp s = ident s 1 6

abbrev pub rows : List Row
rows =
    row (move 90 (one (v 10))) (use' 1 10 ∷ kill moved 1 10 ∷ [])
    -- K9: std::move(&v)
    ∷ row (move 90 (one (unary 20 1 3 (v 10)))) (use' 1 10 ∷ bad_move 20 1 ∷ [])
    -- looked through: the place is the Ident's; what is no name is refused at the argument
    ∷ row (move 90 (one (unary 20 1 0 (v 10)))) (use' 1 10 ∷ kill moved 1 10 ∷ [])
    ∷ row (move 90 (one (unary 20 1 0 (unary 21 1 3 (v 10))))) (use' 1 10 ∷ bad_move 20 1 ∷ [])
    -- K10: a global that is a local too
    ∷ row (move 90 (one (ident 10 1 5))) (use' 5 10 ∷ global_move 10 99 ∷ [])
    -- no such local; a temporary; `this`
    ∷ row (move 90 (one (ident 10 1 2))) (use' 2 10 ∷ bad_move 10 2 ∷ [])
    ∷ row (move 90 (one (tmp 10))) (use' 6 10 ∷ bad_move 10 3 ∷ [])
    ∷ row (move 90 (one (this 10))) (use' 0 10 ∷ kill moved 0 10 ∷ [])
    -- only the first of two arguments is moved, after both are used; without arguments nothing is
    ∷ row (move 90 (more (v 10) (one (this 11)))) (use' 1 10 ∷ use' 0 11 ∷ kill moved 1 10 ∷ [])
    ∷ row (move 90 none) []
    -- v.take(__tmp, __tmp): a temporary is handed over before the next argument, the receiver consumed last, at the field access
    ∷ row (call 50 0 (field 40 (unary 41 1 0 (v 10)) 7) (more (tmp 11) (one (tmp 12))))
    (use' 1 10 ∷ use' 6 11 ∷ hand 6 11 ∷ use' 6 12 ∷ hand 6 12 ∷ kill consumed 1 40 ∷ [])
    -- the receiver's type is that of the target as it stands, also behind a pointer
    ∷ row (call 50 0 (field 40 (unary 41 2 0 (ident 10 0 1)) 7) none) (use' 1 10 ∷ kill consumed 1 40 ∷ [])
    ∷ row (call 50 0 (field 40 (unary 41 0 0 (v 10)) 7) none) (use' 1 10 ∷ [])
    -- the callee looked through, another method, a ThisLiteral receiver
    ∷ row (call 50 0 (unary 51 0 0 (field 40 (v 10) 7)) none) (use' 1 10 ∷ kill consumed 1 40 ∷ [])
    ∷ row (call 50 0 (field 40 (v 10) 3) none) (use' 1 10 ∷ [])
    ∷ row (call 50 0 (field 40 (this 10) 7) none) (use' 0 10 ∷ [])
    -- a callee that is a temporary is not handed over
    ∷ row (call 50 0 (tmp 10) none) (use' 6 10 ∷ [])
    -- a list and another intrinsic take nothing over; an object and a sized list do
    ∷ row (node_of 7 50 0 0 none (one (tmp 11))) (use' 6 11 ∷ [])
    ∷ row (node_of 14 50 0 3 none (one (tmp 11))) (use' 6 11 ∷ [])
    ∷ row (node_of 9 50 0 0 none (one (tmp 11))) (use' 6 11 ∷ hand 6 11 ∷ [])
    ∷ row (node_of 8 50 0 0 (one (unary 12 1 0 (tmp 11))) none) (use' 6 11 ∷ hand 6 11 ∷ [])
    -- a delete inside an expression marks nothing; a binary goes left to right
    ∷ row (node_of 5 50 0 0 (more (node_of 10 51 0 0 (one (v 10)) none) (one (v 11))) none) (use' 1 10 ∷ use' 1 11 ∷ [])
    ∷ []

pub effect-rows : map (λ r. row r.expr (effects tables locals r.expr)) rows ≡ rows
unfolding same_bytes starts_with first_from and_then or_else inside struct_named class_of_ty class_of modifier_in modifier_of is_consuming global_of count_width through is_temp_of is_move_of consumes global_in takes handed finish effects
effect-rows = refl

-- where no name is a local nothing is handed over or consumed, and a temporary is refused as no local
pub without-locals : map (effects tables []) (call 50 0 (field 40 (v 10) 7) (one (tmp 11)) ∷ move 90 (one (tmp 10)) ∷ [])
    ≡ (use' 1 10 ∷ use' 6 11 ∷ []) ∷ (use' 6 10 ∷ bad_move 10 2 ∷ []) ∷ []
unfolding same_bytes starts_with first_from and_then or_else inside struct_named class_of_ty class_of modifier_in modifier_of is_consuming global_of count_width through is_temp_of is_move_of consumes global_in takes handed finish effects
without-locals = refl
