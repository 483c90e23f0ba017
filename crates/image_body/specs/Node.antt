-- What stands at a position, as the code's Node: its variants hold numbers and the positions of what follows the head.
use Rattle.std.specs.Prelude.{ℕ, ◌+◌, List, cond, get_or, eqb}
use Rattle.image_fields.specs.Number.{two}
use Rattle.image_body.specs.declared.Node.{Node}
use Rattle.image_body.specs.declared.Node.TheVariants.{Other, Ident, This, Unary, Casting, Binary, Call, ListOf, Sized, Object, Delete, FieldAccess, Indexing, StaticAccess, Intrinsic, Literal}

-- the node of a tag, at a position
unfoldable pub node_of : List ℕ → ℕ → ℕ → Node
node_of s at tag =
    cond (eqb tag 1) (Ident (two s (at + 7)))
    (cond (eqb tag 2) This
    (cond (eqb tag 3) (Unary (get_or s (at + 7) 0) (at + 8))
    (cond (eqb tag 4) (Casting (at + 7))
    (cond (eqb tag 5) (Binary (at + 7))
    (cond (eqb tag 6) (Call (at + 7))
    (cond (eqb tag 7) (ListOf (two s (at + 7)) (at + 9))
    (cond (eqb tag 8) (Sized (at + 7))
    (cond (eqb tag 9) (Object (two s (at + 7)) (at + 9))
    (cond (eqb tag 10) (Delete (at + 7))
    (cond (eqb tag 11) (FieldAccess (at + 7))
    (cond (eqb tag 12) (Indexing (at + 7))
    (cond (eqb tag 13) StaticAccess
    (cond (eqb tag 14) (Intrinsic (two s (at + 7)) (two s (at + 9)) (at + 11))
    (cond (eqb tag 15) Literal
    Other))))))))))))))

abbrev pub node_at : List ℕ → ℕ → Node
node_at s at = node_of s at (get_or s at 0)

-- the tag of a node
abbrev pub kind_of : Node → ℕ
kind_of Other = 0
kind_of (Ident x0) = 1
kind_of This = 2
kind_of (Unary x0 x1) = 3
kind_of (Casting x0) = 4
kind_of (Binary x0) = 5
kind_of (Call x0) = 6
kind_of (ListOf x0 x1) = 7
kind_of (Sized x0) = 8
kind_of (Object x0 x1) = 9
kind_of (Delete x0) = 10
kind_of (FieldAccess x0) = 11
kind_of (Indexing x0) = 12
kind_of StaticAccess = 13
kind_of (Intrinsic x0 x1 x2) = 14
kind_of Literal = 15
