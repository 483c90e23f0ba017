-- Demand 3 of the body as it is returned. Its statements bear marks: which were submitted, which are put in, which have a delete put
-- round their result. With the marks forgotten it is what is given back; what was put in, gathered into decisions, is what runs ask about.
use Rattle.std.specs.Prelude.{◌≡◌, true, false, cond, [], ◌∷◌, ◌==◌}
use Rattle.std.proofs.Math.Option.{Option, some, map, bind}
use Rattle.tables.specs.Signature.{Entry}
use Rattle.tables.specs.Tables.{Tables}
use Rattle.image_body.specs.Expr.{Expr, Exprs, node, none, more}
use Rattle.image_body.specs.Stmt.{Code, Tree, Block, done, expr_stmt, variable, assign, return, bare_return, block, if_else, if_then, while, jump}
use Rattle.rules.specs.Expr.{view, is_call}
use Rattle.rules.specs.Rules.{Drop, drop_of, Decided, Switches, concerns, locals_of, PlainBody}
use Rattle.rules.specs.Report.{forget}
use Rattle.rules.specs.Run.{Demand3}

-- of an expression statement: submitted; put in; submitted, with a delete put round its result
pub data Origin : Type 0 where
  original inserted wrapped : Origin

abbrev pub Marked : Type 0
Marked = Code (Unit {0}) Origin

abbrev pub first_of : Exprs → Option Expr
first_of none = Option.none
first_of (more e es) = some e

-- what a Delete stands round
abbrev pub in_delete : Expr → Option Expr
in_delete (node h ks xs) = cond (h.tag == 10) (first_of ks) Option.none

-- the result of a call, with a Delete round it
abbrev pub in_result : Expr → Option Expr
in_result e = bind (in_delete e) (λ v. cond (is_call (view v)) (some v) Option.none)

-- the delete of an Ident
abbrev pub of_ident : Expr → Option Drop
of_ident (node h ks xs) = cond (h.tag == 1) (some (drop_of h.span h.arg h.ty)) Option.none

module _ (w : Switches) where
  -- an inserted delete stands before an assignment, a return with a value or a block's end, with switch 1 a bare return, with switch 2 a
  -- Break or Continue, or before another that does, and nowhere else
  abbrev pub put_before : Drop → Decided → Option Decided
  put_before i (done x) = some (done (i ∷ x))
  put_before i (expr_stmt s e y r) = Option.none
  put_before i (variable k s n t e r) = Option.none
  put_before i (assign s e v t x r) = some (assign s e v t (i ∷ x) r)
  put_before i (return s e t x r) = some (return s e t (i ∷ x) r)
  put_before i (bare_return s t x r) = cond w.bare_returns (some (bare_return s t (i ∷ x) r)) Option.none
  put_before i (block s c r) = Option.none
  put_before i (if_else s e ts t us u r) = Option.none
  put_before i (if_then s e ts t r) = Option.none
  put_before i (while s e ts t r) = Option.none
  put_before i (jump k s x r) = cond w.jumps (some (jump k s (i ∷ x) r)) Option.none

  -- the decisions that a marked tree shows; none if a mark is out of place, or is on what is no delete of an Ident or of a
  -- call's result
  abbrev pub gathered : Marked → Option Decided
  gathered (done x) = some (done [])
  gathered (expr_stmt s e original r) = map (λ z. expr_stmt s e false z) (gathered r)
  gathered (expr_stmt s e inserted r) = bind (in_delete e) (λ v. bind (of_ident v) (λ i. bind (gathered r) (λ z. put_before i z)))
  gathered (expr_stmt s e wrapped r) = bind (in_result e) (λ v. map (λ z. expr_stmt s v true z) (gathered r))
  gathered (variable k s n t e r) = map (λ z. variable k s n t e z) (gathered r)
  gathered (assign s e v t x r) = map (λ z. assign s e v t [] z) (gathered r)
  gathered (return s e t x r) = map (λ z. return s e t [] z) (gathered r)
  gathered (bare_return s t x r) = map (λ z. bare_return s t [] z) (gathered r)
  gathered (block s c r) = bind (gathered c) (λ y. map (λ z. block s y z) (gathered r))
  gathered (if_else s e ts t us u r) =
      bind (gathered t) (λ x. bind (gathered u) (λ y. map (λ z. if_else s e ts x us y z) (gathered r)))
  gathered (if_then s e ts t r) = bind (gathered t) (λ y. map (λ z. if_then s e ts y z) (gathered r))
  gathered (while s e ts t r) = bind (gathered t) (λ y. map (λ z. while s e ts y z) (gathered r))
  gathered (jump k s x r) = map (λ z. jump k s [] z) (gathered r)

-- Demand 3, first two sentences, of the statements given back for a body: marks on them show decisions on the submitted statements,
-- and if the body is plain all runs with these decisions are as demanded
pub record ReturnedBody (w : Switches) (T : Tables) (x : Entry) (b : Block) (returned : Tree) : Type 0 where
  pub marked : Marked
  pub decided : Decided
  pub given : forget marked ≡ returned
  pub shown : gathered w marked ≡ some decided
  pub submitted : forget decided ≡ b.code
  pub plain : PlainBody w T x b → Demand3 (concerns w) T (locals_of x) decided
