-- Statements and blocks that were read are valid.
-- Assumes nothing.
use mathlib.Core.Path.{◌≡◌, refl, ap, ◌∙◌, subst}
use mathlib.Core.List.{List, [], ◌∷◌, ◌++◌}
use mathlib.Core.Bool.{Bool, true, false, cond, not, ◌&&◌, ◌||◌}
use Prim.Native.Nat.{ℕ, zero, suc, ◌+◌, ◌<◌}
use native.Mathlib.Omega.{arith}
use borrow.Author.Tests.{ltb-true}
use lib.ListN.{length, get_or}
use lib.Dec.{eqb, ltb}
use Rattle.image_fields.specs.Parsed.{Parsed, ok}
use Rattle.image_fields.specs.Number.{two, four}
use Rattle.image_fields.specs.Table.{many_of}
use Rattle.image_fields.specs.Bytes.{Bytes}
use Rattle.image_fields.proofs.Inverse.{bound, ensure-ok, impossible}
use Rattle.image_fields.proofs.Numbers.{field-ok}
use Rattle.image_fields.proofs.Tests.{and-true, false-true}
use Rattle.image_body.specs.Expr.{Expr, Exprs, none, more, Scope}
use Rattle.image_body.specs.Stmt.{Tree, Block, StmtHead, Stmt, done, head_bytes, value_count, block_count, else_flag, first_value, second_value, first_block, stmt_head_at, stmt_at, before_of, before, stmts_by, block_at}
use Rattle.image_body.specs.Stands.{count}
use Rattle.image_encoding.specs.Body.{size}
use Rattle.image_encoding.specs.Valid.{Each, EachExpr, ValidValue, ValidCode, ValidBlock}
use Rattle.image_encoding.proofs.Parts.{two-small}
use Rattle.image_encoding.proofs.Runs.{many-all}
use Rattle.image_encoding.proofs.StmtBytes.{Shape, value-flag, else-flag, tags, encodes}
use Rattle.image_body.proofs.StmtRead.{stmt-read, flag_small}
use Rattle.image_encoding.proofs.ExprValid.{four-small, exprs-valid}

-- the first and second of those that are there
first_good : (P : Expr → Type 0) (es : Exprs) → 0 < count es → EachExpr P es → P (first_value es)
unfolding EachExpr
first_good P none lt v = absurd (omega arith)
first_good P (more e es) lt v = v.0

second-good : (P : Expr → Type 0) (es : Exprs) → 1 < count es → EachExpr P es → P (second_value es)
unfolding EachExpr
second-good P none lt v = absurd (omega arith)
second-good P (more e es) lt v = first_good P es (omega arith) v.1

block-good : (Good : Block → Type 0) (bs : List Block) → 0 < length bs → Each (λ xs b. Good b) [] bs → Good (first_block bs)
unfolding Each
block-good Good [] lt v = absurd (omega arith)
block-good Good (b ∷ bs) lt v = v.0

-- a head that was read: its numbers are within the tables
record HeadValid (t : Scope) (h : StmtHead) : Type 0 where
  low : 0 < h.tag
  high : h.tag < 11
  span : h.span < 4294967296
  within : eqb (get_or head_bytes h.tag 0) 9 ≡ true → (h.name < t.names) × (h.ty < t.types)

span-valid : (b : Bool) (n : ℕ) → n < 4294967296 → cond b 0 n < 4294967296
span-valid true n lt = omega arith
span-valid false n lt = lt

within-valid : (t : Scope) (c : Bool) (a b : ℕ) → (not c || (ltb a t.names && ltb b t.types)) ≡ true → c ≡ true
    → (cond c a 0 < t.names) × (cond c b 0 < t.types)
within-valid t true a b e z = let g = and-true (ltb a t.names) _ e in (ltb-true _ _ g.0, ltb-true _ _ g.1)
within-valid t false a b e z = false-true z

-- a statement before the rest, by its tag
module _ (Good : Block → Type 0) (t : Scope) (h : StmtHead) (es : Exprs) (n l : ℕ) (bs cs : List Block) (c : Tree) (span : h.span < 4294967296) (last : l < t.types)
    (values : EachExpr (ValidValue t) es) (blocks : Each (λ xs b. Good b) [] bs) (others : Each (λ xs b. Good b) [] cs) (rest : ValidCode Good t c) where
  Goes : ℕ → Type 0
  Goes tag = Shape tag es n bs cs → (eqb (get_or head_bytes tag 0) 9 ≡ true → (h.name < t.names) × (h.ty < t.types)) → ValidCode Good t (before_of tag h es l bs cs c)

  one : 0 < count es → ValidValue t (first_value es)
  one lt = first_good (ValidValue t) es lt values

  inner : 0 < length bs → Good (first_block bs)
  inner lt = block-good Good bs lt blocks

  goes-block : Goes 1
  unfolding Goes ValidCode before_of block_count
  goes-block g w = let k = g.blocks in (inner (omega arith), rest)

  goes-expr : Goes 3
  unfolding Goes ValidCode before_of value_count
  goes-expr g w = let a = g.values in (span, one (omega arith), rest)

  goes-let : Goes 4
  unfolding Goes ValidCode before_of value_count head_bytes
  goes-let g w = let a = g.values in (span, (w refl).0, (w refl).1, one (omega arith), rest)

  goes_const : Goes 5
  unfolding Goes ValidCode before_of value_count head_bytes
  goes_const g w = let a = g.values in (span, (w refl).0, (w refl).1, one (omega arith), rest)

  goes-assign : Goes 6
  unfolding Goes ValidCode before_of value_count
  goes-assign g w = let a = g.values in (span, one (omega arith), second-good (ValidValue t) es (omega arith) values, last, rest)

  goes-while : Goes 8
  unfolding Goes ValidCode before_of value_count block_count
  goes-while g w = let a = g.values in let k = g.blocks in (span, one (omega arith), inner (omega arith), rest)

  goes-break : Goes 9
  unfolding Goes ValidCode before_of
  goes-break g w = (span, rest)

  goes-continue : Goes 10
  unfolding Goes ValidCode before_of
  goes-continue g w = (span, rest)

module _ (Good : Block → Type 0) (t : Scope) (h : StmtHead) (n l : ℕ) (c : Tree) (span : h.span < 4294967296) (last : l < t.types) (rest : ValidCode Good t c) where
  goes-return : (es : Exprs) (bs cs : List Block) (values : EachExpr (ValidValue t) es) (blocks : Each (λ xs b. Good b) [] bs) (others : Each (λ xs b. Good b) [] cs)
      → Goes Good t h es n l bs cs c span last values blocks others rest 2
  unfolding Goes ValidCode before_of EachExpr
  goes-return none bs cs values blocks others g w = (span, last, rest)
  goes-return (more e es) bs cs values blocks others g w = (span, values.0, last, rest)

  goes-if : (es : Exprs) (bs cs : List Block) (values : EachExpr (ValidValue t) es) (blocks : Each (λ xs b. Good b) [] bs) (others : Each (λ xs b. Good b) [] cs)
      → Goes Good t h es n l bs cs c span last values blocks others rest 7
  unfolding Goes ValidCode before_of Each value_count block_count
  goes-if es bs [] values blocks others g w =
      let a = g.values in let k = g.blocks in
      (span, first_good (ValidValue t) es (omega arith) values, block-good Good bs (omega arith) blocks, rest)
  goes-if es bs (d ∷ cs) values blocks others g w =
      let a = g.values in let k = g.blocks in
      (span, first_good (ValidValue t) es (omega arith) values, block-good Good bs (omega arith) blocks, others.0, rest)

-- what a statement's reading tells
record StmtValid (Good : Block → Type 0) (t : Scope) (x : Stmt) : Type 0 where
  flag : ℕ
  shape : Shape x.front.head.tag x.front.values flag x.blocks x.others
  head : HeadValid t x.front.head
  last : x.front.last < t.types
  values : EachExpr (ValidValue t) x.front.values
  blocks : Each (λ xs b. Good b) [] x.blocks
  others : Each (λ xs b. Good b) [] x.others

before-valid : (Good : Block → Type 0) (t : Scope) (x : Stmt) (c : Tree) → StmtValid Good t x → ValidCode Good t c → ValidCode Good t (before x c)
unfolding Goes
before-valid Good t x c v rest =
    let h = x.front.head in
    let es = x.front.values in
    let l = x.front.last in
    let bs = x.blocks in
    let cs = x.others in
    let n = v.flag in
    let span = v.head.span in
    let last = v.last in
    let values = v.values in
    let blocks = v.blocks in
    let others = v.others in
    tags (Goes Good t h es n l bs cs c span last values blocks others rest)
    (goes-block Good t h es n l bs cs c span last values blocks others rest)
    (goes-return Good t h n l c span last rest es bs cs values blocks others)
    (goes-expr Good t h es n l bs cs c span last values blocks others rest)
    (goes-let Good t h es n l bs cs c span last values blocks others rest)
    (goes_const Good t h es n l bs cs c span last values blocks others rest)
    (goes-assign Good t h es n l bs cs c span last values blocks others rest)
    (goes-if Good t h n l c span last rest es bs cs values blocks others)
    (goes-while Good t h es n l bs cs c span last values blocks others rest)
    (goes-break Good t h es n l bs cs c span last values blocks others rest)
    (goes-continue Good t h es n l bs cs c span last values blocks others rest)
    h.tag v.head.low v.head.high v.shape v.head.within

module _ (s : List ℕ) (small : Bytes s) (t : Scope) where
  stmt-head-valid : (p : ℕ) (h : StmtHead) (q : ℕ) → stmt_head_at t.names t.types s p ≡ ok h q → HeadValid t h
  unfolding stmt_head_at
  stmt-head-valid p h q e =
      let e1 = ensure-ok _ e in
      let e2 = ensure-ok _ e1.1 in
      let e3 = ensure-ok _ e2.1 in
      let e4 = ensure-ok _ e3.1 in
      let w = get_or head_bytes (get_or s p 0) 0 in
      let x : record {
        tag = get_or s p 0;
        span = cond (eqb (get_or s p 0) 1) 0 (four s (p + 1));
        name = cond (eqb w 9) (two s (p + 5)) 0;
        ty = cond (eqb w 9) (two s (p + 7)) 0;
      } ≡ h = cc in
      subst (HeadValid t) x record {
        low = ltb-true _ _ e1.0;
        high = ltb-true _ _ e2.0;
        span = span-valid (eqb (get_or s p 0) 1) (four s (p + 1)) (four-small s small (p + 1));
        within = within-valid t (eqb w 9) (two s (p + 5)) (two s (p + 7)) e4.0;
      }

  module _ (f : ℕ → Parsed Block) (Good : Block → Type 0) (each : (p : ℕ) (b : Block) (q : ℕ) → f p ≡ ok b q → Good b) where
    blocks-valid : (n p : ℕ) (bs : List Block) (q : ℕ) → many_of [] ◌∷◌ f n p ≡ ok bs q → ((xs : List Block) → Each (λ ys b. Good b) xs bs) × (length bs ≡ n)
    unfolding Each
    blocks-valid =
        many-all [] ◌∷◌ f (λ b p q. Good b) (λ bs n p q. ((xs : List Block) → Each (λ ys b. Good b) xs bs) × (length bs ≡ n))
        (λ p. (λ xs. tt, refl)) (λ b bs n p q r x y. (λ xs. (x, y.0 (xs ++ (b ∷ []))), ap suc y.1)) each

    stmt-valid : (p : ℕ) (x : Stmt) (q : ℕ) → stmt_at f t s p ≡ ok x q → StmtValid Good t x
    stmt-valid p x q e =
        let g = stmt-read f t s x p q e in
        let tag = x.front.head.tag in
        let vh = stmt-head-valid p x.front.head g.p1 g.head in
        let ve = exprs-valid s small t t.expr_depth _ g.p2 x.front.values g.p3 g.values in
        let vb = blocks-valid _ g.p4 x.blocks g.p5 g.blocks in
        let vc = blocks-valid g.other g.p6 x.others q g.others in
        let lm : length x.others ≡ g.other = vc.1 in
        let fm : g.other < 1 + get_or else_flag tag 0 = flag_small _ s g.p5 g.other g.p6 (else-flag tag vh.high) g.followed in
        record {
          flag = g.flag;
          shape = record {
            low = vh.low;
            high = vh.high;
            values = ve.1;
            flag = flag_small _ s g.p1 g.flag g.p2 (value-flag tag vh.high) g.flagged;
            blocks = vb.1;
            others = omega arith;
          };
          head = vh;
          last = (field-ok g.last).small;
          values = ve.0;
          blocks = vb.0 [];
          others = vc.0 [];
        }

    stmts-by-valid : (n p : ℕ) (c : Tree) (q : ℕ) → stmts_by f t s n p ≡ ok c q → ValidCode Good t c × (size c ≡ n)
    unfolding ValidCode size
    stmts-by-valid =
        many-all (done tt) before (stmt_at f t s) (λ x p q. StmtValid Good t x) (λ c n p q. ValidCode Good t c × (size c ≡ n)) (λ p. (tt, refl)) next stmt-valid
      where
        next : (x : Stmt) (c : Tree) (n p q r : ℕ) → StmtValid Good t x → ValidCode Good t c × (size c ≡ n) → ValidCode Good t (before x c) × (size (before x c) ≡ suc n)
        next x c n p q r v g =
            let k = encodes x.front.head.tag x.front.head x.front.values v.flag x.front.last x.blocks x.others c v.shape in
            (before-valid Good t x c v g.0, k.1 ∙ ap suc g.1)

  pub block-valid : (d p : ℕ) (b : Block) (q : ℕ) → block_at t s d p ≡ ok b q → ValidBlock t d b
  unfolding block_at ValidBlock
  block-valid zero p b q e = impossible e
  block-valid (suc d) p b q e =
      bound (ensure-ok _ e).1 (λ c r e2 e3.
      let x : record { span = four s p; code = c } ≡ b = cc in
      let v = stmts-by-valid (block_at t s d) (ValidBlock t d) (block-valid d) _ (p + 6) c r e2 in
      let z : size c ≡ two s (p + 4) = v.1 in
      let l = two-small s small (p + 4) in
      subst (ValidBlock t (suc d)) x (four-small s small p, omega arith, v.0))
