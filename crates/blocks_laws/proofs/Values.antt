-- The values of a statement that was read: where they stand, and whose they are.
-- Assumes nothing.
use Prim.Native.Nat.{ℕ, zero, suc, ◌+◌, ◌≤◌, ◌<◌}
use native.Mathlib.Omega.{arith}
use mathlib.Core.Path.{◌≡◌, refl, sym, ap, ◌∙◌, subst}
use mathlib.Core.List.{List, [], ◌∷◌, ◌++◌, append-nil}
use lib.ListN.{length, get_or, length-append}
use Rattle.image_fields.specs.Parsed.{Parsed, ok}
use Rattle.image_fields.specs.Bytes.{Bytes}
use Rattle.image_fields.specs.Table.{many_of}
use Rattle.image_fields.proofs.Inverse.{bound}
use Rattle.image_body.specs.Expr.{Expr, Exprs, Scope as Reading, none, more, exprs_by, expr_at, exprs_at}
use Rattle.image_body.specs.Depth.{depth, depth_all, WalkableAll}
use Rattle.image_body.specs.Stmt.{Tree, Block, Stmt, before, block_at, stmt_at, stmt_in, StmtHead, head_bytes, value_flag, value_count, type_width, first_value, second_value, first_block, before_return, before_if, before_of}
use Rattle.image_body.proofs.Shallow.{shallow}
use Rattle.image_body.proofs.Standing.{stand-all}
use Rattle.image_body.specs.Stands.{count}
use Rattle.image_encoding.specs.Body.{encode_expr, encode_exprs}
use Rattle.image_encoding.proofs.StmtBytes.{Shape, tags}
use Rattle.image_encoding.proofs.ExprWritten.{exprs-written}
use Rattle.image_encoding.proofs.BodyWritten.{stmt-written, block_written}
use Rattle.expressions_scan.specs.Changes.{Standing}
use Rattle.statements_returns.specs.declared.Front.{Front}
use Rattle.statements_returns.specs.Front.{front_at}
use Rattle.statements_returns.specs.Returns.{StmtThere}
use Rattle.statements_returns.proofs.Fronts.{front-values}
use Rattle.statements_returns.proofs.Surely.{values-there}
use Rattle.statements_steps.specs.Statement.{front_size}
use Rattle.statements_steps.proofs.Whole.{values_of}
use Rattle.statements_steps.proofs.Plain.{values-before}

-- expressions that were read with depth d left are no deeper than d
many-shallow : (f : ℕ → Parsed Expr) (d : ℕ) → ((at : ℕ) (e : Expr) (next : ℕ) → f at ≡ ok e next → depth e ≤ d)
    → (n at : ℕ) (es : Exprs) (next : ℕ) → exprs_by f n at ≡ ok es next → depth_all es ≤ d
unfolding many_of depth
many-shallow f d each zero at es next x = let z : none ≡ es = cc in subst (λ y. depth_all y ≤ d) z (omega arith)
many-shallow f d each (suc n) at es next x =
    bound x (λ e p e1 e2. bound e2 (λ ys q e3 e4.
    let a = each at e p e1 in
    let b = many-shallow f d each n p ys q e3 in
    let z : more e ys ≡ es = cc in
    subst (λ y. depth_all y ≤ d) z (omega arith)))

-- the values of the statement x that was read at a position, and where they end
pub record ValuesAt (t : Reading) (s : List ℕ) (at : ℕ) (x : Stmt) : Type 0 where
  pub end : ℕ
  pub read : exprs_at t s 24 (front_at s at).values (front_at s at).first ≡ ok x.front.values end
  pub standing : Standing s (front_at s at).values (front_at s at).first x.front.values end
  pub first : at + 1 ≤ (front_at s at).first
  pub on : (front_at s at).first ≤ end
  pub room : end + (front_at s at).last ≤ length s

pub values-at : (f : ℕ → Parsed Block) (t : Reading) (s : List ℕ) (at : ℕ) (x : Stmt) (next : ℕ) → t.expr_depth ≡ 24 → stmt_at f t s at ≡ ok x next → ValuesAt t s at x
values-at f t s at x next deep read =
    let g = front-values f t s at x next read in
    let v : exprs_at t s 24 (front_at s at).values (front_at s at).first ≡ ok x.front.values g.q =
    subst (λ (d : ℕ). exprs_at t s d (front_at s at).values (front_at s at).first ≡ ok x.front.values g.q) deep g.values in
    let a = stand-all t s 24 _ _ _ _ v in
    record {
      end = g.q;
      read = v;
      standing = record { stand = a.0; many = a.1; shallow = many-shallow (expr_at t s 24) 24 (shallow t s 24) _ _ _ _ v };
      first = g.first;
      on = g.order;
      room = g.end;
    }

-- they are the values of the statement
pub values-of : (s : List ℕ) → Bytes s → (t : Reading) (left at : ℕ) (x : Stmt) (next : ℕ) → stmt_in t s left at ≡ ok x next → (c : Tree)
    → values_of (before x c) ≡ x.front.values
values-of s small t left at x next read c =
    let w = stmt-written s small (block_at t s left) (block_written s small t left) t at x next read in
    values-before x.front.head.tag x.front.head x.front.values w.flag x.front.last x.blocks x.others c w.shape

-- how many bytes the front of a statement has
one-bytes : (es : Exprs) → count es ≡ 1 → length (encode_expr (first_value es)) ≡ length (encode_exprs es)
unfolding encode_expr
one-bytes none h = absurd (omega arith)
one-bytes (more e none) h = sym (ap length (append-nil (encode_expr e)))
one-bytes (more e (more f es)) h = absurd (omega arith)

two_bytes : (es : Exprs) → count es ≡ 2 → length (encode_expr (first_value es)) + length (encode_expr (second_value es)) ≡ length (encode_exprs es)
unfolding encode_expr
two_bytes none h = absurd (omega arith)
two_bytes (more e none) h = absurd (omega arith)
two_bytes (more e (more f none)) h = sym (length-append (encode_expr e) (encode_expr f ++ []) ∙ ap (λ (l : List ℕ). length (encode_expr e) + length l) (append-nil (encode_expr f)))
two_bytes (more e (more f (more g es))) h = absurd (omega arith)

no_bytes : (es : Exprs) → count es ≡ 0 → length (encode_exprs es) ≡ 0
unfolding encode_expr
no_bytes none h = refl
no_bytes (more e es) h = absurd (omega arith)

return-size : (es : Exprs) (s t : ℕ) (c : Tree) → count es < 2 → front_size (before_return es s t c) ≡ 8 + length (encode_exprs es)
unfolding encode_expr
return-size none s t c h = refl
return-size (more e none) s t c h = let b = one-bytes (more e none) refl in omega arith
return-size (more e (more f es)) s t c h = absurd (omega arith)

if-size : (bs : List Block) (s : ℕ) (e : Expr) (b : Block) (c : Tree) → front_size (before_if bs s e b c) ≡ 5 + length (encode_expr e)
if-size [] s e b c = refl
if-size (d ∷ ds) s e b c = refl

size_of : (tag : ℕ) (h : StmtHead) (es : Exprs) (n l : ℕ) (bs cs : List Block) (c : Tree) → Shape tag es n bs cs
    → front_size (before_of tag h es l bs cs c) ≡ get_or head_bytes tag 0 + get_or value_flag tag 0 + length (encode_exprs es) + get_or type_width tag 0
unfolding before_of head_bytes value_count value_flag type_width
size_of tag h es n l bs cs c g =
    tags (λ (k : ℕ). Shape k es n bs cs → front_size (before_of k h es l bs cs c) ≡ get_or head_bytes k 0 + get_or value_flag k 0 + length (encode_exprs es) + get_or type_width k 0)
    (λ s. let b = no_bytes es (let v = s.values in let f = s.flag in omega arith) in omega arith)
    (λ s. let b = return-size es h.span l c (let v = s.values in let f = s.flag in omega arith) in omega arith)
    (λ s. let b = one-bytes es (let v = s.values in let f = s.flag in omega arith) in omega arith)
    (λ s. let b = one-bytes es (let v = s.values in let f = s.flag in omega arith) in omega arith)
    (λ s. let b = one-bytes es (let v = s.values in let f = s.flag in omega arith) in omega arith)
    (λ s. let b = two_bytes es (let v = s.values in let f = s.flag in omega arith) in omega arith)
    (λ s. let b = one-bytes es (let v = s.values in let f = s.flag in omega arith) in let i = if-size cs h.span (first_value es) (first_block bs) c in omega arith)
    (λ s. let b = one-bytes es (let v = s.values in let f = s.flag in omega arith) in omega arith)
    (λ s. let b = no_bytes es (let v = s.values in let f = s.flag in omega arith) in omega arith)
    (λ s. let b = no_bytes es (let v = s.values in let f = s.flag in omega arith) in omega arith)
    tag g.low g.high g

-- the front of a statement ends behind its values and the type that follows them
pub front-end : (s : List ℕ) → Bytes s → (t : Reading) → t.expr_depth ≡ 24 → (left at : ℕ) (x : Stmt) (next : ℕ) → stmt_in t s left at ≡ ok x next → (c : Tree)
    → (v : ValuesAt t s at x) → at + front_size (before x c) ≡ v.end + (front_at s at).last
front-end s small t deep left at x next read c v =
    let w = stmt-written s small (block_at t s left) (block_written s small t left) t at x next read in
    let k = (front-values (block_at t s left) t s at x next read).tag in
    let z : front_size (before x c) ≡ get_or head_bytes (get_or s at 0) 0 + get_or value_flag (get_or s at 0) 0 + length (encode_exprs x.front.values) + get_or type_width (get_or s at 0) 0 =
    size_of x.front.head.tag x.front.head x.front.values w.flag x.front.last x.blocks x.others c w.shape
    ∙ ap (λ (i : ℕ). get_or head_bytes i 0 + get_or value_flag i 0 + length (encode_exprs x.front.values) + get_or type_width i 0) k in
    let e = (exprs-written s small t 24 _ _ _ _ v.read).0.end in
    omega arith

-- of the statement read
module _ (s : List ℕ) (t : Reading) (deep : t.expr_depth ≡ 24) (left at : ℕ) (x : Stmt) (next : ℕ) (read : stmt_in t s left at ≡ ok x next) where
  pub values-in : ValuesAt t s at x
  values-in = values-at (block_at t s left) t s at x next deep read

-- of a statement that stands there
module _ (s : List ℕ) (left at : ℕ) (there : StmtThere s left at) where
  pub there-values : ValuesAt there.t s at there.x
  there-values = values-in s there.t there.deep left at there.x there.next there.read

  -- what a scan requires, for the front that was made
  module _ (h : Front) (eh : h ≡ front_at s at) where
    pub front-walkable : WalkableAll s 24 h.values h.first
    front-walkable = values-there s left at there h h.values eh refl

    pub front-inside : h.first ≤ length s
    front-inside = let v = there-values in let a = v.on in let b = v.room in let e : h.first ≡ (front_at s at).first = ap (λ (f : Front). f.first) eh in omega arith
