-- The bytes from which statements or a block were read are those that they are written in.
-- Assumes nothing.
use mathlib.Core.Path.{◌≡◌, refl, sym, ap, ◌∙◌, subst₂}
use mathlib.Core.List.{List, [], ◌∷◌, ◌++◌}
use mathlib.Core.Bool.{Bool, true, false, cond, ◌&&◌}
use mathlib.Core.Logic.{inl}
use Prim.Native.Nat.{ℕ, zero, suc, ◌+◌, ◌-◌, ◌≤◌, ◌<◌}
use native.Mathlib.Omega.{arith}
use borrow.Author.Tests.{leb-true, ltb-true}
use lib.ListN.{length, get_or}
use lib.Dec.{eqb}
use Rattle.image_fields.specs.Parsed.{Parsed, ok}
use Rattle.image_fields.specs.Number.{two, four}
use Rattle.image_fields.specs.Table.{many_of}
use Rattle.image_fields.specs.Bytes.{two_bytes, four_bytes, number_bytes, each_bytes, Bytes}
use Rattle.image_fields.proofs.Inverse.{bound, ensure-ok, impossible}
use Rattle.image_fields.proofs.Tests.{false-true}
use Rattle.image_body.specs.Expr.{Scope}
use Rattle.image_body.specs.Stmt.{Tree, Block, StmtHead, Stmt, done, head_bytes, value_flag, else_flag, stmt_head_at, stmt_at, before, stmts_by, stmts_at, block_at}
use Rattle.image_encoding.specs.Written.{Written}
use Rattle.image_encoding.specs.Body.{encode_code, encode_block, size}
use Rattle.image_encoding.proofs.Parts.{byte_at, then, nothing, upto, being, two_at, four-at, field-written}
use Rattle.image_encoding.proofs.Runs.{many-all}
use Rattle.image_encoding.proofs.ExprWritten.{exprs-written}
use Rattle.image_body.proofs.StmtRead.{stmt-read, flag_small}
use Rattle.image_encoding.proofs.StmtBytes.{head_part, stmt_bytes, Shape, value-flag, else-flag, type-width, head-width, encodes}

-- what a statement's reading tells
pub record StmtWritten (s : List ℕ) (x : Stmt) (p q : ℕ) : Type 0 where
  pub flag : ℕ
  pub shape : Shape x.front.head.tag x.front.values flag x.blocks x.others
  pub bytes : Written s p (stmt_bytes x.front.head.tag x.front.head x.front.values flag x.front.last x.blocks x.others) q

module _ (s : List ℕ) (small : Bytes s) where
  head_at : (b c : Bool) (p w : ℕ) → (b && c) ≡ false → w ≡ 1 + (cond b 0 4 + cond c 4 0) → w ≤ length s - p
      → Written s p (get_or s p 0 ∷ (cond b [] (four_bytes (cond b 0 (four s (p + 1)))) ++ cond c (two_bytes (cond c (two s (p + 5)) 0) ++ two_bytes (cond c (two s (p + 7)) 0)) [])) (p + w)
  head_at true true p w o e le = false-true (sym o)
  head_at true false p w o e le = upto (omega arith) (then (byte_at s p (omega arith)) nothing)
  head_at false false p w o e le =
      upto (omega arith) (then (byte_at s p (omega arith)) (then (four-at s small (p + 1) (omega arith)) nothing))
  head_at false true p w o e le =
      upto {q = p + 7 + 2} (omega arith) (then (byte_at s p (omega arith))
      (then (upto {r = p + 5} (omega arith) (four-at s small (p + 1) (omega arith)))
      (then (upto {r = p + 7} (omega arith) (two_at s small (p + 5) (omega arith))) (two_at s small (p + 7) (omega arith)))))

  stmt-head-written : (names types p : ℕ) (h : StmtHead) (q : ℕ) → stmt_head_at names types s p ≡ ok h q
      → Written s p (head_part h.tag h) q × (0 < h.tag) × (h.tag < 11)
  unfolding stmt_head_at head_part
  stmt-head-written names types p h q e =
      let e1 = ensure-ok _ e in
      let e2 = ensure-ok _ e1.1 in
      let e3 = ensure-ok _ e2.1 in
      let e4 = (ensure-ok _ e3.1).1 in
      let w = get_or head_bytes (get_or s p 0) 0 in
      let x : record {
        tag = get_or s p 0;
        span = cond (eqb (get_or s p 0) 1) 0 (four s (p + 1));
        name = cond (eqb w 9) (two s (p + 5)) 0;
        ty = cond (eqb w 9) (two s (p + 7)) 0;
      } ≡ h = cc in
      let y : p + w ≡ q = cc in
      let low : 0 < get_or s p 0 = ltb-true _ _ e1.0 in
      let high : get_or s p 0 < 11 = ltb-true _ _ e2.0 in
      let k = head-width (get_or s p 0) low high in
      subst₂ (λ g r. Written s p (head_part g.tag g) r × (0 < g.tag) × (g.tag < 11)) x y
      (head_at (eqb (get_or s p 0) 1) (eqb w 9) p w k.1 k.0 (leb-true _ _ e3.0), low, high)

  module _ (f : ℕ → Parsed Block) (each : (p : ℕ) (b : Block) (q : ℕ) → f p ≡ ok b q → Written s p (encode_block b) q) where
    blocks-written : (n p : ℕ) (bs : List Block) (q : ℕ) → many_of [] ◌∷◌ f n p ≡ ok bs q → Written s p (each_bytes encode_block bs) q × (length bs ≡ n)
    unfolding each_bytes
    blocks-written =
        many-all [] ◌∷◌ f (λ b p q. Written s p (encode_block b) q) (λ bs n p q. Written s p (each_bytes encode_block bs) q × (length bs ≡ n))
        (λ p. (nothing, refl)) (λ b bs n p q r x y. (then x y.0, ap suc y.1)) each

    pub stmt-written : (t : Scope) (p : ℕ) (x : Stmt) (q : ℕ) → stmt_at f t s p ≡ ok x q → StmtWritten s x p q
    unfolding stmt_bytes
    stmt-written t p x q e =
        let g = stmt-read f t s x p q e in
        let tag = x.front.head.tag in
        let wh = stmt-head-written t.names t.types p x.front.head g.p1 g.head in
        let we = exprs-written s small t t.expr_depth _ g.p2 x.front.values g.p3 g.values in
        let wb = blocks-written _ g.p4 x.blocks g.p5 g.blocks in
        let wc = blocks-written g.other g.p6 x.others q g.others in
        let high : tag < 11 = wh.2 in
        let vf = value-flag tag high in
        let ef = else-flag tag high in
        let lm : length x.others ≡ g.other = wc.1 in
        let fm : g.other < 1 + get_or else_flag tag 0 = flag_small _ s g.p5 g.other g.p6 ef g.followed in
        record {
          flag = g.flag;
          shape = record {
            low = wh.1;
            high = high;
            values = we.1;
            flag = flag_small _ s g.p1 g.flag g.p2 vf g.flagged;
            blocks = wb.1;
            others = omega arith;
          };
          bytes = then wh.0 (then (field-written s small _ _ {k = get_or value_flag tag 0} (inl (omega arith)) g.flagged) (then we.0
              (then (field-written s small _ _ (inl (type-width tag high)) g.last) (then wb.0
              (then (being (ap (number_bytes (get_or else_flag tag 0)) (sym lm)) (field-written s small _ _ {k = get_or else_flag tag 0} (inl (omega arith)) g.followed)) wc.0)))));
        }

    stmts-by-written : (t : Scope) (n p : ℕ) (c : Tree) (q : ℕ) → stmts_by f t s n p ≡ ok c q → Written s p (encode_code c) q × (size c ≡ n)
    unfolding encode_code size
    stmts-by-written t =
        many-all (done tt) before (stmt_at f t s) (StmtWritten s) (λ c n p q. Written s p (encode_code c) q × (size c ≡ n))
        (λ p. (nothing, refl)) more (stmt-written t)
      where
        more : (x : Stmt) (c : Tree) (n p q r : ℕ) → StmtWritten s x p q → Written s q (encode_code c) r × (size c ≡ n)
            → Written s p (encode_code (before x c)) r × (size (before x c) ≡ suc n)
        more x c n p q r w g =
            let k = encodes x.front.head.tag x.front.head x.front.values w.flag x.front.last x.blocks x.others c w.shape in
            (being (sym k.0) (then w.bytes g.0), k.1 ∙ ap suc g.1)

  pub block_written : (t : Scope) (d p : ℕ) (b : Block) (q : ℕ) → block_at t s d p ≡ ok b q → Written s p (encode_block b) q
  unfolding block_at encode_block
  block_written t zero p b q e = impossible e
  block_written t (suc d) p b q e =
      let e1 = ensure-ok _ e in
      let l : 6 ≤ length s - p = leb-true _ _ e1.0 in
      bound e1.1 (λ c r e2 e3.
      let x : record { span = four s p; code = c } ≡ b = cc in
      let y : r ≡ q = cc in
      let w = stmts-by-written (block_at t s d) (block_written t d) t _ (p + 6) c r e2 in
      subst₂ (λ v z. Written s p (encode_block v) z) x y
      (then (four-at s small p (omega arith))
      (then (upto {r = p + 6} (omega arith) (being (ap two_bytes (sym w.1)) (two_at s small (p + 4) (omega arith)))) w.0)))

  pub stmts-written : (t : Scope) (d n p : ℕ) (c : Tree) (q : ℕ) → stmts_at t s d n p ≡ ok c q → Written s p (encode_code c) q × (size c ≡ n)
  stmts-written t d = stmts-by-written (block_at t s d) (block_written t d) t
