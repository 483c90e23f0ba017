-- The bytes from which an expression was read are those that it is written in.
-- Assumes nothing.
use mathlib.Core.Path.{◌≡◌, refl, sym, ap, subst₂}
use mathlib.Core.List.{List, [], ◌∷◌}
use mathlib.Core.Bool.{cond}
use mathlib.Core.Logic.{◌⊎◌, inl, ⊎_elim}
use Prim.Native.Nat.{ℕ, zero, suc, ◌+◌, ◌-◌, ◌≤◌, ◌<◌}
use native.Mathlib.Omega.{arith}
use borrow.Author.Tests.{leb-true, ltb-true}
use lib.ListN.{length, get_or}
use lib.Dec.{eqb, eqb-suc-zero}
use Rattle.image_fields.specs.Parsed.{Parsed, ok}
use Rattle.image_fields.specs.Number.{two, four}
use Rattle.image_fields.specs.Bytes.{two_bytes, four_bytes, number_bytes, Bytes}
use Rattle.image_fields.proofs.Inverse.{bound, ensure-ok, impossible}
use Rattle.image_body.specs.Expr.{Head, Expr, Exprs, node, none, more, arg_width, count_width, last_width, Scope, named, head_at, end_at, rest_at, expr_at, exprs_by, exprs_at}
use Rattle.image_body.specs.Stands.{count}
use Rattle.image_body.proofs.Standing.{one-arg}
use Rattle.image_encoding.specs.Written.{Written}
use Rattle.image_encoding.specs.Body.{encode_expr, encode_exprs}
use Rattle.image_encoding.proofs.Parts.{at_most, byte_at, then, nothing, upto, being, two_at, four-at, field-written}
use Rattle.image_encoding.proofs.Runs.{many-all}

-- the table of layouts: no argument or count takes more than two bytes
pub arg-width : (k : ℕ) → k < 16 → get_or arg_width k 0 ≤ 2
unfolding arg_width
arg-width k lt = at_most 2 arg_width tt k lt

pub count-width : (k : ℕ) → k < 16 → get_or count_width k 0 ≤ 2
unfolding count_width
count-width k lt = at_most 2 count_width tt k lt

pub last-width : (k : ℕ) → k < 16 → get_or last_width k 0 ≤ 2
unfolding last_width
last-width k lt = at_most 2 last_width tt k lt

-- the argument stands before the children, or after them
before-kept : (k b x a : ℕ) → (k ≡ 0) ⊎ (b ≡ 0) → number_bytes b x ≡ number_bytes b (cond (eqb k 0) x a)
unfolding number_bytes
before-kept k b x a w = ⊎_elim (λ z. rw z) (λ z. rw z) w

after_kept : (k x a : ℕ) → number_bytes k a ≡ number_bytes k (cond (eqb k 0) x a)
unfolding number_bytes
after_kept zero x a = refl
after_kept (suc k) x a = rw eqb-suc-zero

pub record HeadWritten (s : List ℕ) (p : ℕ) (h : Head) (q : ℕ) : Type 0 where
  pub high : h.tag < 16
  pub tag : Written s p (h.tag ∷ []) (p + 1)
  pub span : Written s (p + 1) (four_bytes h.span) (p + 5)
  pub ty : Written s (p + 5) (two_bytes h.ty) (p + 7)
  pub arg : Written s (p + 7) (number_bytes (get_or arg_width h.tag 0) h.arg) q

module _ (s : List ℕ) (small : Bytes s) where
  head-written : (names types p : ℕ) (h : Head) (q : ℕ) → head_at names types s p ≡ ok h q → HeadWritten s p h q
  unfolding head_at
  head-written names types p h q e =
      let e1 = ensure-ok _ e in
      let e2 = ensure-ok _ e1.1 in
      let e3 = ensure-ok _ e2.1 in
      let e4 = ensure-ok _ e3.1 in
      let l : 7 ≤ length s - p = leb-true _ _ e1.0 in
      let high : get_or s p 0 < 16 = ltb-true _ _ e3.0 in
      bound e4.1 (λ a r e5 e6.
      let x : record { tag = get_or s p 0; span = four s (p + 1); ty = two s (p + 5); arg = a } ≡ h = cc in
      let y : r ≡ q = cc in
      subst₂ (HeadWritten s p) x y record {
        high = high;
        tag = byte_at s p (omega arith);
        span = upto (omega arith) (four-at s small (p + 1) (omega arith));
        ty = upto (omega arith) (two_at s small (p + 5) (omega arith));
        arg = field-written s small _ _ (inl (arg-width (get_or s p 0) high)) e5;
      })

  -- a node whose children are written
  node-written : (h : Head) (ks xs : Exprs) (p p1 p2 p3 p4 a q : ℕ) → HeadWritten s p h p1 → Written s p1 (encode_exprs ks) p2
      → Written s p2 (number_bytes (get_or count_width h.tag 0) (count xs)) p3 → Written s p3 (encode_exprs xs) p4
      → Written s p4 (number_bytes (get_or last_width h.tag 0) a) q
      → Written s p (encode_expr (node (named h (get_or last_width h.tag 0) a) ks xs)) q
  unfolding encode_expr
  node-written h ks xs p p1 p2 p3 p4 a q hd wk wc wx wl =
      then hd.tag (then hd.span (then hd.ty
      (then (being (before-kept _ _ h.arg a (one-arg h.tag hd.high)) hd.arg)
      (then wk (then wc (then wx (being (after_kept _ h.arg a) wl)))))))

  module _ (f : ℕ → Parsed Expr) (each : (p : ℕ) (e : Expr) (q : ℕ) → f p ≡ ok e q → Written s p (encode_expr e) q) where
    exprs-by-written : (n p : ℕ) (es : Exprs) (q : ℕ) → exprs_by f n p ≡ ok es q → Written s p (encode_exprs es) q × (count es ≡ n)
    unfolding encode_exprs
    exprs-by-written =
        many-all none more f (λ e p q. Written s p (encode_expr e) q) (λ es n p q. Written s p (encode_exprs es) q × (count es ≡ n))
        (λ p. (nothing, refl)) (λ e es n p q r a b. (then a b.0, ap suc b.1)) each

    rest-written : (t : Scope) (h : Head) (p p1 : ℕ) (e : Expr) (q : ℕ) → HeadWritten s p h p1 → rest_at f t s h p1 ≡ ok e q → Written s p (encode_expr e) q
    unfolding rest_at end_at
    rest-written t h p p1 e q hd er =
        bound er (λ ks p2 e1 e2. bound e2 (λ n p3 e3 e4. bound e4 (λ xs p4 e5 e6. bound e6 (λ a v e7 e8.
        let e9 = (ensure-ok _ e8).1 in
        let en : node (named h (get_or last_width h.tag 0) a) ks xs ≡ e = cc in
        let ev : v ≡ q = cc in
        let wx = exprs-by-written n p3 xs p4 e5 in
        subst₂ (λ x y. Written s p (encode_expr x) y) en ev
        (node-written h ks xs p p1 p2 p3 p4 a v hd (exprs-by-written _ p1 ks p2 e1).0
        (being (ap (number_bytes (get_or count_width h.tag 0)) (sym wx.1)) (field-written s small _ _ (inl (count-width h.tag hd.high)) e3))
        wx.0 (field-written s small _ _ (inl (last-width h.tag hd.high)) e7))))))

  pub expr-written : (t : Scope) (d p : ℕ) (e : Expr) (q : ℕ) → expr_at t s d p ≡ ok e q → Written s p (encode_expr e) q
  unfolding expr_at
  expr-written t zero p e q x = impossible x
  expr-written t (suc d) p e q x =
      bound x (λ h r e1 e2. rest-written (expr_at t s d) (expr-written t d) t h p r e q (head-written t.names t.types p h r e1) e2)

  pub exprs-written : (t : Scope) (d n p : ℕ) (es : Exprs) (q : ℕ) → exprs_at t s d n p ≡ ok es q → Written s p (encode_exprs es) q × (count es ≡ n)
  exprs-written t d = exprs-by-written (expr_at t s d) (expr-written t d)
