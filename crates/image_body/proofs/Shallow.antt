-- An expression that was read with depth d left is no deeper than d, so a walk over it may begin.
-- Assumes nothing.
use mathlib.Core.Path.{◌≡◌, subst}
use mathlib.Core.List.{List}
use Prim.Native.Nat.{ℕ, zero, suc, ◌≤◌}
use native.Mathlib.Omega.{arith}
use lib.ListN.{get_or}
use Rattle.image_fields.specs.Parsed.{Parsed, ok}
use Rattle.image_fields.specs.Table.{many_of}
use Rattle.image_fields.proofs.Inverse.{bound, ensure-ok, impossible}
use Rattle.image_body.specs.Expr.{Head, Expr, Exprs, Scope, node, none, more, last_width, named, exprs_by, end_at, rest_at, expr_at, exprs_at}
use Rattle.image_body.specs.Depth.{depth, depth_all, Walkable, WalkableAll}
use Rattle.image_body.proofs.Standing.{stands, stand-all}

module _ (f : ℕ → Parsed Expr) (d : ℕ) (each : (at : ℕ) (e : Expr) (next : ℕ) → f at ≡ ok e next → depth e ≤ d) where
  many-shallow : (n at : ℕ) (es : Exprs) (next : ℕ) → exprs_by f n at ≡ ok es next → depth_all es ≤ d
  unfolding many_of depth
  many-shallow zero at es next x = let z : none ≡ es = cc in subst (λ y. depth_all y ≤ d) z (omega arith)
  many-shallow (suc n) at es next x =
      bound x (λ e p e1 e2. bound e2 (λ ys q e3 e4.
      let a = each at e p e1 in
      let b = many-shallow n p ys q e3 in
      let z : more e ys ≡ es = cc in
      subst (λ y. depth_all y ≤ d) z (omega arith)))

  node-shallow : (h : Head) (ks xs : Exprs) → depth_all ks ≤ d → depth_all xs ≤ d → depth (node h ks xs) ≤ suc d
  unfolding depth
  node-shallow h ks xs a b = omega arith

  rest-shallow : (t : Scope) (s : List ℕ) (h : Head) (p : ℕ) (e : Expr) (next : ℕ) → rest_at f t s h p ≡ ok e next → depth e ≤ suc d
  unfolding rest_at end_at
  rest-shallow t s h p e next x =
      bound x (λ ks q e1 e2. bound e2 (λ n r e3 e4. bound e4 (λ xs u e5 e6. bound e6 (λ a v e7 e8.
      let e9 = (ensure-ok _ e8).1 in
      let z : node (named h (get_or last_width h.tag 0) a) ks xs ≡ e = cc in
      subst (λ y. depth y ≤ suc d) z (node-shallow (named h (get_or last_width h.tag 0) a) ks xs (many-shallow _ _ ks q e1) (many-shallow _ _ xs u e5))))))

pub shallow : (t : Scope) (s : List ℕ) (d at : ℕ) (e : Expr) (next : ℕ) → expr_at t s d at ≡ ok e next → depth e ≤ d
unfolding expr_at
shallow t s zero at e next x = impossible x
shallow t s (suc d) at e next x = bound x (λ h p e1 e2. rest-shallow (expr_at t s d) d (shallow t s d) t s h p e next e2)

pub walkable : (t : Scope) (s : List ℕ) (d at : ℕ) (e : Expr) (next : ℕ) → expr_at t s d at ≡ ok e next → Walkable s d at
walkable t s d at e next x = record { e = e; next = next; stands = stands t s d at e next x; shallow = shallow t s d at e next x }

pub walkable-all : (t : Scope) (s : List ℕ) (d n at : ℕ) (es : Exprs) (next : ℕ) → exprs_at t s d n at ≡ ok es next → WalkableAll s d n at
walkable-all t s d n at es next x =
    let g = stand-all t s d n at es next x in
    record { es = es; next = next; stand = g.0; many = g.1; shallow = many-shallow (expr_at t s d) d (shallow t s d) n at es next x }
