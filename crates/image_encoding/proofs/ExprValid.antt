-- An expression that was read is valid.
-- Assumes nothing.
use mathlib.Core.Path.{◌≡◌, refl, sym, ap, subst}
use mathlib.Core.List.{List}
use mathlib.Core.Bool.{Bool, true, false, cond, not, ◌&&◌, ◌||◌}
use mathlib.Core.Logic.{◌⊎◌, ⊎_elim}
use Prim.Native.Nat.{ℕ, zero, suc, ◌+◌, ◌≤◌, ◌<◌}
use native.Mathlib.Omega.{arith}
use borrow.Author.Tests.{ltb-true, eqb-true, eq-eqb, not-true}
use lib.ListN.{get_or}
use lib.Dec.{ltb, eqb}
use Rattle.image_fields.specs.Parsed.{Parsed, ok}
use Rattle.image_fields.specs.Number.{two, four}
use Rattle.image_fields.specs.Bytes.{Bytes}
use Rattle.image_fields.proofs.Inverse.{bound, ensure-ok, impossible}
use Rattle.image_fields.proofs.Numbers.{field-ok}
use Rattle.image_fields.proofs.Tests.{and-true}
use Rattle.image_body.specs.Expr.{Head, Expr, Exprs, node, none, more, arg_width, count_width, last_width, Scope, arg_limit, named, head_at, end_at, rest_at, expr_at, exprs_by, exprs_at}
use Rattle.image_body.specs.Stands.{count}
use Rattle.image_encoding.specs.Valid.{arg_below, ValidNode, EachExpr, ValidExpr}
use Rattle.image_encoding.proofs.Parts.{two-small}
use Rattle.image_encoding.proofs.Runs.{many-all}
use Rattle.image_body.proofs.Standing.{one-arg}
use Rattle.image_encoding.proofs.ExprWritten.{arg-width, last-width}
use Rattle.image_encoding.proofs.TablesValid.{field-none}

pub four-small : (s : List ℕ) → Bytes s → (p : ℕ) → four s p < 4294967296
four-small s small p = let a = two-small s small p in let b = two-small s small (p + 2) in omega arith

-- the argument, read before the children or after them
arg-valid : (names b k x y : ℕ) → b ≤ 2 → k ≤ 2 → (k ≡ 0) ⊎ (b ≡ 0) → x < arg_limit names b → y < names → (b ≡ 0 → x ≡ 0)
    → cond (eqb k 0) x y < arg_below names b k
arg-valid names zero zero x y lb lk w lx ly z = let e = z refl in omega arith
arg-valid names zero (suc zero) x y lb lk w lx ly z = ly
arg-valid names zero (suc (suc zero)) x y lb lk w lx ly z = ly
arg-valid names zero (suc (suc (suc k))) x y lb lk w lx ly z = absurd (omega arith)
arg-valid names (suc zero) zero x y lb lk w lx ly z = lx
arg-valid names (suc zero) (suc k) x y lb lk w lx ly z = absurd (⊎_elim (λ e. omega arith) (λ e. omega arith) w)
arg-valid names (suc (suc zero)) zero x y lb lk w lx ly z = lx
arg-valid names (suc (suc zero)) (suc k) x y lb lk w lx ly z = absurd (⊎_elim (λ e. omega arith) (λ e. omega arith) w)
arg-valid names (suc (suc (suc b))) k x y lb lk w lx ly z = absurd (omega arith)

-- a number below a limit, 0 where it has no bytes
pub below-valid : (k n limit : ℕ) → n < limit → (k ≡ 0 → n ≡ 0) → n < cond (eqb k 0) 1 limit
below-valid k n limit lt z = below (eqb k 0) (λ e. z (eqb-true k 0 e))
  where
    below : (b : Bool) → (b ≡ true → n ≡ 0) → n < cond b 1 limit
    below true f = let e = f refl in omega arith
    below false f = lt

delete-valid : (tag ty : ℕ) → (not (eqb tag 10) || eqb ty 0) ≡ true → tag ≡ 10 → ty ≡ 0
delete-valid tag ty e z = eqb-true ty 0 (subst (λ b. (not b || eqb ty 0) ≡ true) (eq-eqb tag 10 z) e)

receiver-valid : (tag : ℕ) (b : Bool) → not (eqb tag 6 && b) ≡ true → tag ≡ 6 → b ≡ false
receiver-valid tag b e z = not-true b (subst (λ c. not (c && b) ≡ true) (eq-eqb tag 6 z) e)

-- a head as it was read before the children
record HeadValid (t : Scope) (h : Head) : Type 0 where
  low : 0 < h.tag
  high : h.tag < 16
  span : h.span < 4294967296
  ty : h.ty < t.types
  delete : h.tag ≡ 10 → h.ty ≡ 0
  arg : h.arg < arg_limit t.names (get_or arg_width h.tag 0)
  without : get_or arg_width h.tag 0 ≡ 0 → h.arg ≡ 0

module _ (s : List ℕ) (small : Bytes s) (t : Scope) where
  head-valid : (p : ℕ) (h : Head) (q : ℕ) → head_at t.names t.types s p ≡ ok h q → HeadValid t h
  unfolding head_at
  head-valid p h q e =
      let e1 = ensure-ok _ e in
      let e2 = ensure-ok _ e1.1 in
      let e3 = ensure-ok _ e2.1 in
      let e4 = ensure-ok _ e3.1 in
      let v = and-true (ltb (two s (p + 5)) t.types) _ e4.0 in
      bound e4.1 (λ a r e5 e6.
      let x : record { tag = get_or s p 0; span = four s (p + 1); ty = two s (p + 5); arg = a } ≡ h = cc in
      subst (HeadValid t) x record {
        low = ltb-true _ _ e2.0;
        high = ltb-true _ _ e3.0;
        span = four-small s small (p + 1);
        ty = ltb-true _ _ v.0;
        delete = delete-valid (get_or s p 0) (two s (p + 5)) v.1;
        arg = (field-ok e5).small;
        without = field-none _ _ _ s (p + 7) a r e5;
      })

  module _ (f : ℕ → Parsed Expr) (Good : Expr → Type 0) (each : (p : ℕ) (e : Expr) (q : ℕ) → f p ≡ ok e q → Good e) where
    exprs-by-valid : (n p : ℕ) (es : Exprs) (q : ℕ) → exprs_by f n p ≡ ok es q → EachExpr Good es × (count es ≡ n)
    unfolding EachExpr
    exprs-by-valid =
        many-all none more f (λ e p q. Good e) (λ es n p q. EachExpr Good es × (count es ≡ n)) (λ p. (tt, refl))
        (λ e es n p q r a b. ((a, b.0), ap suc b.1)) each

    rest-valid : (h : Head) (p : ℕ) (e : Expr) (q : ℕ) → HeadValid t h → rest_at f t s h p ≡ ok e q
        → (g : Head) × (ks : Exprs) × (xs : Exprs) × (node g ks xs ≡ e) × ValidNode t g ks xs × EachExpr Good ks × EachExpr Good xs
    unfolding rest_at end_at
    rest-valid h p e q v er =
        bound er (λ ks p2 e1 e2. bound e2 (λ n p3 e3 e4. bound e4 (λ xs p4 e5 e6. bound e6 (λ a p5 e7 e8.
        let e9 = ensure-ok _ e8 in
        let en : node (named h (get_or last_width h.tag 0) a) ks xs ≡ e = cc in
        let vk = exprs-by-valid _ p ks p2 e1 in
        let vx = exprs-by-valid n p3 xs p4 e5 in (
          named h (get_or last_width h.tag 0) a,
          ks,
          xs,
          en,
          record {
            low = v.low;
            high = v.high;
            span = v.span;
            ty = v.ty;
            delete = v.delete;
            arg = arg-valid t.names (get_or arg_width h.tag 0) (get_or last_width h.tag 0) h.arg a (arg-width h.tag v.high)
                (last-width h.tag v.high) (one-arg h.tag v.high) v.arg (field-ok e7).small v.without;
            fixed = vk.1;
            items = subst (λ m. m < cond (eqb (get_or count_width h.tag 0) 0) 1 65536) (sym vx.1)
                (below-valid (get_or count_width h.tag 0) n 65536 (field-ok e3).small (field-none _ _ _ s p2 n p3 e3));
            receiver = receiver-valid h.tag _ e9.0;
          },
          vk.0,
          vx.0,
        )))))

  pub expr-valid : (d p : ℕ) (e : Expr) (q : ℕ) → expr_at t s d p ≡ ok e q → ValidExpr t d e
  unfolding expr_at ValidExpr
  expr-valid zero p e q x = impossible x
  expr-valid (suc d) p e q x =
      bound x (λ h r e1 e2.
      let g = rest-valid (expr_at t s d) (ValidExpr t d) (expr-valid d) h r e q (head-valid p h r e1) e2 in
      subst (ValidExpr t (suc d)) g.3 (g.4, g.5, g.6))

  pub exprs-valid : (d n p : ℕ) (es : Exprs) (q : ℕ) → exprs_at t s d n p ≡ ok es q → EachExpr (ValidExpr t d) es × (count es ≡ n)
  exprs-valid d = exprs-by-valid (expr_at t s d) (ValidExpr t d) (expr-valid d)
