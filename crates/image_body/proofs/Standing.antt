-- An expression that was read stands in the bytes.
-- Assumes nothing.
use mathlib.Core.Path.{◌≡◌, refl, ap, ◌∙◌, subst, subst₂}
use mathlib.Core.List.{List}
use mathlib.Core.Bool.{Bool, true, false, ◌||◌}
use mathlib.Core.Logic.{◌⊎◌, inl, inr, ⊎_elim}
use Prim.Native.Nat.{ℕ, zero, suc, ◌+◌, ◌-◌, ◌≤◌, ◌<◌}
use native.Mathlib.Omega.{arith}
use borrow.Author.Tests.{leb-true, ltb-true}
use lib.ListN.{length, get_or}
use lib.Dec.{T, eqb, eqb→eq, eqb-suc-zero}
use Rattle.image_fields.specs.Parsed.{Parsed, ok}
use Rattle.image_fields.specs.Number.{two, four, number_in, field_at}
use Rattle.image_fields.specs.Table.{many_of}
use Rattle.image_fields.proofs.Inverse.{bind_ok, bound, ensure-ok, impossible}
use Rattle.image_fields.proofs.Numbers.{field-ok, field_end}
use Rattle.image_fields.proofs.Rules.{at}
use Rattle.image_body.specs.Expr.{Head, Expr, Exprs, Scope, node, none, more, arg_width, fixed_count, count_width, last_width, exprs_by, named, head_at, end_at, rest_at, expr_at, exprs_at}
use Rattle.image_body.specs.Stands.{Stands, StandAll, count}

module _ (f : ℕ → Parsed Expr) (s : List ℕ) (each : (at : ℕ) (e : Expr) (next : ℕ) → f at ≡ ok e next → Stands e s at next) where
  pub many-stands : (n at : ℕ) (es : Exprs) (next : ℕ) → exprs_by f n at ≡ ok es next → StandAll es s at next × (count es ≡ n)
  unfolding many_of StandAll
  many-stands zero at none next e = (cc, refl)
  many-stands zero at (more x xs) next e = let z : ◌≡◌ {A = ℕ} 0 1 = cc in absurd (omega arith)
  many-stands (suc n) at none next e =
      let (x, p, e1, e2) = bind_ok e in
      let (xs, q, e3, e4) = bind_ok e2 in
      let z : ◌≡◌ {A = ℕ} 0 1 = cc in absurd (omega arith)
  many-stands (suc n) at (more y ys) next e =
      let (x, p, e1, e2) = bind_ok e in
      let (xs, q, e3, e4) = bind_ok e2 in
      let rest = many-stands n p ys next (e3 ∙ cc) in
      ((p, each at y p (e1 ∙ cc), rest.0), ap suc rest.1)

-- an expression that stands ends within the bytes
pub ends : (e : Expr) (s : List ℕ) (at next : ℕ) → Stands e s at next → next ≤ length s
unfolding Stands
ends (node h ks xs) s at next g = g.8

pub end-all : (es : Exprs) (s : List ℕ) (at next : ℕ) → at ≤ length s → StandAll es s at next → next ≤ length s
unfolding StandAll
end-all none s at next le g = omega arith
end-all (more e es) s at next le g = end-all es s g.0 next (ends e s at g.0 g.1) g.2

-- and not before it begins
mutual
  unfolding Stands

  pub order : (e : Expr) (s : List ℕ) (p q : ℕ) → Stands e s p q → p + 7 ≤ q
  order (node h ks xs) s p q g =
      let a = order-all ks s (p + 7 + get_or arg_width h.tag 0) g.0 g.4 in
      let b = order-all xs s (g.0 + get_or count_width h.tag 0) g.1 g.6 in
      let c = g.7 in
      omega arith

  pub order-all : (es : Exprs) (s : List ℕ) (p q : ℕ) → StandAll es s p q → p ≤ q
  order-all none s p q g = omega arith
  order-all (more e es) s p q g =
      let a = order e s p g.0 g.1 in
      let b = order-all es s g.0 q g.2 in
      omega arith

-- the head, with the argument that stands before the children
pub head-stands : (names types : ℕ) (s : List ℕ) (at : ℕ) (h : Head) (p : ℕ) → head_at names types s at ≡ ok h p
    → (get_or s at 0 ≡ h.tag) × (four s (at + 1) ≡ h.span) × (two s (at + 5) ≡ h.ty)
    × (number_in s (get_or arg_width h.tag 0) (at + 7) ≡ h.arg) × (0 < h.tag) × (h.tag < 16)
    × (p ≡ at + 7 + get_or arg_width h.tag 0) × (p ≤ length s)
unfolding head_at
head-stands names types s at h p e =
    let (t1, e1) = ensure-ok _ e in
    let (t2, e2) = ensure-ok _ e1 in
    let (t3, e3) = ensure-ok _ e2 in
    let (t4, e4) = ensure-ok _ e3 in
    let (a, q, e5, e6) = bind_ok e4 in
    let w = field-ok e5 in
    let l = w.fits in
    let ea = w.is in
    let eq = w.end in
    let g : get_or s at 0 ≡ h.tag = cc in
    let l7 : 7 ≤ length s - at = leb-true _ _ t1 in
    let low : 0 < get_or s at 0 = ltb-true _ _ t2 in
    let high : get_or s at 0 < 16 = ltb-true _ _ t3 in
    let b : get_or arg_width (get_or s at 0) 0 ≡ get_or arg_width h.tag 0 = cc in
    let pq : p ≡ q = cc in
    (g, cc, cc, rw (← g) cc, omega arith, omega arith, omega arith, omega arith)

-- a tag has no name after the children, or no argument before them
one_arg : ℕ → ℕ → Bool
one_arg k x = eqb x 0 || eqb (get_or arg_width k 0) 0

or_cases : (a b : Bool) → T (a || b) → T a ⊎ T b
or_cases true b x = inl tt
or_cases false b x = inr x

pub one-arg : (k : ℕ) → k < 16 → (get_or last_width k 0 ≡ 0) ⊎ (get_or arg_width k 0 ≡ 0)
unfolding one_arg arg_width last_width
one-arg k lt = ⊎_elim (λ x. inl (eqb→eq _ _ x)) (λ x. inr (eqb→eq _ _ x)) (or_cases (eqb (get_or last_width k 0) 0) (eqb (get_or arg_width k 0) 0) (at one_arg last_width tt k lt))

-- a count takes no bytes or two
none_or_two : ℕ → ℕ → Bool
none_or_two k x = eqb x 0 || eqb x 2

pub none-or-two : (k : ℕ) → k < 16 → (get_or count_width k 0 ≡ 0) ⊎ (get_or count_width k 0 ≡ 2)
unfolding none_or_two count_width
none-or-two k lt = ⊎_elim (λ x. inl (eqb→eq _ _ x)) (λ x. inr (eqb→eq _ _ x)) (or_cases (eqb (get_or count_width k 0) 0) (eqb (get_or count_width k 0) 2) (at none_or_two count_width tt k lt))

named-arg : (s : List ℕ) (h : Head) (k b p u a : ℕ) → (k ≡ 0) ⊎ (b ≡ 0) → number_in s b p ≡ h.arg → a ≡ number_in s k u
    → number_in s b p + number_in s k u ≡ (named h k a).arg
named-arg s h zero b p u a c e1 e2 = omega arith
named-arg s h (suc k) b p u a c e1 e2 =
    let z : number_in s b p ≡ 0 = ⊎_elim (λ z. absurd (omega arith)) (λ z. rw z refl) c in
    rw eqb-suc-zero (omega arith)

module _ (f : ℕ → Parsed Expr) (t : Scope) (s : List ℕ) (each : (at : ℕ) (e : Expr) (next : ℕ) → f at ≡ ok e next → Stands e s at next) where
  node-stands : (at : ℕ) (h : Head) (p : ℕ) (ks : Exprs) (q n r : ℕ) (xs : Exprs) (u a v : ℕ)
      → head_at t.names t.types s at ≡ ok h p → exprs_by f (get_or fixed_count h.tag 0) p ≡ ok ks q
      → field_at 8 65536 (get_or count_width h.tag 0) s q ≡ ok n r → exprs_by f n r ≡ ok xs u
      → field_at 8 t.names (get_or last_width h.tag 0) s u ≡ ok a v
      → Stands (node (named h (get_or last_width h.tag 0) a) ks xs) s at v
  unfolding Stands
  node-stands at h p ks q n r xs u a v eh e1 e3 e5 e7 =
      let g = head-stands _ _ _ _ _ _ eh in
      let sk = many-stands f s each _ _ _ _ e1 in
      let sc = field-ok e3 in
      let sx = many-stands f s each _ _ _ _ e5 in
      let w = field-ok e7 in
      let lq = end-all ks s p q g.7 sk.0 in
      let lu = end-all xs s r u (field_end lq sc) sx.0 in
      let room : at + 7 + get_or arg_width h.tag 0 ≤ length s = subst (λ x. x ≤ length s) g.6 g.7 in (
        q,
        u,
        record { tag = g.0; span = g.1; ty = g.2; arg = named-arg s h _ _ _ u a (one-arg h.tag g.5) g.3 w.is; low = g.4; high = g.5; room = room },
        sk.1,
        rw (← g.6) sk.0,
        sx.1 ∙ sc.is,
        rw (← sc.end) sx.0,
        w.end,
        field_end lu w,
      )

  rest-stands : (at : ℕ) (h : Head) (p : ℕ) (e : Expr) (next : ℕ) → head_at t.names t.types s at ≡ ok h p → rest_at f t s h p ≡ ok e next
      → Stands e s at next
  unfolding rest_at end_at
  rest-stands at h p e next eh er =
      bound er (λ ks q e1 e2. bound e2 (λ n r e3 e4. bound e4 (λ xs u e5 e6. bound e6 (λ a v e7 e8.
      let e9 = (ensure-ok _ e8).1 in
      let g = node-stands at h p ks q n r xs u a v eh e1 e3 e5 e7 in
      let en : node (named h (get_or last_width h.tag 0) a) ks xs ≡ e = cc in
      let ev : v ≡ next = cc in
      subst₂ (λ x y. Stands x s at y) en ev g))))

-- an expression that was read stands in the bytes
pub stands : (t : Scope) (s : List ℕ) (d at : ℕ) (e : Expr) (next : ℕ) → expr_at t s d at ≡ ok e next → Stands e s at next
unfolding expr_at
stands t s zero at e next x = impossible x
stands t s (suc d) at e next x = bound x (λ h p e1 e2. rest-stands (expr_at t s d) t s (stands t s d) at h p e next e1 e2)

pub stand-all : (t : Scope) (s : List ℕ) (d n at : ℕ) (es : Exprs) (next : ℕ) → exprs_at t s d n at ≡ ok es next → StandAll es s at next × (count es ≡ n)
stand-all t s d = many-stands (expr_at t s d) s (stands t s d)
