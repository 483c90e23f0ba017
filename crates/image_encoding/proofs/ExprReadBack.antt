-- A valid expression is read back from the bytes that it is written in.
-- Assumes nothing.
use mathlib.Core.Path.{◌≡◌, refl, sym, ap, ◌∙◌, subst, subst₂}
use mathlib.Core.List.{List, [], ◌∷◌, ◌++◌}
use mathlib.Core.Bool.{Bool, true, false, cond, not, ◌&&◌, ◌||◌}
use mathlib.Core.Logic.{◌⊎◌, inl, ⊎_elim}
use Prim.Native.Nat.{ℕ, zero, suc, ◌+◌, ◌-◌, ◌≤◌, ◌<◌}
use native.Mathlib.Omega.{arith}
use borrow.Author.Tests.{le-leb, lt-ltb, eq-eqb, eqb-true}
use lib.ListN.{length, get_or}
use lib.Dec.{eqb}
use Rattle.image_fields.specs.Parsed.{Parsed, ok, bind}
use Rattle.image_fields.specs.Number.{two, four, field_at}
use Rattle.image_fields.specs.Bytes.{two_bytes, four_bytes, number_bytes}
use Rattle.image_body.specs.Expr.{Head, Expr, Exprs, node, none, more, arg_width, fixed_count, count_width, last_width, Scope, arg_limit, type_ok, named, generic_callee, head_at, end_at, rest_at, expr_at, exprs_by, exprs_at}
use Rattle.image_body.specs.Stands.{count}
use Rattle.image_encoding.specs.Written.{Written}
use Rattle.image_encoding.specs.Body.{encode_expr, encode_exprs}
use Rattle.image_encoding.specs.Valid.{ValidScope, arg_below, ValidNode, EachExpr, ValidExpr}
use Rattle.image_encoding.proofs.Parts.{split, here, two_here, four-here, field-read-back, goes, passes}
use Rattle.image_encoding.proofs.Runs.{many-none, many_more}
use Rattle.image_body.proofs.Standing.{one-arg}
use Rattle.image_encoding.proofs.ExprWritten.{arg-width, count-width, last-width}

-- the argument as it is read before the children and after them: 0 where it has no bytes
record Args (names b k x : ℕ) : Type 0 where
  before : ℕ
  after : ℕ
  same-before : number_bytes b x ≡ number_bytes b before
  same_after : number_bytes k x ≡ number_bytes k after
  none_before : b ≡ 0 → before ≡ 0
  none_after : k ≡ 0 → after ≡ 0
  low-before : before < arg_limit names b
  low-after : after < names
  is : cond (eqb k 0) before after ≡ x

args : (names b k x : ℕ) → 0 < names → b ≤ 2 → k ≤ 2 → (k ≡ 0) ⊎ (b ≡ 0) → x < arg_below names b k → Args names b k x
unfolding number_bytes
args names zero zero x some lb lk w lt = record {
  before = 0;
  after = 0;
  same-before = refl;
  same_after = refl;
  none_before = λ z. refl;
  none_after = λ z. refl;
  low-before = some;
  low-after = some;
  is = omega arith;
}
args names (suc zero) zero x some lb lk w lt = record {
  before = x;
  after = 0;
  same-before = refl;
  same_after = refl;
  none_before = λ z. absurd (omega arith);
  none_after = λ z. refl;
  low-before = lt;
  low-after = some;
  is = refl;
}
args names (suc (suc zero)) zero x some lb lk w lt = record {
  before = x;
  after = 0;
  same-before = refl;
  same_after = refl;
  none_before = λ z. absurd (omega arith);
  none_after = λ z. refl;
  low-before = lt;
  low-after = some;
  is = refl;
}
args names zero (suc zero) x some lb lk w lt = record {
  before = 0;
  after = x;
  same-before = refl;
  same_after = refl;
  none_before = λ z. refl;
  none_after = λ z. absurd (omega arith);
  low-before = some;
  low-after = lt;
  is = refl;
}
args names zero (suc (suc zero)) x some lb lk w lt = record {
  before = 0;
  after = x;
  same-before = refl;
  same_after = refl;
  none_before = λ z. refl;
  none_after = λ z. absurd (omega arith);
  low-before = some;
  low-after = lt;
  is = refl;
}
args names (suc (suc (suc b))) k x some lb lk w lt = absurd (omega arith)
args names zero (suc (suc (suc k))) x some lb lk w lt = absurd (omega arith)
args names (suc zero) (suc k) x some lb lk w lt = absurd (⊎_elim (λ z. omega arith) (λ z. omega arith) w)
args names (suc (suc zero)) (suc k) x some lb lk w lt = absurd (⊎_elim (λ z. omega arith) (λ z. omega arith) w)

-- a number below a limit that is 1 where it has no bytes
pub below-limit : (k n limit : ℕ) → 0 < limit → n < cond (eqb k 0) 1 limit → (k ≡ 0 → n ≡ 0) × (n < limit)
below-limit k n limit some lt = (λ z. let g : n < 1 = rw z at lt in omega arith, below (eqb k 0) lt)
  where
    below : (b : Bool) → n < cond b 1 limit → n < limit
    below true l = omega arith
    below false l = l

type-ok : (types tag ty : ℕ) → ty < types → (tag ≡ 10 → ty ≡ 0) → type_ok types tag ty ≡ true
type-ok types tag ty lt f = rw (lt-ltb ty types lt) (plain (eqb tag 10) (λ e. eq-eqb ty 0 (f (eqb-true tag 10 e))))
  where
    plain : (b : Bool) {c : Bool} → (b ≡ true → c ≡ true) → (not b || c) ≡ true
    plain true g = g refl
    plain false g = refl

receiver-ok : (tag : ℕ) (b : Bool) → (tag ≡ 6 → b ≡ false) → not (eqb tag 6 && b) ≡ true
receiver-ok tag b f = plain (eqb tag 6) (λ e. f (eqb-true tag 6 e))
  where
    plain : (c : Bool) → (c ≡ true → b ≡ false) → not (c && b) ≡ true
    plain true g = rw (g refl)
    plain false g = refl

head-back : (names types : ℕ) (s : List ℕ) (p tag span ty a r : ℕ) → get_or s p 0 ≡ tag → four s (p + 1) ≡ span → two s (p + 5) ≡ ty → p + 7 ≤ length s
    → 0 < tag → tag < 16 → ty < types → (tag ≡ 10 → ty ≡ 0) → field_at 8 (arg_limit names (get_or arg_width tag 0)) (get_or arg_width tag 0) s (p + 7) ≡ ok a r
    → head_at names types s p ≡ ok (record { tag = tag; span = span; ty = ty; arg = a }) r
unfolding head_at
head-back names types s p tag span ty a r et es ey fits low high lt del e =
    rw (et, es, ey)
    (passes _ (le-leb 7 (length s - p) (omega arith))
    (passes _ (lt-ltb _ _ low)
    (passes _ (lt-ltb _ _ high)
    (passes _ (type-ok types tag ty lt del)
    (goes _ e refl)))))

module _ (t : Scope) (scope : ValidScope t) (s : List ℕ) where
  module _ (f : ℕ → Parsed Expr) (Good : Expr → Type 0) (each : (p : ℕ) (e : Expr) (q : ℕ) → Good e → Written s p (encode_expr e) q → f p ≡ ok e q) where
    exprs-by-back : (es : Exprs) (p q : ℕ) → EachExpr Good es → Written s p (encode_exprs es) q → exprs_by f (count es) p ≡ ok es q
    unfolding encode_exprs EachExpr
    exprs-by-back none p q v g = let e = g.end in many-none none more f p ∙ ap (ok none) (omega arith)
    exprs-by-back (more e es) p q v g =
        split (encode_expr e) (encode_exprs es) g (λ r a b. many_more none more f (count es) (each p e r v.0 a) (exprs-by-back es r q v.1 b))

    -- what follows the head, once its children are read
    rest_back : (h : Head) (ks xs : Exprs) (p1 p2 p3 p4 a q : ℕ) → exprs_by f (get_or fixed_count h.tag 0) p1 ≡ ok ks p2
        → field_at 8 65536 (get_or count_width h.tag 0) s p2 ≡ ok (count xs) p3 → exprs_by f (count xs) p3 ≡ ok xs p4
        → field_at 8 t.names (get_or last_width h.tag 0) s p4 ≡ ok a q → (h.tag ≡ 6 → generic_callee t.generic ks ≡ false)
        → rest_at f t s h p1 ≡ ok (node (named h (get_or last_width h.tag 0) a) ks xs) q
    unfolding rest_at end_at
    rest_back h ks xs p1 p2 p3 p4 a q e1 e2 e3 e4 c = goes _ e1 (goes _ e2 (goes _ e3 (goes _ e4 (passes _ (receiver-ok h.tag _ c) refl))))

    node-back : (h : Head) (ks xs : Exprs) (p q : ℕ) → ValidNode t h ks xs → EachExpr Good ks → EachExpr Good xs → Written s p (encode_expr (node h ks xs)) q
        → bind (head_at t.names t.types s p) (λ k r. rest_at f t s k r) ≡ ok (node h ks xs) q
    unfolding encode_expr
    node-back h ks xs p q v vk vx g =
        let b = get_or arg_width h.tag 0 in
        let n = get_or count_width h.tag 0 in
        let k = get_or last_width h.tag 0 in
        let end = encode_exprs xs ++ number_bytes k h.arg in
        let list = encode_exprs ks ++ (number_bytes n (count xs) ++ end) in
        let x = args t.names b k h.arg scope.names (arg-width h.tag v.high) (last-width h.tag v.high) (one-arg h.tag v.high) v.arg in
        let c = below-limit n (count xs) 65536 (omega arith) v.items in
        split (h.tag ∷ []) (four_bytes h.span ++ (two_bytes h.ty ++ (number_bytes b h.arg ++ list))) g (λ q1 g1 r1.
        split (four_bytes h.span) (two_bytes h.ty ++ (number_bytes b h.arg ++ list)) r1 (λ q2 g2 r2.
        split (two_bytes h.ty) (number_bytes b h.arg ++ list) r2 (λ q3 g3 r3.
        split (number_bytes b h.arg) list r3 (λ p1 g4 r4.
        split (encode_exprs ks) (number_bytes n (count xs) ++ end) r4 (λ p2 g5 r5.
        split (number_bytes n (count xs)) end r5 (λ p3 g6 r6.
        split (encode_exprs xs) (number_bytes k h.arg) r6 (λ p4 g7 g8.
        let f2 = four-here g2 in
        let f3 = two_here g3 in
        let z1 : q1 ≡ p + 1 = g1.end in
        let z2 : q2 ≡ q1 + 4 = f2.2 in
        let z3 : q3 ≡ q2 + 2 = f3.2 in
        let l3 : q2 + 2 ≤ length s = f3.1 in
        let y2 : q2 ≡ p + 5 = omega arith in
        let y3 : q3 ≡ p + 7 = omega arith in
        goes _ (head-back t.names t.types s p h.tag h.span h.ty x.before p1 (here g) (ap (four s) (sym z1) ∙ f2.0) (ap (two s) (sym y2) ∙ f3.0)
        (omega arith) v.low v.high v.ty v.delete
        (field-read-back 8 (arg_limit t.names b) (inl (arg-width h.tag v.high)) x.none_before x.low-before
        (subst₂ (λ y z. Written s y z p1) y3 x.same-before g4)))
        (rest_back (record { tag = h.tag; span = h.span; ty = h.ty; arg = x.before }) ks xs p1 p2 p3 p4 x.after q
        (subst (λ m. exprs_by f m p1 ≡ ok ks p2) v.fixed (exprs-by-back ks p1 p2 vk g5))
        (field-read-back 8 65536 (inl (count-width h.tag v.high)) c.0 c.1 g6)
        (exprs-by-back xs p3 p4 vx g7)
        (field-read-back 8 t.names (inl (last-width h.tag v.high)) x.none_after x.low-after (subst (λ z. Written s p4 z q) x.same_after g8))
        v.receiver
        ∙ ap (λ a. ok (node (record { tag = h.tag; span = h.span; ty = h.ty; arg = a }) ks xs) q) x.is))))))))

  pub expr-read-back : (d p : ℕ) (e : Expr) (q : ℕ) → ValidExpr t d e → Written s p (encode_expr e) q → expr_at t s d p ≡ ok e q
  unfolding ValidExpr expr_at
  expr-read-back zero p e q v g = absurd v
  expr-read-back (suc d) p (node h ks xs) q v g = node-back (expr_at t s d) (ValidExpr t d) (expr-read-back d) h ks xs p q v.0 v.1 v.2 g

  pub exprs-read-back : (d : ℕ) (es : Exprs) (p q : ℕ) → EachExpr (ValidExpr t d) es → Written s p (encode_exprs es) q → exprs_at t s d (count es) p ≡ ok es q
  exprs-read-back d = exprs-by-back (expr_at t s d) (ValidExpr t d) (expr-read-back d)
