-- The steps of reading an expression, as the code takes them.
-- Assumes nothing.
use mathlib.Core.Path.{◌≡◌, refl, sym, ap, ◌∙◌, subst}
use mathlib.Core.List.{List}
use mathlib.Core.Bool.{true, false}
use Prim.Native.Nat.{ℕ, zero, suc, ◌-◌, ◌≤◌, ◌<◌}
use native.Mathlib.Omega.{arith}
use borrow.Author.Tests.{eq-eqb, ne_eqb}
use lib.ListN.{get_or}
use Rattle.image_fields.specs.Parsed.{Parsed, ok, fault, bind, ensure}
use Rattle.image_fields.specs.Number.{field_at}
use Rattle.image_fields.specs.Answer.{read_of}
use Rattle.std.specs.Prelude.{Result, Ok, Err}
use Rattle.image_fields.specs.declared.Fault.{Fault}
use Rattle.image_fields.specs.Fault.{fault_number, coded}
use Rattle.image_fields.specs.Table.{many_of}
use Rattle.image_fields.proofs.Inverse.{bind_ok, ensure-ok}
use Rattle.image_fields.proofs.Numbers.{field-ok, field-good}
use Rattle.image_fields.proofs.Tests.{false-true}
use Rattle.image_body.specs.Expr.{Head, Expr, Exprs, Scope, none, arg_width, arg_limit, leaf, fixed_count, count_width, last_width, exprs_by, generic_callee, head_at, end_at, rest_at, expr_at}
use Rattle.image_reading.specs.Answer.{start_of}
use Rattle.image_body.proofs.Standing.{head-stands}
use Rattle.image_body.proofs.Columns.{leaf-columns, leaf-operator}

-- a head was read: it has the tag, and what follows it stands at p
pub start-ok : {x : Parsed Head} {k p : ℕ} {r : Result (ℕ × ℕ) Fault} → coded r ≡ start_of x → r ≡ Ok (k, p) → (h : Head) × (x ≡ ok h p) × (h.tag ≡ k)
unfolding start_of
start-ok {x = ok h q} {k} {p} e f = let z : ◌≡◌ {A = ℕ × ℕ} (h.tag, q) (k, p) = cc in (h, ap (λ y. ok h y.1) z, ap (λ y. y.0) z)
start-ok {x = fault n} {k} {p} {r} e f = let z : ◌≡◌ {A = ℕ} 0 1 = cc in absurd (omega arith)

pub start-bad : {x : Parsed Head} {n : Fault} {r : Result (ℕ × ℕ) Fault} → coded r ≡ start_of x → r ≡ Err n → x ≡ fault (fault_number n)
unfolding start_of
start-bad {x = ok h q} e f = cc
start-bad {x = fault n} e f = cc

module _ (t : Scope) (s : List ℕ) where
  pub deep : (d at : ℕ) → d ≤ 0 → Err 9 ≡ read_of (expr_at t s d at)
  unfolding expr_at read_of
  deep d at le = let e : d ≡ 0 = omega arith in rw e

  pub bad-head : (d at : ℕ) {n : ℕ} → 0 < d → head_at t.names t.types s at ≡ fault n → Err n ≡ read_of (expr_at t s d at)
  unfolding expr_at read_of bind
  bad-head zero at lt e = absurd (omega arith)
  bad-head (suc d) at lt e = rw e

  pub good-head : (d at : ℕ) {h : Head} {p : ℕ} → 0 < d → head_at t.names t.types s at ≡ ok h p → expr_at t s d at ≡ rest_at (expr_at t s (d - 1)) t s h p
  unfolding expr_at bind
  good-head zero at lt e = absurd (omega arith)
  good-head (suc d) at lt e = let g : suc d - 1 ≡ d = omega arith in rw (g, e)

pub tag_small : (names types : ℕ) (s : List ℕ) (at : ℕ) {k p : ℕ} {r : Result (ℕ × ℕ) Fault} → coded r ≡ start_of (head_at names types s at) → r ≡ Ok (k, p) → k < 16
tag_small names types s at e f = let g = start-ok e f in let l = (head-stands _ _ _ _ _ _ g.1).5 in omega (arith, g.2, l)

-- the steps after a head, with the numbers of children that the code read from its tables
module _ (f : ℕ → Parsed Expr) (t : Scope) (s : List ℕ) (h : Head) (p : ℕ) {k : ℕ} (ek : k ≡ get_or fixed_count h.tag 0) where
  pub children-stop : {n : ℕ} → exprs_by f k p ≡ fault n → Err n ≡ read_of (rest_at f t s h p)
  unfolding rest_at bind read_of
  children-stop e = simp (← ek, e)

  module _ {ks : Exprs} {q : ℕ} (e1 : exprs_by f k p ≡ ok ks q) {m : ℕ} (em : m ≡ get_or count_width h.tag 0) where
    pub count-stop : {n : ℕ} → field_at 8 65536 m s q ≡ fault n → Err n ≡ read_of (rest_at f t s h p)
    unfolding rest_at bind read_of
    count-stop e = simp (← ek, e1, ← em, e)

    module _ {n r : ℕ} (e2 : field_at 8 65536 m s q ≡ ok n r) where
      pub items-stop : {j : ℕ} → exprs_by f n r ≡ fault j → Err j ≡ read_of (rest_at f t s h p)
      unfolding rest_at bind read_of
      items-stop e = simp (← ek, e1, ← em, e2, e)

      pub to_end : {xs : Exprs} {u : ℕ} → exprs_by f n r ≡ ok xs u → rest_at f t s h p ≡ end_at t s h ks xs u
      unfolding rest_at bind
      to_end e = simp (← ek, e1, ← em, e2, e)

-- the end of a node, with the number of bytes that the code read from its table
module _ (t : Scope) (s : List ℕ) (h : Head) (ks xs : Exprs) (u : ℕ) {k : ℕ} (ek : k ≡ get_or last_width h.tag 0) where
  pub name-stop : {n : ℕ} → field_at 8 t.names k s u ≡ fault n → Err n ≡ read_of (end_at t s h ks xs u)
  unfolding end_at bind read_of
  name-stop e = simp (← ek, e)

  module _ {a p : ℕ} (e : field_at 8 t.names k s u ≡ ok a p) where
    pub generic-stop : h.tag ≡ 6 → generic_callee t.generic ks ≡ true → Err 11 ≡ read_of (end_at t s h ks xs u)
    unfolding end_at bind read_of ensure
    generic-stop e6 g = simp (← ek, e, eq-eqb _ _ e6, g)

    pub call_ends : h.tag ≡ 6 → generic_callee t.generic ks ≡ false → Ok p ≡ read_of (end_at t s h ks xs u)
    unfolding end_at bind read_of ensure
    call_ends e6 g = simp (← ek, e, eq-eqb _ _ e6, g)

    pub node-ends : (h.tag ≡ 6 → ⊥) → Ok p ≡ read_of (end_at t s h ks xs u)
    unfolding end_at bind read_of ensure
    node-ends n6 = simp (← ek, e, ne_eqb _ _ n6)

-- a field of no bytes
pub empty-field : (limit : ℕ) (s : List ℕ) (at : ℕ) → 0 < limit → field_at 8 limit 0 s at ≡ ok 0 at
empty-field limit s at lt = field-good 8 limit 0 s at refl (omega arith) refl lt ∙ ap (ok 0) (omega arith)

-- a leaf: nothing follows its head, and there are names, since the argument was below their number
module _ (t : Scope) (s : List ℕ) (at : ℕ) {h : Head} {p : ℕ} (e : head_at t.names t.types s at ≡ ok h p) (l : leaf h.tag ≡ true) where
  some-names : 0 < t.names
  unfolding head_at
  some-names =
      let (a, q, e1, e2) = bind_ok (ensure-ok _ (ensure-ok _ (ensure-ok _ (ensure-ok _ e).1).1).1).1 in
      let w : a < arg_limit t.names (get_or arg_width (get_or s at 0) 0) = (field-ok e1).small in
      let z = subst (λ k. a < arg_limit t.names (get_or arg_width k 0)) (head-stands t.names t.types s at h p e).0 w in
      let y : a < t.names = rw (leaf-operator h.tag l) at z in
      omega arith

  pub leaf-ends : (f : ℕ → Parsed Expr) → Ok p ≡ read_of (rest_at f t s h p)
  unfolding many_of fixed_count count_width last_width
  leaf-ends f =
      let c = leaf-columns h.tag l in
      let none_left : exprs_by f 0 p ≡ ok none p = refl in
      node-ends t s h none none p (sym c.3) (empty-field _ s p some-names) (λ z. false-true (sym (ap leaf z) ∙ l))
      ∙ sym (ap read_of (to_end f t s h p (sym c.1) none_left (sym c.2) (empty-field _ s p (omega arith)) none_left))
