-- What an expression is, looked through, as the bytes say it.
-- Assumes nothing.
use mathlib.Core.Path.{◌≡◌, refl, sym, ap, ◌∙◌, subst}
use mathlib.Core.List.{List}
use mathlib.Core.Bool.{Bool, true, false, cond, ◌&&◌}
use mathlib.Core.Logic.{inl}
use Prim.Native.Nat.{ℕ, ◌+◌, ◌<◌}
use native.Mathlib.Omega.{arith}
use lib.ListN.{length, get_or}
use lib.Dec.{eqb}
use borrow.Author.Tests.{eq-eqb, ne_eqb, eqb-true}
use Rattle.image_fields.specs.Number.{two, four}
use Rattle.image_fields.proofs.Tests.{and-true, false-true}
use Rattle.image_body.specs.Expr.{Head, Expr, Exprs, node, none, more, arg_width, fixed_count, noop_unary, through, through_first}
use Rattle.image_body.specs.Stands.{Stands, Placed}
use Rattle.image_body.specs.Node.{node_of, node_at}
use Rattle.image_body.specs.declared.Node.{Node}
use Rattle.image_body.specs.declared.Node.TheVariants.{Ident, Call, Delete}
use Rattle.image_body.proofs.Walking.{head_at, Looked, tag-of, first-child}
use Rattle.tables.specs.Tables.{Tables}
use Rattle.rules.specs.Questions.{auto}
use Rattle.rules.specs.Expr.{View, an_ident, a_this, a_delete, other, field_view, delete_view, call_view, view_of, view, nobody, called, ident_in, name_in, is_call, ty_of, callee_at, callee_in}
use Rattle.expressions_effects.proofs.Laws.{name-at, inner, later}
use Rattle.std.specs.Prelude.{Option, Some, None, IfSome}
use Rattle.std.specs.Bool.{then_some}
use Rattle.statements_acts.specs.declared.Named.{Named}
use Rattle.statements_acts.specs.declared.Change.TheVariants.{Nothing}
use Rattle.statements_acts.specs.Act.{named_of}
use Rattle.statements_acts.specs.Parts.{deleted_name, delete_of}

-- what view_of asks, the answers in variables
abbrev view_by : Head → Exprs → Bool → Bool → Bool → Bool → Bool → View
view_by h ks a b c d k = cond a (an_ident h.arg h.span) (cond b (a_this h.span) (cond c (call_view ks) (cond d (delete_view ks) (cond k (field_view h ks) other))))

no-name-by : (h : Head) (ks : Exprs) (c d k : Bool) → name_in (view_by h ks false false c d k) ≡ nobody
no-name-by h none true d k = refl
no-name-by h (more e es) true d k = refl
no-name-by h none false true k = refl
no-name-by h (more e es) false true k = refl
no-name-by h none false false true = refl
no-name-by h (more e es) false false true = refl
no-name-by h ks false false false = refl

no-ident-by : (h : Head) (ks : Exprs) (b c d k : Bool) → ident_in (view_by h ks false b c d k) ≡ nobody
no-ident-by h ks true c d k = refl
no-ident-by h none false true d k = refl
no-ident-by h (more e es) false true d k = refl
no-ident-by h none false false true k = refl
no-ident-by h (more e es) false false true k = refl
no-ident-by h none false false false true = refl
no-ident-by h (more e es) false false false true = refl
no-ident-by h ks false false false false = refl

no-delete-by : (h : Head) (ks : Exprs) (a b c k : Bool) → deleted_name (view_by h ks a b c false k) ≡ nobody
no-delete-by h ks true b c k = refl
no-delete-by h ks false true c k = refl
no-delete-by h none false false true k = refl
no-delete-by h (more e es) false false true k = refl
no-delete-by h none false false false true = refl
no-delete-by h (more e es) false false false true = refl
no-delete-by h ks false false false false = refl

no-call-by : (h : Head) (ks : Exprs) (a b d k : Bool) → is_call (view_by h ks a b false d k) ≡ false
no-call-by h ks true b d k = refl
no-call-by h ks false true d k = refl
no-call-by h none false false true k = refl
no-call-by h (more e es) false false true k = refl
no-call-by h none false false false true = refl
no-call-by h (more e es) false false false true = refl
no-call-by h ks false false false false = refl

delete-of : (h : Head) (ks xs : Exprs) (c : Expr) (cs : Exprs) → h.tag ≡ 10 → ks ≡ more c cs → view_of (node h ks xs) ≡ a_delete c
delete-of h ks xs c cs t e = rw (t, e) refl

call-of : (h : Head) (ks xs : Exprs) (c : Expr) (cs : Exprs) → h.tag ≡ 6 → ks ≡ more c cs → is_call (view_of (node h ks xs)) ≡ true
call-of h ks xs c cs t e = rw (t, e) refl

-- by the tag that stands there
module _ (s : List ℕ) (p n : ℕ) where
  ident-view : (x : Expr) → Stands x s p n → get_or s p 0 ≡ 1 → view_of x ≡ an_ident (two s (p + 7)) (four s (p + 1))
  ident-view (node h ks xs) g e =
      let w = head_at s p n (node h ks xs) g in
      let t : h.tag ≡ 1 = sym w.1.tag ∙ e in
      let a : h.arg ≡ two s (p + 7) = name-at s p w.0 h w.1 (inl t) in
      rw (eq-eqb h.tag 1 t, a, ← w.1.span) refl

  this-view : (x : Expr) → Stands x s p n → get_or s p 0 ≡ 2 → view_of x ≡ a_this (four s (p + 1))
  this-view (node h ks xs) g e =
      let w = head_at s p n (node h ks xs) g in
      let t : h.tag ≡ 2 = sym w.1.tag ∙ e in
      rw (t, ← w.1.span) refl

  no-name-view : (x : Expr) → Stands x s p n → (get_or s p 0 ≡ 1 → ⊥) → (get_or s p 0 ≡ 2 → ⊥) → name_in (view_of x) ≡ nobody
  no-name-view (node h ks xs) g n1 n2 =
      let w = head_at s p n (node h ks xs) g in
      rw (ne_eqb h.tag 1 (λ t. n1 (w.1.tag ∙ t)), ne_eqb h.tag 2 (λ t. n2 (w.1.tag ∙ t)))
      (no-name-by h ks (eqb h.tag 6) (eqb h.tag 10) (eqb h.tag 11))

  no-ident-view : (x : Expr) → Stands x s p n → (get_or s p 0 ≡ 1 → ⊥) → ident_in (view_of x) ≡ nobody
  no-ident-view (node h ks xs) g n1 =
      let w = head_at s p n (node h ks xs) g in
      rw (ne_eqb h.tag 1 (λ t. n1 (w.1.tag ∙ t))) (no-ident-by h ks (eqb h.tag 2) (eqb h.tag 6) (eqb h.tag 10) (eqb h.tag 11))

  no-delete-view : (x : Expr) → Stands x s p n → (get_or s p 0 ≡ 10 → ⊥) → deleted_name (view_of x) ≡ nobody
  no-delete-view (node h ks xs) g n1 =
      let w = head_at s p n (node h ks xs) g in
      rw (ne_eqb h.tag 10 (λ t. n1 (w.1.tag ∙ t))) (no-delete-by h ks (eqb h.tag 1) (eqb h.tag 2) (eqb h.tag 6) (eqb h.tag 11))

  no-call-view : (x : Expr) → Stands x s p n → (get_or s p 0 ≡ 6 → ⊥) → is_call (view_of x) ≡ false
  no-call-view (node h ks xs) g n1 =
      let w = head_at s p n (node h ks xs) g in
      rw (ne_eqb h.tag 6 (λ t. n1 (w.1.tag ∙ t))) (no-call-by h ks (eqb h.tag 1) (eqb h.tag 2) (eqb h.tag 10) (eqb h.tag 11))

  delete-view : (x : Expr) → Stands x s p n → get_or s p 0 ≡ 10 → (c : Expr) × (view_of x ≡ a_delete c) × Placed s (p + 7) c
  unfolding arg_width fixed_count
  delete-view (node h ks xs) g e =
      let w = head_at s p n (node h ks xs) g in
      let t : h.tag ≡ 10 = sym w.1.tag ∙ e in
      let f = first-child s p n h ks xs g (rw t (omega arith)) in
      let at7 : p + 7 + get_or arg_width h.tag 0 ≡ p + 7 = rw t (omega arith) in
      (f.0, delete-of h ks xs f.0 f.1 t f.2, subst (λ x. Placed s x f.0) at7 f.3)

  call-view : (x : Expr) → Stands x s p n → get_or s p 0 ≡ 6 → is_call (view_of x) ≡ true
  unfolding fixed_count
  call-view (node h ks xs) g e =
      let w = head_at s p n (node h ks xs) g in
      let t : h.tag ≡ 6 = sym w.1.tag ∙ e in
      let f = first-child s p n h ks xs g (rw t (omega arith)) in
      call-of h ks xs f.0 f.1 t f.2

-- the name, as the code asks: p is the expression looked through
module _ (s : List ℕ) (at p : ℕ) (looked : Looked s at p) where
  pub name-ident : {n k : ℕ} → get_or s p 0 ≡ 1 → n ≡ two s (p + 7) → k ≡ four s (p + 1) → (e : Expr) (next : ℕ) → Stands e s at next → called n k ≡ name_in (view e)
  name-ident e1 en ek e next st = rw (en, ek) (sym (ap name_in (ident-view s p next (through e) (looked e next st) e1)))

  pub name-this : {k : ℕ} → get_or s p 0 ≡ 2 → k ≡ four s (p + 1) → (e : Expr) (next : ℕ) → Stands e s at next → called 0 k ≡ name_in (view e)
  name-this e2 ek e next st = rw ek (sym (ap name_in (this-view s p next (through e) (looked e next st) e2)))

  pub name-none : (get_or s p 0 ≡ 1 → ⊥) → (get_or s p 0 ≡ 2 → ⊥) → (e : Expr) (next : ℕ) → Stands e s at next → nobody ≡ name_in (view e)
  name-none n1 n2 e next st = sym (no-name-view s p next (through e) (looked e next st) n1 n2)

  module _ {v : Node} (ev : v ≡ node_at s p) where
    pub ident-at : {m : ℕ} → v ≡ Ident m → (e : Expr) (next : ℕ) → Stands e s at next → ident_in (view e) ≡ called (two s (p + 7)) (four s (p + 1))
    ident-at {m} ei e next st =
        let t = tag-of s p (Ident m) (sym ei ∙ ev) (omega arith) in
        ap ident_in (ident-view s p next (through e) (looked e next st) t.0)

    pub ident-in : {m : ℕ} → v ≡ Ident m → p < length s
    ident-in {m} ei = (tag-of s p (Ident m) (sym ei ∙ ev) (omega arith)).1

    pub no-ident-at : ((m : ℕ) → v ≡ Ident m → ⊥) → (e : Expr) (next : ℕ) → Stands e s at next → ident_in (view e) ≡ nobody
    unfolding node_of
    no-ident-at h e next st = no-ident-view s p next (through e) (looked e next st) (λ t. h _ (ev ∙ ap (node_of s p) t))

    pub no-delete-at : ((m : ℕ) → v ≡ Delete m → ⊥) → (e : Expr) (next : ℕ) → Stands e s at next → Nothing ≡ delete_of (deleted_name (view e))
    unfolding node_of
    no-delete-at h e next st = sym (ap delete_of (no-delete-view s p next (through e) (looked e next st) (λ t. h _ (ev ∙ ap (node_of s p) t))))

    pub delete-at : {child : ℕ} → v ≡ Delete child → (r : Option Named) → ((e : Expr) (next : ℕ) → Stands e s child next → named_of r ≡ name_in (view e))
        → (e : Expr) (next : ℕ) → Stands e s at next → delete_of (named_of r) ≡ delete_of (deleted_name (view e))
    unfolding node_of
    delete-at {child} ed r f e next st =
        let t = tag-of s p (Delete child) (sym ed ∙ ev) (omega arith) in
        let k : Delete child ≡ node_of s p 10 = sym ed ∙ ev ∙ ap (node_of s p) t.0 in
        let c7 : child ≡ p + 7 = cc in
        let d = delete-view s p next (through e) (looked e next st) t.0 in
        let i : named_of r ≡ name_in (view d.0) = f d.0 d.2.next (subst (λ x. Stands d.0 s x d.2.next) (sym c7) d.2.stands) in
        ap delete_of (i ∙ sym (ap deleted_name d.1))

none-no-call : (h : Head) (a b c d k : Bool) → is_call (view_by h none a b c d k) ≡ false
none-no-call h true b c d k = refl
none-no-call h false true c d k = refl
none-no-call h false false true d k = refl
none-no-call h false false false true k = refl
none-no-call h false false false false true = refl
none-no-call h false false false false false = refl

-- what looks through to itself and ends at one place begins at one
same_start : (s : List ℕ) (p r n : ℕ) (e : Expr) → through e ≡ e → Stands e s p n → Stands e s r n → p ≡ r
same_start s p r n e t g st =
    let a = later s p r n e g (subst (λ x. Stands x s r n) (sym t) st) in
    let b = later s r p n e st (subst (λ x. Stands x s p n) (sym t) g) in
    omega arith

head-eq : {c d : Expr} {cs ds : Exprs} → more c cs ≡ more d ds → d ≡ c
head-eq e = cc

-- where a call's callee stands
mutual
  unfolding through through_first callee_at callee_in

  callee-is : (e : Expr) (s : List ℕ) (at p n : ℕ) → Stands e s at n → Stands (through e) s p n → is_call (view e) ≡ true → p + 7 ≡ callee_at e at
  callee-is (node h ks xs) s at p n g st c = callee-by ks (noop_unary h) h refl xs s at p n g st c

  callee-by : (ks : Exprs) (b : Bool) (h : Head) → noop_unary h ≡ b → (xs : Exprs) (s : List ℕ) (at p n : ℕ) → Stands (node h ks xs) s at n
      → Stands (through_first ks b (node h ks xs)) s p n → is_call (view_of (through_first ks b (node h ks xs))) ≡ true → p + 7 ≡ callee_in ks b at
  callee-by none b h eb xs s at p n g st c =
      false-true (sym (none-no-call h (eqb h.tag 1) (eqb h.tag 2) (eqb h.tag 6) (eqb h.tag 10) (eqb h.tag 11)) ∙ c)
  callee-by (more d ds) true h eb xs s at p n g st c =
      let t = eqb-true h.tag 3 (and-true (eqb h.tag 3) (eqb h.arg 0) eb).0 in
      let i = inner s at n h (more d ds) xs t g in
      callee-is d s (at + 8) p n (subst (λ x. Stands x s (at + 8) n) (head-eq i.kids) i.stands) st c
  callee-by (more d ds) false h eb xs s at p n g st c =
      let t : through_first (more d ds) (noop_unary h) (node h (more d ds) xs) ≡ node h (more d ds) xs = rw eb refl in
      ap (λ x. x + 7) (same_start s p at n (node h (more d ds) xs) t st g)

and_none : (a b : Bool) → b ≡ false → (a && b) ≡ false
and_none true b e = e
and_none false b e = refl

pub some_below : (r : Bool) {x n : ℕ} → x < n → IfSome (then_some r x) (λ y. y < n)
some_below true h = h
some_below false h = tt

some_where : (r : Bool) {c : Bool} → c ≡ true → {x y : ℕ} → x ≡ y → then_some r x ≡ cond (r && c) (Some y) None
some_where true e en = rw (e, en) refl
some_where false e en = refl

-- the result of a call, as the code asks
module _ (s : List ℕ) (at p : ℕ) (looked : Looked s at p) {v : Node} (ev : v ≡ node_at s p) where
  pub no-call-at : ((m : ℕ) → v ≡ Call m → ⊥) → (T : Tables) (e : Expr) (next : ℕ) → Stands e s at next → None ≡ cond (auto T (ty_of e) && is_call (view e)) (Some (callee_at e at)) None
  unfolding node_of
  no-call-at h T e next st =
      sym (ap (λ b. cond b (Some (callee_at e at)) None) (and_none (auto T (ty_of e)) _ (no-call-view s p next (through e) (looked e next st) (λ t. h _ (ev ∙ ap (node_of s p) t)))))

  pub callee-in : {child : ℕ} → v ≡ Call child → (get_or s p 0 ≡ 6) × (child ≡ p + 7) × (p < length s)
  unfolding node_of
  callee-in {child} ec =
      let t = tag-of s p (Call child) (sym ec ∙ ev) (omega arith) in
      let k : Call child ≡ node_of s p 6 = sym ec ∙ ev ∙ ap (node_of s p) t.0 in
      (t.0, cc, t.1)

  -- r is what the tables answered of the node's own type
  module _ {child : ℕ} (ec : v ≡ Call child) (T : Tables) {r : Bool} (er : r ≡ auto T (two s (at + 5))) (e : Expr) (next : ℕ) (st : Stands e s at next) where
    answered : r ≡ auto T (ty_of e)
    answered = er ∙ ap (auto T) (head_at s at next e st).1.ty

    pub callee_at_lem : then_some r child ≡ cond (auto T (ty_of e) && is_call (view e)) (Some (callee_at e at)) None
    callee_at_lem =
        let i = callee-in ec in
        let c : is_call (view e) ≡ true = call-view s p next (through e) (looked e next st) i.0 in
        rw (← answered) (some_where r c (i.1 ∙ callee-is e s at p next st (looked e next st) c))

-- a callee stands at no 0
mutual
  unfolding through through_first callee_at callee_in

  pub callee-some : (e : Expr) (at : ℕ) → is_call (view e) ≡ true → 0 < callee_at e at
  callee-some (node h ks xs) at c = some-by ks (noop_unary h) h xs at c

  some-by : (ks : Exprs) (b : Bool) (h : Head) (xs : Exprs) (at : ℕ) → is_call (view_of (through_first ks b (node h ks xs))) ≡ true → 0 < callee_in ks b at
  some-by none b h xs at c = false-true (sym (none-no-call h (eqb h.tag 1) (eqb h.tag 2) (eqb h.tag 6) (eqb h.tag 10) (eqb h.tag 11)) ∙ c)
  some-by (more d ds) true h xs at c = callee-some d (at + 8) c
  some-by (more d ds) false h xs at c = omega arith
