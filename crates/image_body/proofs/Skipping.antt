-- A walk over the children of an expression that stands.
-- Assumes nothing.
use mathlib.Core.Path.{◌≡◌, refl, sym, ap, ◌∙◌, subst}
use mathlib.Core.List.{List}
use mathlib.Core.Bool.{cond}
use mathlib.Core.Logic.{◌⊎◌, ⊎_elim}
use Prim.Native.Nat.{ℕ, ◌+◌, ◌-◌, ◌≤◌, ◌<◌}
use native.Mathlib.Omega.{arith}
use native.Mathlib.Nat.{le_refl}
use lib.ListN.{length, get_or}
use lib.Dec.{eqb}
use Rattle.image_fields.specs.Number.{two, number_in}
use Rattle.image_body.specs.Expr.{Expr, Exprs, node, none, more, arg_width, fixed_count, count_width, last_width}
use Rattle.image_body.specs.Stands.{Stands, StandAll, count}
use Rattle.image_body.specs.Depth.{depth, depth_all, Walkable, WalkableAll}
use Rattle.image_body.proofs.Standing.{none-or-two, end-all}

-- a count takes no bytes or two
items : (k : ℕ) (s : List ℕ) (q : ℕ) → (k ≡ 0) ⊎ (k ≡ 2) → number_in s k q ≡ cond (eqb k 2) (two s q) 0
items k s q c = ⊎_elim (λ e. rw e refl) (λ e. rw e refl) c

-- a node's children, with its tag as the code read it
pub record Steps (s : List ℕ) (left at tag next : ℕ) : Type 0 where
  pub ks : Exprs
  pub xs : Exprs
  pub q : ℕ
  pub u : ℕ
  pub tag16 : tag < 16
  pub room : at + 7 + get_or arg_width tag 0 ≤ length s
  pub children : StandAll ks s (at + 7 + get_or arg_width tag 0) q
  pub children-many : count ks ≡ get_or fixed_count tag 0
  pub q-in : q ≤ length s
  pub narrow : get_or count_width tag 0 ≤ 2
  pub list : StandAll xs s (q + get_or count_width tag 0) u
  pub list-many : count xs ≡ cond (eqb (get_or count_width tag 0) 2) (two s q) 0
  pub end : next ≡ u + get_or last_width tag 0
  pub next-in : next ≤ length s
  pub positive : 0 < left
  pub children-shallow : depth_all ks ≤ left - 1
  pub list-shallow : depth_all xs ≤ left - 1

pub steps : (s : List ℕ) (left at : ℕ) (e : Expr) (next : ℕ) {tag : ℕ} → tag ≡ get_or s at 0 → Stands e s at next → depth e ≤ left → Steps s left at tag next
unfolding Stands depth
steps s left at (node h ks xs) next {tag} et g d =
    let t : h.tag ≡ tag = sym (et ∙ g.2.tag) in
    subst (λ k. Steps s left at k next) t
    (record {
      ks = ks;
      xs = xs;
      q = g.0;
      u = g.1;
      tag16 = g.2.high;
      room = g.2.room;
      children = g.4;
      children-many = g.3;
      q-in = end-all ks s _ _ g.2.room g.4;
      narrow = ⊎_elim (λ x. omega arith) (λ x. omega arith) (none-or-two h.tag g.2.high);
      list = g.6;
      list-many = g.5 ∙ items _ s _ (none-or-two h.tag g.2.high);
      end = g.7;
      next-in = g.8;
      positive = omega arith;
      children-shallow = omega arith;
      list-shallow = omega arith;
    })

pub own : {s : List ℕ} {left at tag : ℕ} → tag ≡ get_or s at 0 → (w : Walkable s left at) → Steps s left at tag w.next
own {s} {left} {at} et w = steps s left at w.e w.next et w.stands w.shallow

-- the two walks over children, at the numbers that the code has
pub children-walk : {s : List ℕ} {left at tag next : ℕ} (k b : ℕ) → Steps s left at tag next → k ≡ get_or fixed_count tag 0 → b ≡ get_or arg_width tag 0
    → WalkableAll s (left - 1) k (at + 7 + b)
children-walk {s} {left} {at} k b g ek eb =
    record { es = g.ks; next = g.q; stand = subst (λ x. StandAll g.ks s (at + 7 + x) g.q) (sym eb) g.children; many = g.children-many ∙ sym ek; shallow = g.children-shallow }

pub children-end : {s : List ℕ} {left at tag next : ℕ} (k b p : ℕ) → Steps s left at tag next → k ≡ get_or fixed_count tag 0 → b ≡ get_or arg_width tag 0
    → ((es : Exprs) (n : ℕ) → StandAll es s (at + 7 + b) n → count es ≡ k → p ≡ n) → (g : Steps s left at tag next) → p ≡ g.q
children-end {s} {left} {at} k b p w ek eb f g = f g.ks g.q (subst (λ x. StandAll g.ks s (at + 7 + x) g.q) (sym eb) g.children) (g.children-many ∙ sym ek)

pub list-walk : {s : List ℕ} {left at tag next : ℕ} (n p k : ℕ) (g : Steps s left at tag next) → p ≡ g.q → k ≡ get_or count_width tag 0
    → n ≡ cond (eqb k 2) (two s p) 0 → WalkableAll s (left - 1) n (p + k)
list-walk {s} {left} {at} {tag} n p k g ep ek en =
    let e : p + k ≡ g.q + get_or count_width tag 0 = ap (λ x. x + k) ep ∙ ap (λ x. g.q + x) ek in
    let m : count g.xs ≡ n = g.list-many ∙ sym (en ∙ ap (λ x. cond (eqb x 2) (two s p) 0) ek ∙ ap (λ x. cond (eqb (get_or count_width tag 0) 2) (two s x) 0) ep) in
    record { es = g.xs; next = g.u; stand = subst (λ x. StandAll g.xs s x g.u) (sym e) g.list; many = m; shallow = g.list-shallow }

pub list-end : {s : List ℕ} {left at tag next : ℕ} (n p k r : ℕ) (g : Steps s left at tag next) → p ≡ g.q → k ≡ get_or count_width tag 0
    → n ≡ cond (eqb k 2) (two s p) 0 → ((es : Exprs) (m : ℕ) → StandAll es s (p + k) m → count es ≡ n → r ≡ m) → r ≡ g.u
unfolding list-walk
list-end n p k r g ep ek en f = let w = list-walk n p k g ep ek en in f w.es w.next w.stand w.many

-- the loop over several: what is left to walk, and where any list that stands here would end
pub record Going (s : List ℕ) (left n at i p : ℕ) : Type 0 where
  pub low : i ≤ n
  pub here : WalkableAll s left i p
  pub any : (es : Exprs) (next : ℕ) → StandAll es s at next → count es ≡ n → (fs : Exprs) × StandAll fs s p next × (count fs ≡ i)

pub going_start : (s : List ℕ) (left n at : ℕ) → WalkableAll s left n at → Going s left n at (n - 0) at
going_start s left n at w = let e : n - 0 ≡ n = omega arith in rw e (record { low = le_refl n; here = w; any = λ es next st c. (es, st, c) })

pub first_walk : {s : List ℕ} {left i p : ℕ} → 0 < i → WalkableAll s left i p → Walkable s left p
unfolding StandAll depth
first_walk {s} {left} {i} {p} lt w = go w.es w.next w.stand w.many w.shallow
  where
    go : (es : Exprs) (next : ℕ) → StandAll es s p next → count es ≡ i → depth_all es ≤ left → Walkable s left p
    go none next st c d = absurd (omega arith)
    go (more e es) next st c d = record { e = e; next = st.0; stands = st.1; shallow = omega arith }

pub going_next : {s : List ℕ} {left n at i p r : ℕ} (k : ℕ) → k + 1 ≡ i → Going s left n at i p
    → ((e : Expr) (next : ℕ) → Stands e s p next → r ≡ next) → Going s left n at k r
unfolding StandAll depth
going_next {s} {left} {n} {at} {i} {p} {r} k one g f =
    let l = g.low in
    let w = g.here in
    record { low = omega arith; here = go w.es w.next w.stand w.many w.shallow; any = λ es next st c. let h = g.any es next st c in rest h.0 next h.1 h.2 }
  where
    go : (es : Exprs) (next : ℕ) → StandAll es s p next → count es ≡ i → depth_all es ≤ left → WalkableAll s left k r
    go none next st c d = absurd (omega arith)
    go (more e es) next st c d =
        record { es = es; next = next; stand = subst (λ x. StandAll es s x next) (sym (f e st.0 st.1)) st.2; many = omega arith; shallow = omega arith }

    rest : (es : Exprs) (next : ℕ) → StandAll es s p next → count es ≡ i → (fs : Exprs) × StandAll fs s r next × (count fs ≡ k)
    rest none next st c = absurd (omega arith)
    rest (more e es) next st c = (es, subst (λ x. StandAll es s x next) (sym (f e st.0 st.1)) st.2, omega arith)

pub going_done : {s : List ℕ} {left n at i p : ℕ} → i ≤ 0 → Going s left n at i p → (es : Exprs) (next : ℕ) → StandAll es s at next → count es ≡ n → p ≡ next
unfolding StandAll
going_done {s} {left} {n} {at} {i} {p} le g es next st c = let h = g.any es next st c in last h.0 h.1 h.2
  where
    last : (fs : Exprs) → StandAll fs s p next → count fs ≡ i → p ≡ next
    last none x y = sym x
    last (more e fs) x y = absurd (omega arith)
