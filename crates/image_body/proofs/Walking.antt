-- What the bytes say where an expression stands.
-- Assumes nothing.
use mathlib.Core.Path.{◌≡◌, refl, sym, ap, ◌∙◌, subst, subst₂}
use mathlib.Core.List.{List, [], ◌∷◌}
use mathlib.Core.Bool.{Bool, true, false, not, ◌&&◌}
use mathlib.Core.Logic.{⊎_elim}
use Prim.Native.Nat.{ℕ, suc, ◌+◌, ◌≤◌, ◌<◌}
use native.Mathlib.Omega.{arith}
use lib.ListN.{length, get_or, replicate}
use lib.Dec.{T, eqb, eqb→eq}
use borrow.Author.Tests.{eq-eqb, ne_eqb, eqb-true}
use types.Run.{OneOf, miss}
use mir.Val.{has_key}
use denote.Enum.Declared.{tag_of}
use Rattle.image_fields.specs.Number.{two, number_in}
use Rattle.image_fields.proofs.Tests.{split, less, and-true}
use Rattle.image_fields.proofs.Numbers.{past_end}
use Rattle.image_fields.proofs.Rules.{at}
use Rattle.image_body.specs.Expr.{Head, Expr, Exprs, node, none, more, arg_width, fixed_count, count_width, last_width, head_of, children_of, noop_unary, through, through_first, generic_receiver, generic_callee}
use Rattle.image_body.specs.Stands.{Stands, StandAll, HeadStands, Placed, count}
use Rattle.image_body.specs.Node.{node_of, node_at, kind_of}
use Rattle.image_body.specs.declared.Node.{Node}
use Rattle.image_body.specs.contracts.Node.{the_type}

-- a byte that is not 0 stands within
pub within : (s : List ℕ) (p k : ℕ) → get_or s p 0 ≡ k → 0 < k → p < length s
within s p k e pos = ⊎_elim (λ x. x) (λ x. let z = past_end s p x in absurd (omega arith)) (less p (length s))

-- the tag of the node of a tag
same_kind : List ℕ → ℕ → ℕ → ℕ → Bool
same_kind s p k x = eqb (kind_of (node_of s p k)) k

kind-small : (s : List ℕ) (p k : ℕ) → k < 16 → kind_of (node_of s p k) ≡ k
unfolding same_kind node_of
kind-small s p k lt = eqb→eq _ _ (at (same_kind s p) (replicate 16 0) tt k lt)

kind-large : (s : List ℕ) (p k : ℕ) → 16 ≤ k → kind_of (node_of s p k) ≡ 0
unfolding node_of
kind-large s p k le = simp (ne_eqb k 1 (λ z. omega arith), ne_eqb k 2 (λ z. omega arith), ne_eqb k 3 (λ z. omega arith), ne_eqb k 4 (λ z. omega arith), ne_eqb k 5 (λ z. omega arith), ne_eqb k 6 (λ z. omega arith), ne_eqb k 7 (λ z. omega arith), ne_eqb k 8 (λ z. omega arith), ne_eqb k 9 (λ z. omega arith), ne_eqb k 10 (λ z. omega arith), ne_eqb k 11 (λ z. omega arith), ne_eqb k 12 (λ z. omega arith), ne_eqb k 13 (λ z. omega arith), ne_eqb k 14 (λ z. omega arith), ne_eqb k 15 (λ z. omega arith))

-- a node that was found has its tag at the position, which is within the bytes
pub tag-of : (s : List ℕ) (p : ℕ) (v : Node) → v ≡ node_at s p → 0 < kind_of v → (get_or s p 0 ≡ kind_of v) × (p < length s)
tag-of s p v e pos =
    let k : kind_of v ≡ kind_of (node_of s p (get_or s p 0)) = ap kind_of e in
    let t : get_or s p 0 ≡ kind_of v =
    ⊎_elim (λ l. sym (k ∙ kind-small s p (get_or s p 0) l)) (λ l. let z = kind-large s p (get_or s p 0) l in absurd (omega arith)) (less (get_or s p 0) 16) in
    (t, within s p (kind_of v) t pos)

abbrev keep : Bool → ℕ → List ℕ → List ℕ
keep true x xs = xs
keep false x xs = x ∷ xs

abbrev strike : ℕ → List ℕ → List ℕ
strike k [] = []
strike k (x ∷ xs) = keep (eqb x k) x (strike k xs)

-- the tags but one: what the code's `else` is told of
abbrev pub others : ℕ → List ℕ
others k = strike k (0 ∷ 1 ∷ 2 ∷ 3 ∷ 4 ∷ 5 ∷ 6 ∷ 7 ∷ 8 ∷ 9 ∷ 10 ∷ 11 ∷ 12 ∷ 13 ∷ 14 ∷ 15 ∷ [])

pub not-kind : (k : ℕ) → T (not (has_key (others k) k)) → (s : List ℕ) (p : ℕ) {v : Node} → v ≡ node_at s p → tag_of the_type (node_of s p k) ≡ k → OneOf (others k) (tag_of the_type v)
    → get_or s p 0 ≡ k → ⊥
not-kind k m s p e n h t = miss (others k) k m (subst (OneOf (others k)) (ap (tag_of the_type) (e ∙ ap (node_of s p) t) ∙ n) h)

stay : (ks : Exprs) (b : Bool) (e : Expr) → b ≡ false → through_first ks b e ≡ e
unfolding through_first
stay none b e f = refl
stay (more c cs) b e f = rw f

-- the head of an expression that stands
pub head_at : (s : List ℕ) (p n : ℕ) (e : Expr) → Stands e s p n → (u : ℕ) × HeadStands (head_of e) s p u
unfolding Stands
head_at s p n (node h ks xs) g = (g.1, g.2)

-- the argument of a Unary is its operator
op-at : (s : List ℕ) (p u : ℕ) (h : Head) → HeadStands h s p u → h.tag ≡ 3 → h.arg ≡ get_or s (p + 7) 0
unfolding arg_width last_width
op-at s p u h g e =
    let a : number_in s (get_or arg_width 3 0) (p + 7) + number_in s (get_or last_width 3 0) u ≡ h.arg = rw e at g.arg in
    omega arith

-- not an operator-less unary: looked through, it is itself
pub stop : (s : List ℕ) (p n : ℕ) (e : Expr) → Stands e s p n → (get_or s p 0 ≡ 3 → get_or s (p + 7) 0 ≡ 0 → ⊥) → through e ≡ e
unfolding through
stop s p n (node h ks xs) g never =
    let w = head_at s p n (node h ks xs) g in
    ⊎_elim
    (λ b. let z = and-true (eqb h.tag 3) (eqb h.arg 0) b in
    let t3 = eqb-true h.tag 3 z.0 in
    absurd (never (w.1.tag ∙ t3) (sym (op-at s p w.0 h w.1 t3) ∙ eqb-true h.arg 0 z.1)))
    (λ b. stay ks (noop_unary h) (node h ks xs) b)
    (split (noop_unary h))

-- the first child of a node that has one
pub first-child : (s : List ℕ) (p n : ℕ) (h : Head) (ks xs : Exprs) → Stands (node h ks xs) s p n → 0 < get_or fixed_count h.tag 0
    → (c : Expr) × (cs : Exprs) × (ks ≡ more c cs) × Placed s (p + 7 + get_or arg_width h.tag 0) c
unfolding Stands StandAll
first-child s p n h none xs g lt = let z = g.3 in absurd (omega arith)
first-child s p n h (more c cs) xs g lt = (c, cs, refl, record { next = g.4.0; stands = g.4.1 })

through-noop : (h : Head) (c : Expr) (cs xs : Exprs) → h.tag ≡ 3 → h.arg ≡ 0 → through (node h (more c cs) xs) ≡ through c
unfolding through through_first
through-noop h c cs xs e3 e0 = rw (e3, e0)

-- the only child of a Unary ends where the Unary does
only_child : (s : List ℕ) (p n : ℕ) (h : Head) (ks xs : Exprs) → Stands (node h ks xs) s p n → h.tag ≡ 3
    → (c : Expr) × (cs : Exprs) × (ks ≡ more c cs) × Stands c s (p + 8) n
unfolding Stands StandAll arg_width fixed_count count_width last_width
only_child s p n h none xs g t = let z : ◌≡◌ {A = ℕ} 0 1 = rw t at g.3 in absurd (omega arith)
only_child s p n h (more c (more d ds)) xs g t = let z : suc (suc (count ds)) ≡ 1 = rw t at g.3 in absurd (omega arith)
only_child s p n h (more c none) (more x xs) g t = let z : suc (count xs) ≡ 0 = rw t at g.5 in absurd (omega arith)
only_child s p n h (more c none) none g t =
    let a : p + 7 + get_or arg_width h.tag 0 ≡ p + 8 = rw t (omega arith) in
    let b : g.0 ≡ g.4.0 = g.4.2 in
    let u : g.1 ≡ g.0 + 0 = rw t at g.6 in
    let m : n ≡ g.1 + 0 = rw t at g.7 in
    let e : g.4.0 ≡ n = omega arith in
    (c, none, refl, subst₂ (λ x y. Stands c s x y) a e g.4.1)

-- an operator-less unary: what it looks through to stands 8 bytes on, and ends where it does
pub step : (s : List ℕ) (p n : ℕ) (e : Expr) → Stands e s p n → get_or s p 0 ≡ 3 → get_or s (p + 7) 0 ≡ 0
    → (c : Expr) × Stands c s (p + 8) n × (through c ≡ through e)
step s p n (node h ks xs) g e3 e0 =
    let w = head_at s p n (node h ks xs) g in
    let t3 : h.tag ≡ 3 = sym w.1.tag ∙ e3 in
    let a0 : h.arg ≡ 0 = op-at s p w.0 h w.1 t3 ∙ e0 in
    let f = only_child s p n h ks xs g t3 in
    (f.0, f.3, sym (ap (λ k. through (node h k xs)) f.2 ∙ through-noop h f.0 f.1 xs t3 a0))

-- the loop that looks through: what stands at p is, looked through, what stands at the start, and ends where that does
abbrev pub Looks : List ℕ → ℕ → ℕ → Type 0
Looks s at p = (e : Expr) (next : ℕ) → Stands e s at next → (f : Expr) × Stands f s p next × (through f ≡ through e)

abbrev pub Looked : List ℕ → ℕ → ℕ → Type 0
Looked s at p = (e : Expr) (next : ℕ) → Stands e s at next → Stands (through e) s p next

module _ (s : List ℕ) (at p : ℕ) (inv : Looks s at p) where
  pub ends-here : (get_or s p 0 ≡ 3 → get_or s (p + 7) 0 ≡ 0 → ⊥) → Looked s at p
  ends-here never e next g =
      let w = inv e next g in
      subst (λ x. Stands x s p next) (sym (stop s p next w.0 w.1 never) ∙ w.2) w.1

  pub again : get_or s p 0 ≡ 3 → get_or s (p + 7) 0 ≡ 0 → Looks s at (p + 8)
  again e3 e0 e next g =
      let w = inv e next g in
      let z = step s p next w.0 w.1 e3 e0 in
      (z.0, z.1, z.2 ∙ w.2)

first_of : (s : List ℕ) (p n : ℕ) (f : Expr) → Stands f s p n → (head_of f).tag ≡ 11 → (c : Expr) × (cs : Exprs) × (children_of f ≡ more c cs) × Placed s (p + 7) c
unfolding arg_width fixed_count
first_of s p n (node h ks xs) g t =
    let f = first-child s p n h ks xs g (rw t (omega arith)) in
    let at7 : p + 7 + get_or arg_width h.tag 0 ≡ p + 7 = rw t (omega arith) in
    (f.0, f.1, f.2, subst (λ x. Placed s x f.0) at7 f.3)

receiver : (g : List ℕ) (e c : Expr) (cs : Exprs) → (head_of (through e)).tag ≡ 11 → children_of (through e) ≡ more c cs
    → generic_receiver g e ≡ (eqb (head_of (through c)).tag 1 && eqb (get_or g (head_of c).ty 0) 1)
unfolding generic_receiver
receiver g e c cs t k = rw (t, k)

-- the receiver question, as the code asks it: p is the callee looked through
module _ (g s : List ℕ) (at p : ℕ) (looked : Looked s at p) (e : Expr) (next : ℕ) (st : Stands e s at next) where
  pub no_field : (get_or s p 0 ≡ 11 → ⊥) → false ≡ generic_receiver g e
  unfolding generic_receiver
  no_field never =
      let hd = head_at s p next (through e) (looked e next st) in
      let ne : eqb (head_of (through e)).tag 11 ≡ false = ne_eqb _ 11 (λ t. never (hd.1.tag ∙ t)) in
      rw ne

  -- the target, and what it is looked through to, at q
  module _ (e11 : get_or s p 0 ≡ 11) (q : ℕ) (inner : Looked s (p + 7) q) where
    target-of : (c : Expr) × (cs : Exprs) × ((head_of (through e)).tag ≡ 11) × (children_of (through e) ≡ more c cs) × Placed s (p + 7) c
    target-of =
        let l = looked e next st in
        let hd = head_at s p next (through e) l in
        let t : (head_of (through e)).tag ≡ 11 = sym hd.1.tag ∙ e11 in
        let f = first_of s p next (through e) l t in
        (f.0, f.1, t, f.2, f.3)

    pub no-ident : (get_or s q 0 ≡ 1 → ⊥) → false ≡ generic_receiver g e
    no-ident never =
        let f = target-of in
        let l = inner f.0 f.4.next f.4.stands in
        let hd = head_at s q f.4.next (through f.0) l in
        let ne : eqb (head_of (through f.0)).tag 1 ≡ false = ne_eqb _ 1 (λ t. never (hd.1.tag ∙ t)) in
        sym (receiver g e f.0 f.1 f.2 f.3 ∙ ap (λ x. x && (eqb (get_or g (head_of f.0).ty 0) 1)) ne)

    pub ident : get_or s q 0 ≡ 1 → eqb (get_or g (two s (p + 7 + 5)) 0) 1 ≡ generic_receiver g e
    ident e1 =
        let f = target-of in
        let l = inner f.0 f.4.next f.4.stands in
        let hd = head_at s q f.4.next (through f.0) l in
        let hc = head_at s (p + 7) f.4.next f.0 f.4.stands in
        let eq : eqb (head_of (through f.0)).tag 1 ≡ true = eq-eqb _ 1 (sym hd.1.tag ∙ e1) in
        sym (receiver g e f.0 f.1 f.2 f.3 ∙ ap (λ x. x && (eqb (get_or g (head_of f.0).ty 0) 1)) eq ∙ ap (λ x. eqb (get_or g x 0) 1) (sym hc.1.ty))

-- the callee is the first child of a Call
pub callee : (g s : List ℕ) (ks : Exprs) (first q : ℕ) {r : Bool} → count ks ≡ 1 → StandAll ks s first q
    → ((e : Expr) (next : ℕ) → Stands e s first next → r ≡ generic_receiver g e) → r ≡ generic_callee g ks
unfolding StandAll
callee g s none first q c st f = absurd (omega arith)
callee g s (more e es) first q c st f = f e st.0 st.1
