-- What the bytes say where an expression stands, and what looking through changes.
-- Assumes nothing.
use mathlib.Core.Path.{◌≡◌, refl, sym, ap, ◌∙◌, subst}
use mathlib.Core.List.{List, [], ◌∷◌, ◌++◌, append_assoc, append-nil}
use mathlib.Core.Bool.{Bool, true, false, cond}
use mathlib.Core.Logic.{◌⊎◌, inl, inr, ⊎_elim}
use Prim.Native.Nat.{ℕ, suc, ◌+◌, ◌≤◌}
use native.Mathlib.Omega.{arith}
use native.Mathlib.Nat.{le_refl}
use lib.ListN.{get_or}
use lib.Dec.{eqb}
use borrow.Author.Tests.{eqb-true}
use Rattle.image_fields.specs.Number.{two, four, number_in}
use Rattle.image_fields.proofs.Tests.{split, and-true}
use Rattle.tables.specs.Tables.{Tables}
use Rattle.image_body.specs.Expr.{Head, Expr, Exprs, node, none, more, arg_width, fixed_count, count_width, last_width, head_of, noop_unary, through, through_first}
use Rattle.image_body.specs.Stands.{Stands, StandAll, HeadStands, count}
use Rattle.image_body.specs.Depth.{depth}
use Rattle.image_body.proofs.Walking.{head_at}
use Rattle.rules.specs.Questions.{is_temp_of}
use Rattle.rules.specs.Effects.{handed, takes, Raw, uses, hands, hand_head, hand_if, finish, raws, group}
use Rattle.expressions_effects.specs.Asked.{leaf, leaf_of}

-- the name of an Ident or an Intrinsic
pub name-at : (s : List ℕ) (p u : ℕ) (h : Head) → HeadStands h s p u → (h.tag ≡ 1) ⊎ (h.tag ≡ 14) → h.arg ≡ two s (p + 7)
unfolding arg_width last_width
name-at s p u h g (inl e) =
    let a : number_in s (get_or arg_width 1 0) (p + 7) + number_in s (get_or last_width 1 0) u ≡ h.arg = rw e at g.arg in
    omega arith
name-at s p u h g (inr e) =
    let a : number_in s (get_or arg_width 14 0) (p + 7) + number_in s (get_or last_width 14 0) u ≡ h.arg = rw e at g.arg in
    omega arith

-- a Unary has one child, which ends where the Unary ends
pub record Inner (s : List ℕ) (p n : ℕ) (ks xs : Exprs) : Type 0 where
  pub c : Expr
  pub kids : ks ≡ more c none
  pub items : xs ≡ none
  pub stands : Stands c s (p + 8) n

pub inner : (s : List ℕ) (p n : ℕ) (h : Head) (ks xs : Exprs) → h.tag ≡ 3 → Stands (node h ks xs) s p n → Inner s p n ks xs
unfolding Stands StandAll arg_width fixed_count count_width last_width
inner s p n h none xs e g = let f : count none ≡ get_or fixed_count 3 0 = rw e at g.3 in absurd (omega arith)
inner s p n h (more c (more d ds)) xs e g = let f : count (more c (more d ds)) ≡ get_or fixed_count 3 0 = rw e at g.3 in absurd (omega arith)
inner s p n h (more c none) (more x xs) e g = let z : suc (count xs) ≡ 0 = rw e at g.5 in absurd (omega arith)
inner s p n h (more c none) none e g =
    let b : get_or arg_width h.tag 0 ≡ 1 = rw e refl in
    let k : get_or count_width h.tag 0 ≡ 0 = rw e refl in
    let a : get_or last_width h.tag 0 ≡ 0 = rw e refl in
    let at8 : p + 7 + get_or arg_width h.tag 0 ≡ p + 8 = omega arith in
    let q = g.4.2 in
    let u = g.6 in
    let m = g.7 in
    let en : g.4.0 ≡ n = omega arith in
    record { c = c; kids = refl; items = refl; stands = subst (λ x. Stands c s x n) at8 (subst (λ x. Stands c s (p + 7 + get_or arg_width h.tag 0) x) en g.4.1) }

-- how many bytes an expression takes
unfoldable mutual
  size : Expr → ℕ
  size (node h ks xs) = 7 + get_or arg_width h.tag 0 + size_all ks + get_or count_width h.tag 0 + size_all xs + get_or last_width h.tag 0

  size_all : Exprs → ℕ
  size_all none = 0
  size_all (more e es) = size e + size_all es

mutual
  unfolding Stands size

  size_of : (e : Expr) (s : List ℕ) (p q : ℕ) → Stands e s p q → q ≡ p + size e
  size_of (node h ks xs) s p q g =
      let a = size-all ks s (p + 7 + get_or arg_width h.tag 0) g.0 g.4 in
      let b = size-all xs s (g.0 + get_or count_width h.tag 0) g.1 g.6 in
      let c = g.7 in
      omega arith

  size-all : (es : Exprs) (s : List ℕ) (p q : ℕ) → StandAll es s p q → q ≡ p + size_all es
  size-all none s p q g = omega arith
  size-all (more e es) s p q g =
      let a = size_of e s p g.0 g.1 in
      let b = size-all es s g.0 q g.2 in
      omega arith

-- looked through, an expression is no longer and no deeper
mutual
  unfolding through through_first size depth

  through-less : (e : Expr) → (size (through e) ≤ size e) × (depth (through e) ≤ depth e)
  through-less (node h ks xs) = first-less h xs ks (noop_unary h)

  first-less : (h : Head) (xs ks : Exprs) (b : Bool) → (size (through_first ks b (node h ks xs)) ≤ size (node h ks xs)) × (depth (through_first ks b (node h ks xs)) ≤ depth (node h ks xs))
  first-less h xs none b = (le_refl _, le_refl _)
  first-less h xs (more c cs) true = let z = through-less c in (omega arith, omega arith)
  first-less h xs (more c cs) false = (le_refl _, le_refl _)

pub through-depth : (e : Expr) → depth (through e) ≤ depth e
through-depth e = (through-less e).1

-- what is looked through stands no earlier
pub later : (s : List ℕ) (p r n : ℕ) (e : Expr) → Stands e s p n → Stands (through e) s r n → p ≤ r
later s p r n e g st =
    let a = size_of e s p n g in
    let b = size_of (through e) s r n st in
    let c = (through-less e).0 in
    omega arith

-- a leaf's effects as the code tells them
pub leaf-gives : (T : Tables) (n p : ℕ) → is_temp_of T n ≡ true → uses n p ∷ hands n p ∷ [] ≡ leaf T true n p
leaf-gives T n p e = rw e refl

pub leaf-keeps : (T : Tables) (n p : ℕ) → is_temp_of T n ≡ false → uses n p ∷ [] ≡ leaf T true n p
leaf-keeps T n p e = rw e refl

head-eq : {c d : Expr} {cs ds : Exprs} → more c cs ≡ more d ds → d ≡ c
head-eq e = cc

-- an operator-less unary does what its child does
noop-raws : (T : Tables) (h : Head) (c : Expr) → h.tag ≡ 3 → raws T (node h (more c none) none) ≡ raws T c
unfolding raws group finish handed takes count_width
noop-raws T h c t = rw t (append-nil (raws T c ++ []) ∙ append-nil (raws T c))

-- an expression's effects are those of what it is looked through to
mutual
  unfolding through through_first

  pub see-through : (T : Tables) (s : List ℕ) (p n : ℕ) (e : Expr) → Stands e s p n → raws T e ≡ raws T (through e)
  see-through T s p n (node h ks xs) g = see-kids T s p n h ks xs g (noop_unary h) refl

  see-kids : (T : Tables) (s : List ℕ) (p n : ℕ) (h : Head) (ks xs : Exprs) → Stands (node h ks xs) s p n → (b : Bool) → noop_unary h ≡ b
      → raws T (node h ks xs) ≡ raws T (through_first ks b (node h ks xs))
  see-kids T s p n h none xs g b e = refl
  see-kids T s p n h (more c cs) xs g false e = refl
  see-kids T s p n h (more c none) none g true e =
      let t = eqb-true h.tag 3 (and-true (eqb h.tag 3) (eqb h.arg 0) e).0 in
      let i = inner s p n h (more c none) none t g in
      noop-raws T h c t ∙ see-through T s (p + 8) n c (subst (λ x. Stands x s (p + 8) n) (head-eq i.kids) i.stands)
  see-kids T s p n h (more c (more d ds)) xs g true e =
      let t = eqb-true h.tag 3 (and-true (eqb h.tag 3) (eqb h.arg 0) e).0 in
      let i = inner s p n h (more c (more d ds)) xs t g in
      let z : count (more c (more d ds)) ≡ count (more i.c none) = ap count i.kids in absurd (omega arith)
  see-kids T s p n h (more c none) (more x xs) g true e =
      let t = eqb-true h.tag 3 (and-true (eqb h.tag 3) (eqb h.arg 0) e).0 in
      let i = inner s p n h (more c none) (more x xs) t g in
      let z : count (more x xs) ≡ count none = ap count i.items in absurd (omega arith)

-- what is left of a node once its own use is told
abbrev pub inside_of : Tables → Head → Exprs → Exprs → List Raw
inside_of T h ks xs =
    group T (handed (get_or count_width h.tag 0) h.tag) ks ++ (group T (handed 0 h.tag) xs ++ finish T (node h ks xs))

no_kids : (k : ℕ) (es : Exprs) → count es ≡ k → k ≡ 0 → es ≡ none
no_kids k none e z = refl
no_kids k (more c cs) e z = absurd (omega arith)

-- a leaf has no children
pub leaf-empty : (s : List ℕ) (p n : ℕ) (h : Head) (ks xs : Exprs) → Stands (node h ks xs) s p n → get_or fixed_count h.tag 0 ≡ 0 → get_or count_width h.tag 0 ≡ 0
    → (ks ≡ none) × (xs ≡ none)
unfolding Stands
leaf-empty s p n h ks xs g f c = (no_kids _ ks g.3 f, no_kids _ xs g.5 (ap (λ k. number_in s k g.0) c))

-- a node with the hand-over that follows it: its own use, the hand-over of a leaf, and the rest
opened-leaf : (T : Tables) (b : Bool) (h : Head) (k : ℕ) → h.tag ≡ k → (k ≡ 1) ⊎ (k ≡ 2)
    → raws T (node h none none) ++ cond b (hand_head T h) [] ≡ leaf_of T b h.tag h.arg h.span ++ inside_of T h none none
unfolding raws group finish handed takes count_width
opened-leaf T true h k t (inl e) = rw (t, e) (sym (append-nil (leaf T true h.arg h.span)))
opened-leaf T true h k t (inr e) = rw (t, e) (sym (append-nil (leaf T true 0 h.span)))
opened-leaf T false h k t (inl e) = rw (t, e) refl
opened-leaf T false h k t (inr e) = rw (t, e) refl

opened-other : (T : Tables) (b : Bool) (h : Head) (ks xs : Exprs) → eqb h.tag 1 ≡ false → eqb h.tag 2 ≡ false
    → raws T (node h ks xs) ++ cond b (hand_head T h) [] ≡ leaf_of T b h.tag h.arg h.span ++ inside_of T h ks xs
unfolding raws
opened-other T true h ks xs e1 e2 = rw (e1, e2) (append-nil (inside_of T h ks xs))
opened-other T false h ks xs e1 e2 = rw (e1, e2) (append-nil (inside_of T h ks xs))

opened-node : (T : Tables) (s : List ℕ) (p n : ℕ) (b : Bool) (h : Head) (ks xs : Exprs) → Stands (node h ks xs) s p n
    → raws T (node h ks xs) ++ cond b (hand_head T h) [] ≡ leaf_of T b h.tag h.arg h.span ++ inside_of T h ks xs
unfolding fixed_count count_width
opened-node T s p n b h ks xs g =
    ⊎_elim (λ e. let t = eqb-true h.tag 1 e in at_leaf 1 t (inl refl) (leaf-empty s p n h ks xs g (rw t refl) (rw t refl)))
    (λ e1. ⊎_elim (λ e. let t = eqb-true h.tag 2 e in at_leaf 2 t (inr refl) (leaf-empty s p n h ks xs g (rw t refl) (rw t refl)))
    (λ e2. opened-other T b h ks xs e1 e2) (split (eqb h.tag 2))) (split (eqb h.tag 1))
  where
    at_leaf : (k : ℕ) → h.tag ≡ k → (k ≡ 1) ⊎ (k ≡ 2) → (ks ≡ none) × (xs ≡ none)
        → raws T (node h ks xs) ++ cond b (hand_head T h) [] ≡ leaf_of T b h.tag h.arg h.span ++ inside_of T h ks xs
    at_leaf k t o z = rw (z.0, z.1) (opened-leaf T b h k t o)

-- the head's use, as the bytes say it
leaf-head : (T : Tables) (s : List ℕ) (b : Bool) (r u : ℕ) (h : Head) → HeadStands h s r u
    → leaf_of T b (get_or s r 0) (two s (r + 7)) (four s (r + 1)) ≡ leaf_of T b h.tag h.arg h.span
leaf-head T s b r u h g =
    ap (λ x. leaf_of T b x (two s (r + 7)) (four s (r + 1))) g.tag
    ∙ ap (λ x. leaf_of T b h.tag (two s (r + 7)) x) g.span
    ∙ ⊎_elim (λ e. ap (λ x. leaf_of T b h.tag x h.span) (sym (name-at s r u h g (inl (eqb-true h.tag 1 e))))) (λ e. rw e refl) (split (eqb h.tag 1))

-- a child that stands at p, looked through at r: what is told there, and the rest
pub opened : (T : Tables) (s : List ℕ) (b : Bool) (p r n : ℕ) (e : Expr) (h : Head) (ks xs : Exprs) → Stands e s p n → Stands (through e) s r n → through e ≡ node h ks xs
    → raws T e ++ hand_if T b e ≡ leaf_of T b (get_or s r 0) (two s (r + 7)) (four s (r + 1)) ++ inside_of T h ks xs
opened T s b p r n e h ks xs g st v =
    let sn : Stands (node h ks xs) s r n = subst (λ x. Stands x s r n) v st in
    let w = head_at s r n (node h ks xs) sn in
    ap (λ x. x ++ hand_if T b e) (see-through T s p n e g)
    ∙ ap (λ x. raws T x ++ cond b (hand_head T (head_of x)) []) v
    ∙ opened-node T s r n b h ks xs sn
    ∙ ap (λ x. x ++ inside_of T h ks xs) (sym (leaf-head T s b r w.0 h w.1))

pub regroup : (A B C R P X Y : List Raw) → A ++ B ≡ X ++ Y → ((A ++ (B ++ C)) ++ R) ++ P ≡ X ++ (Y ++ ((C ++ R) ++ P))
regroup A B C R P X Y e =
    let z = simp append_assoc at (ap (λ l. l ++ (C ++ (R ++ P))) e) in
    simp append_assoc z
