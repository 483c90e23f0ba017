-- What a type answers, one step after the other.
-- Assumes nothing.
use Rattle.std.proofs.Common.{◌≡◌, ℕ, zero, suc, ◌+◌, ◌<◌, ◌≤◌, Bool, true, false, cond, eqb, List, map, length, get_or, sym, refl, ap, ◌∙◌, subst, ⊎_elim, arith, eq-eqb, ne_eqb, eqb-true}
use mathlib.Core.Option.{Option, none, some}
use lib.ListN.{length-map, get_or-eq_default}
use Rattle.image_fields.specs.Number.{two}
use Rattle.image_fields.proofs.Tests.{split}
use Rattle.tables.specs.Ty.{Ty, of_width, shape_width, type_in}
use Rattle.tables.specs.Signature.{Struct, struct_in}
use Rattle.tables_lookup.specs.First.{first_from, or_else, is_number}
use Rattle.tables_lookup.specs.Ty.{type_no, struct_no, Lower, inside, innermost, struct_named, struct_shaped, struct_of_generic, struct_of_ty, struct_of, has_destructor, should_auto_delete, class_of_ty, class_of}
use Rattle.tables_lookup.proofs.First.{first-map, first_below, viewed}

-- inside types of a kind
module _ (kind : ℕ) (types : List Ty) where
  module _ (low : Lower types) (le : 3 ≤ kind) where
    lower : (t : ℕ) → (type_no types t).kind ≡ kind → (type_no types t).of < t
    lower t e = low t (omega arith)

    -- the number of the type is levels enough
    enough : (m n t : ℕ) → t < m → t < n → inside kind types m t ≡ inside kind types n t
    unfolding inside
    enough zero n t l r = absurd (omega arith)
    enough (suc m) zero t l r = absurd (omega arith)
    enough (suc m) (suc n) t l r =
        ⊎_elim
        (λ e.
        let g : (type_no types t).of < t = lower t (eqb-true _ _ e) in
        rw e (enough m n (type_no types t).of (omega arith) (omega arith)))
        (λ e. rw e)
        (split (eqb (type_no types t).kind kind))

    pub innermost-in : (t : ℕ) → (type_no types t).kind ≡ kind → innermost kind types t ≡ innermost kind types (type_no types t).of
    unfolding inside
    innermost-in t e =
        let g : (type_no types t).of < t = lower t e in
        rw (eq-eqb _ _ e) (ap (type_no types) (enough t (suc (type_no types t).of) (type_no types t).of g (omega arith)))

  pub innermost-here : (t : ℕ) → ((type_no types t).kind ≡ kind → ⊥) → innermost kind types t ≡ type_no types t
  unfolding inside
  innermost-here t n = rw (ne_eqb _ _ n)

-- an inline array asks the question of its inner type (mod.rs: HirTy::InlineArray), a pointer's class is that of what it points to
pub array-asks-inner : (types : List Ty) (structs : List Struct) → Lower types → (t : ℕ) → (type_no types t).kind ≡ 3
    → struct_of types structs t ≡ struct_of types structs (type_no types t).of
unfolding struct_of
array-asks-inner types structs low t e = ap (struct_of_ty structs) (innermost-in 3 types low (omega arith) t e)

pub pointer-asks-inner : (types : List Ty) → Lower types → (t : ℕ) → (type_no types t).kind ≡ 4
    → class_of types t ≡ class_of types (type_no types t).of
unfolding class_of
pointer-asks-inner types low t e = ap class_of_ty (innermost-in 4 types low (omega arith) t e)

-- the other kinds answer at once
module _ (types : List Ty) (t : ℕ) where
  pub struct-here : (structs : List Struct) → ((type_no types t).kind ≡ 3 → ⊥) → struct_of types structs t ≡ struct_of_ty structs (type_no types t)
  unfolding struct_of
  struct-here structs n = ap (struct_of_ty structs) (innermost-here 3 types t n)

  pub class-here : ((type_no types t).kind ≡ 4 → ⊥) → class_of types t ≡ class_of_ty (type_no types t)
  unfolding class_of
  class-here n = ap class_of_ty (innermost-here 4 types t n)

module _ (structs : List Struct) (t : Ty) where
  pub named-struct : t.kind ≡ 1 → struct_of_ty structs t ≡ struct_named t.of structs
  unfolding struct_of_ty
  named-struct e = rw e

  pub generic-struct : t.kind ≡ 2 → struct_of_ty structs t ≡ struct_of_generic t.of t.shape structs
  unfolding struct_of_ty
  generic-struct e = rw e

  pub no-struct : (t.kind ≡ 1 → ⊥) → (t.kind ≡ 2 → ⊥) → struct_of_ty structs t ≡ none
  unfolding struct_of_ty
  no-struct a b = rw (ne_eqb _ _ a, ne_eqb _ _ b)

pub named-class : (t : Ty) → t.kind ≡ 1 → class_of_ty t ≡ some t.of
unfolding class_of_ty
named-class t e = rw e

pub no-class : (t : Ty) → (t.kind ≡ 1 → ⊥) → class_of_ty t ≡ none
unfolding class_of_ty
no-class t n = rw (ne_eqb _ _ n)

-- the type in the bytes
module _ (s starts : List ℕ) (t : ℕ) where
  pub past-types : length starts ≤ t → type_no (map (type_in s) starts) t ≡ record { kind = 0; of = 0; shape = 0 }
  past-types le = get_or-eq_default (map (type_in s) starts) _ (simp length-map le)

  module _ (lt : t < length starts) {k : ℕ} (e : k ≡ get_or s (get_or starts t 0) 0) where
    pub kind-is : (type_no (map (type_in s) starts) t).kind ≡ k
    kind-is = ap (λ x. x.kind) (viewed (type_in s) starts t _ lt) ∙ sym e

    pub of_is : get_or of_width k 0 ≡ 2 → (type_no (map (type_in s) starts) t).of ≡ two s (get_or starts t 0 + 1)
    of_is w = ap (λ x. x.of) (viewed (type_in s) starts t _ lt) ∙ rw (← e, w)

    pub shape_is : get_or of_width k 0 ≡ 2 → get_or shape_width k 0 ≡ 2 → (type_no (map (type_in s) starts) t).shape ≡ two s (get_or starts t 0 + 3)
    shape_is w v =
        ap (λ x. x.shape) (viewed (type_in s) starts t _ lt)
        ∙ rw (← e, w, v) (ap (two s) (omega arith))

-- what the type in the bytes answers
module _ (s starts : List ℕ) (t : ℕ) where
  pub past-struct : (structs : List Struct) → length starts ≤ t → struct_of (map (type_in s) starts) structs t ≡ none
  past-struct structs le =
      let p = ap (λ x. x.kind) (past-types s starts t le) in
      struct-here (map (type_in s) starts) t structs (λ z. omega arith) ∙ no-struct structs _ (λ z. omega arith) (λ z. omega arith)

  pub past-class : length starts ≤ t → class_of (map (type_in s) starts) t ≡ none
  past-class le =
      let p = ap (λ x. x.kind) (past-types s starts t le) in
      class-here (map (type_in s) starts) t (λ z. omega arith) ∙ no-class _ (λ z. omega arith)

  module _ (lt : t < length starts) {at k o : ℕ} (p : at ≡ get_or starts t 0) (e : k ≡ get_or s at 0) (f : o ≡ two s (at + 1)) where
    first : k ≡ get_or s (get_or starts t 0) 0
    first = e ∙ ap (λ x. get_or s x 0) p

    kind : (type_no (map (type_in s) starts) t).kind ≡ k
    kind = kind-is s starts t lt first

    of : (j : ℕ) → k ≡ j → get_or of_width j 0 ≡ 2 → (type_no (map (type_in s) starts) t).of ≡ o
    of j g w = of_is s starts t lt first (ap (λ x. get_or of_width x 0) g ∙ w) ∙ sym (f ∙ ap (λ x. two s (x + 1)) p)

    module _ (low : Lower (map (type_in s) starts)) where
      pub inner-lower : (j : ℕ) → 3 ≤ j → k ≡ j → get_or of_width j 0 ≡ 2 → o < t
      inner-lower j le g w =
          let a = kind in
          subst (λ x. x < t) (of j g w) (low t (omega arith))

      pub array_of : (structs : List Struct) → k ≡ 3 → struct_of (map (type_in s) starts) structs t ≡ struct_of (map (type_in s) starts) structs o
      unfolding of_width
      array_of structs g =
          array-asks-inner (map (type_in s) starts) structs low t (kind ∙ g)
          ∙ ap (struct_of (map (type_in s) starts) structs) (of 3 g refl)

      pub pointer-of : k ≡ 4 → class_of (map (type_in s) starts) t ≡ class_of (map (type_in s) starts) o
      unfolding of_width
      pointer-of g = pointer-asks-inner (map (type_in s) starts) low t (kind ∙ g) ∙ ap (class_of (map (type_in s) starts)) (of 4 g refl)

    pub named-of : (structs : List Struct) → k ≡ 1 → struct_of (map (type_in s) starts) structs t ≡ struct_named o structs
    unfolding of_width
    named-of structs g =
        let a = kind in
        struct-here (map (type_in s) starts) t structs (λ z. omega arith) ∙ named-struct structs _ (kind ∙ g)
        ∙ ap (λ n. struct_named n structs) (of 1 g refl)

    pub generic-of : (structs : List Struct) {h : ℕ} → k ≡ 2 → h ≡ two s (at + 3)
        → struct_of (map (type_in s) starts) structs t ≡ struct_of_generic o h structs
    unfolding of_width shape_width
    generic-of structs g l =
        let a = kind in
        struct-here (map (type_in s) starts) t structs (λ z. omega arith) ∙ generic-struct structs _ (kind ∙ g)
        ∙ ap (λ n. struct_of_generic n (type_no (map (type_in s) starts) t).shape structs) (of 2 g refl)
        ∙ ap (λ n. struct_of_generic o n structs) (shape_is s starts t lt first (ap (λ x. get_or of_width x 0) g) (ap (λ x. get_or shape_width x 0) g) ∙ sym (l ∙ ap (λ x. two s (x + 3)) p))

    pub other-of : (structs : List Struct) → (k ≡ 3 → ⊥) → (k ≡ 1 → ⊥) → (k ≡ 2 → ⊥) → struct_of (map (type_in s) starts) structs t ≡ none
    other-of structs a b d =
        struct-here (map (type_in s) starts) t structs (λ z. a (sym kind ∙ z))
        ∙ no-struct structs _ (λ z. b (sym kind ∙ z)) (λ z. d (sym kind ∙ z))

    pub class-of : k ≡ 1 → class_of (map (type_in s) starts) t ≡ some o
    unfolding of_width
    class-of g =
        let a = kind in
        class-here (map (type_in s) starts) t (λ z. omega arith) ∙ named-class _ (kind ∙ g) ∙ ap some (of 1 g refl)

    pub no-class-of : (k ≡ 4 → ⊥) → (k ≡ 1 → ⊥) → class_of (map (type_in s) starts) t ≡ none
    no-class-of a b = class-here (map (type_in s) starts) t (λ z. a (sym kind ∙ z)) ∙ no-class _ (λ z. b (sym kind ∙ z))

-- structs in the bytes
module _ (s starts : List ℕ) (x : ℕ) where
  pub by_name : struct_named x (map (struct_in s) starts) ≡ first_from (λ at. is_number s x (at + 0)) 0 starts
  unfolding struct_named
  by_name = first-map _ (λ at. is_number s x (at + 0)) (struct_in s) (λ at. ap (λ p. is_number s x p) (omega arith)) 0 starts

  pub by_shape : (x ≡ 0 → ⊥) → struct_shaped x (map (struct_in s) starts) ≡ first_from (λ at. is_number s x (at + 3)) 0 starts
  unfolding struct_shaped
  by_shape n = rw (ne_eqb _ _ n) (first-map _ (λ at. is_number s x (at + 3)) (struct_in s) (λ at. refl) 0 starts)

-- a generic type: by name first
module _ (n k : ℕ) (structs : List Struct) where
  pub generic-named : {i : ℕ} → struct_named n structs ≡ some i → struct_of_generic n k structs ≡ some i
  unfolding struct_of_generic or_else
  generic-named e = rw e

  pub generic-shaped : struct_named n structs ≡ none → struct_of_generic n k structs ≡ struct_shaped k structs
  unfolding struct_of_generic or_else
  generic-shaped e = rw e

pub none-some : {A C : Type 0} {a : A} → ◌≡◌ {A = Option A} none (some a) → C
none-some e = let z : ◌≡◌ {A = ℕ} 0 1 = cc in absurd (omega arith)

-- a struct that is found is in the table
module _ (structs : List Struct) {i : ℕ} where
  pub named-below : (n : ℕ) → struct_named n structs ≡ some i → i < length structs
  unfolding struct_named
  named-below n e = let g : i < 0 + length structs = first_below _ 0 structs e in omega arith

  cond_below : (b : Bool) (x y : Option ℕ) → (x ≡ some i → i < length structs) → (y ≡ some i → i < length structs) → cond b x y ≡ some i → i < length structs
  cond_below true x y f g e = f e
  cond_below false x y f g e = g e

  shaped-below : (k : ℕ) → struct_shaped k structs ≡ some i → i < length structs
  unfolding struct_shaped
  shaped-below k e = cond_below (eqb k 0) none _ none-some (λ f. let g : i < 0 + length structs = first_below _ 0 structs f in omega arith) e

  or-below : (a b : Option ℕ) → (a ≡ some i → i < length structs) → (b ≡ some i → i < length structs) → or_else a b ≡ some i → i < length structs
  unfolding or_else
  or-below none b f g e = g e
  or-below (some j) b f g e = f e

  generic-below : (n k : ℕ) → struct_of_generic n k structs ≡ some i → i < length structs
  unfolding struct_of_generic
  generic-below n k e = or-below (struct_named n structs) (struct_shaped k structs) (named-below n) (shaped-below k) e

  of-below : (t : Ty) → struct_of_ty structs t ≡ some i → i < length structs
  unfolding struct_of_ty
  of-below t e =
      cond_below (eqb t.kind 1) _ _ (named-below t.of)
      (cond_below (eqb t.kind 2) _ none (generic-below t.of t.shape) none-some) e

  pub struct-below : (types : List Ty) (t : ℕ) → struct_of types structs t ≡ some i → i < length structs
  unfolding struct_of
  struct-below types t e = of-below (innermost 3 types t) e

-- the destructor question, of what was found
module _ (types : List Ty) (s starts : List ℕ) (t : ℕ) where
  pub found_in : {i : ℕ} → struct_of types (map (struct_in s) starts) t ≡ some i → i < length starts
  found_in {i} e = let g : i < length (map (struct_in s) starts) = struct-below (map (struct_in s) starts) types t e in simp length-map at g

  pub deletes : {i k : ℕ} → struct_of types (map (struct_in s) starts) t ≡ some i → k ≡ get_or s (get_or starts i 0 + 2) 0
      → eqb k 1 ≡ should_auto_delete types (map (struct_in s) starts) t
  unfolding should_auto_delete has_destructor
  deletes {i} {k} e f = rw e (ap (λ x. eqb x 1) (f ∙ sym (ap (λ x. x.destructor) (viewed (struct_in s) starts i _ (found_in e)))))

  pub keeps : (structs : List Struct) → struct_of types structs t ≡ none → false ≡ should_auto_delete types structs t
  unfolding should_auto_delete has_destructor
  keeps structs e = rw e

-- shape 0 matches none
pub shape-zero : (k : ℕ) (structs : List Struct) → k ≡ 0 → struct_shaped k structs ≡ none
unfolding struct_shaped
shape-zero k structs e = rw e

-- a generic type whose plain name's struct has no destructor is not deleted, whatever its shape
pub no-destructor : (types : List Ty) (structs : List Struct) (t i : ℕ) → (type_no types t).kind ≡ 2
    → struct_named (type_no types t).of structs ≡ some i → (struct_no structs i).destructor ≡ 0 → should_auto_delete types structs t ≡ false
unfolding should_auto_delete has_destructor
no-destructor types structs t i k e d =
    let f : struct_of types structs t ≡ some i =
    struct-here types t structs (λ z. absurd (omega arith)) ∙ generic-struct structs (type_no types t) k ∙ generic-named _ _ structs e
    in
    rw (f, d)

-- a pointer is not deleted
pub pointer-kept : (types : List Ty) (structs : List Struct) (t : ℕ) → (type_no types t).kind ≡ 4 → should_auto_delete types structs t ≡ false
unfolding should_auto_delete has_destructor
pointer-kept types structs t k =
    let f : struct_of types structs t ≡ none =
    struct-here types t structs (λ z. omega arith) ∙ no-struct structs (type_no types t) (λ z. omega arith) (λ z. omega arith)
    in
    rw f
