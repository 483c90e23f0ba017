-- Laws of the numbers of states.
-- Assumes nothing.
use Prim.Native.Nat.{ℕ, zero, suc, ◌<◌}
use mathlib.Core.Path.{◌≡◌, refl, sym, ap, ◌∙◌, subst}
use mathlib.Core.Bool.{Bool, true, false, cond, not, ◌&&◌, ◌||◌, beq}
use mathlib.Core.List.{List}
use mathlib.Core.Logic.{⊎_elim}
use borrow.Author.Tests.{ltb-true, eqb-true, eqb-false, ne_eqb}
use native.Mathlib.Omega.{arith}
use lib.Dec.{eqb, ltb, T as So}
use Rattle.image_fields.proofs.Tests.{split}
use Rattle.rules.proofs.Bools.{and_l, and_r, yes≡}
use Rattle.rules.specs.State.{Kind, deleted, moved, consumed, State, alive, gone, kind_eq, places_eq, combine, join_kind, join_state}
use Rattle.scope_state.specs.Kinds.{kind_of, said, conditional, family}

-- a test of every number below n
abbrev all_below : ℕ → (ℕ → Bool) → Bool
all_below zero p = true
all_below (suc n) p = p n && all_below n p

below_at : (n : ℕ) (p : ℕ → Bool) → So (all_below n p) → (k : ℕ) → k < n → So (p k)
below_at zero p t k h = absurd (omega arith)
below_at (suc n) p t k h =
    ⊎_elim
    (λ (e : eqb k n ≡ true). subst (λ (x : ℕ). So (p x)) (sym (eqb-true k n e)) (and_l (p n) (all_below n p) t))
    (λ (e : eqb k n ≡ false). let ne : k ≡ n → ⊥ = eqb-false k n e in below_at n p (and_r (p n) (all_below n p) t) k (below k n h ne))
    (split (eqb k n))
  where
    below : (a c : ℕ) → a < suc c → (a ≡ c → ⊥) → a < c
    below a c l n = omega arith

kind-eq : (a b : Kind) → So (kind_eq a b) → a ≡ b
kind-eq deleted deleted t = refl
kind-eq deleted moved t = absurd t
kind-eq deleted consumed t = absurd t
kind-eq moved deleted t = absurd t
kind-eq moved moved t = refl
kind-eq moved consumed t = absurd t
kind-eq consumed deleted t = absurd t
kind-eq consumed moved t = absurd t
kind-eq consumed consumed t = refl

bool_eq : (a b : Bool) → So (beq a b) → a ≡ b
bool_eq true true t = refl
bool_eq true false t = absurd t
bool_eq false true t = absurd t
bool_eq false false t = refl

-- a test of every two given-up states
abbrev given2 : (ℕ → ℕ → Bool) → Bool
given2 p = all_below 7 (λ x. all_below 7 (λ y. eqb x 0 || (eqb y 0 || p x y)))

given-at : (p : ℕ → ℕ → Bool) → So (given2 p) → (a b : ℕ) → 0 < a → a < 7 → 0 < b → b < 7 → So (p a b)
given-at p t a b pa la pb lb =
    let na : a ≡ 0 → ⊥ = λ e. omega arith in
    let nb : b ≡ 0 → ⊥ = λ e. omega arith in
    rw (ne_eqb a 0 na, ne_eqb b 0 nb) at
    (below_at 7 (λ y. eqb a 0 || (eqb y 0 || p a y)) (below_at 7 (λ x. all_below 7 (λ y. eqb x 0 || (eqb y 0 || p x y))) t a la) b lb)

not_so : (b : Bool) → So (not b) → b ≡ false
not_so true t = absurd t
not_so false t = refl

said-gone : (k : ℕ) → eqb k 0 ≡ false → (ps : List ℕ) → said k ps ≡ gone (ltb 3 k) (kind_of k) ps
said-gone k e ps = ap (λ (b : Bool). cond b alive (gone (ltb 3 k) (kind_of k) ps)) e

-- a test of every two given-up states, for either answer
given-for : (p : Bool → ℕ → ℕ → Bool) → So (given2 (p true)) → So (given2 (p false)) → (w : Bool) (a b : ℕ) → 0 < a → a < 7 → 0 < b → b < 7 → So (p w a b)
given-for p t f true = given-at (p true) t
given-for p t f false = given-at (p false) f

module _ (w : Bool) (a b : ℕ) (pa : 0 < a) (la : a < 7) (pb : 0 < b) (lb : b < 7) where
  family-kind : join_kind (kind_of a) (kind_of b) ≡ kind_of (family w a b)
  family-kind =
      kind-eq (join_kind (kind_of a) (kind_of b)) (kind_of (family w a b))
      (given-for (λ v x y. kind_eq (join_kind (kind_of x) (kind_of y)) (kind_of (family v x y))) tt tt w a b pa la pb lb)

  family-conditional : ltb 3 (family w a b) ≡ (w && ltb 3 a && ltb 3 b && kind_eq (kind_of a) (kind_of b))
  family-conditional =
      bool_eq (ltb 3 (family w a b)) (w && ltb 3 a && ltb 3 b && kind_eq (kind_of a) (kind_of b))
      (given-for (λ v x y. beq (ltb 3 (family v x y)) (v && ltb 3 x && ltb 3 y && kind_eq (kind_of x) (kind_of y))) tt tt w a b pa la pb lb)

  pub family-given : eqb (family w a b) 0 ≡ false
  family-given = not_so (eqb (family w a b) 0) (given-for (λ v x y. not (eqb (family v x y) 0)) tt tt w a b pa la pb lb)

  pub family-known : family w a b < 7
  family-known = ltb-true (family w a b) 7 (yes≡ (ltb (family w a b) 7) (given-for (λ v x y. ltb (family v x y) 7) tt tt w a b pa la pb lb))

  same_kind : (beq (ltb 3 a) (ltb 3 b) && kind_eq (kind_of a) (kind_of b)) ≡ eqb a b
  same_kind =
      bool_eq (beq (ltb 3 a) (ltb 3 b) && kind_eq (kind_of a) (kind_of b)) (eqb a b)
      (given-at (λ x y. beq (beq (ltb 3 x) (ltb 3 y) && kind_eq (kind_of x) (kind_of y)) (eqb x y)) tt a b pa la pb lb)

  -- merge_join_state of two given-up states
  pub join-given : (ps qs : List ℕ)
      → join_state w (said a ps) (said b qs) ≡ cond (eqb a b && places_eq ps qs) (said a ps) (said (family w a b) (combine ps qs))
  join-given ps qs =
      let na : a ≡ 0 → ⊥ = λ e. omega arith in
      let nb : b ≡ 0 → ⊥ = λ e. omega arith in
      let ea = said-gone a (ne_eqb a 0 na) ps in
      let c = w && ltb 3 a && ltb 3 b && kind_eq (kind_of a) (kind_of b) in
      ap (λ (x : State). join_state w x (said b qs)) ea
      ∙ ap (λ (y : State). join_state w (gone (ltb 3 a) (kind_of a) ps) y) (said-gone b (ne_eqb b 0 nb) qs)
      ∙ ap (λ (t : Bool). cond (t && places_eq ps qs) (gone (ltb 3 a) (kind_of a) ps) (gone c (join_kind (kind_of a) (kind_of b)) (combine ps qs))) same_kind
      ∙ ap (λ (x : State). cond (eqb a b && places_eq ps qs) x (gone c (join_kind (kind_of a) (kind_of b)) (combine ps qs))) (sym ea)
      ∙ ap (λ (k : Kind). cond (eqb a b && places_eq ps qs) (said a ps) (gone c k (combine ps qs))) family-kind
      ∙ ap (λ (t : Bool). cond (eqb a b && places_eq ps qs) (said a ps) (gone t (kind_of (family w a b)) (combine ps qs))) (sym family-conditional)
      ∙ ap (λ (x : State). cond (eqb a b && places_eq ps qs) (said a ps) x) (sym (said-gone (family w a b) family-given (combine ps qs)))

-- a join with what is Alive
pub join-then : (w : Bool) (k : ℕ) (ps : List ℕ) → k < 7 → join_state w alive (said k ps) ≡ said (conditional k) ps
join-then w zero ps h = refl
join-then w (suc zero) ps h = refl
join-then w (suc (suc zero)) ps h = refl
join-then w (suc (suc (suc zero))) ps h = refl
join-then w (suc (suc (suc (suc zero)))) ps h = refl
join-then w (suc (suc (suc (suc (suc zero))))) ps h = refl
join-then w (suc (suc (suc (suc (suc (suc zero)))))) ps h = refl
join-then w (suc (suc (suc (suc (suc (suc (suc k))))))) ps h = absurd (omega arith)

pub join-else : (w : Bool) (k : ℕ) (ps : List ℕ) → k < 7 → join_state w (said k ps) alive ≡ join_state w alive (said k ps)
join-else w zero ps h = refl
join-else w (suc zero) ps h = refl
join-else w (suc (suc zero)) ps h = refl
join-else w (suc (suc (suc zero))) ps h = refl
join-else w (suc (suc (suc (suc zero)))) ps h = refl
join-else w (suc (suc (suc (suc (suc zero))))) ps h = refl
join-else w (suc (suc (suc (suc (suc (suc zero)))))) ps h = refl
join-else w (suc (suc (suc (suc (suc (suc (suc k))))))) ps h = absurd (omega arith)

pub conditional-given : (k : ℕ) → k < 7 → eqb (conditional k) 0 ≡ eqb k 0
conditional-given k h =
    bool_eq (eqb (conditional k) 0) (eqb k 0) (below_at 7 (λ x. beq (eqb (conditional x) 0) (eqb x 0)) tt k h)

pub conditional-known : (k : ℕ) → k < 7 → conditional k < 7
conditional-known k h = ltb-true (conditional k) 7 (yes≡ (ltb (conditional k) 7) (below_at 7 (λ x. ltb (conditional x) 7) tt k h))

pub not-not : (b : Bool) → b ≡ not (not b)
not-not true = refl
not-not false = refl
