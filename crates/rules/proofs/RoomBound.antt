-- What the insertions add is within document 01's bound.
-- Assumes nothing.
use Rattle.std.proofs.Common.{◌≡◌, ℕ, suc, ◌+◌, ◌*◌, ◌≤◌, Bool, true, false, cond, ◌&&◌, eqb, List, [], ◌∷◌, length, sym, refl, ap, ◌∙◌, subst, arith, le→leb}
use mathlib.Core.Option.{Option, none, some}
use Rattle.tables.specs.Signature.{Param, Entry}
use Rattle.tables.specs.Tables.{Tables}
use Rattle.image_body.specs.Stmt.{Tree, Block, done, expr_stmt, variable, assign, return, bare_return, block, if_else, if_then, while, jump}
use Rattle.rules.specs.Questions.{auto}
use Rattle.rules.specs.Expr.{ty_of, view, Named, nobody, called, ident_in, name_in, is_call}
use Rattle.rules.specs.Stack.{Static, Local, local, Stack, Shape, shape, lookup}
use Rattle.rules.specs.Effects.{effects, expr_stmt_effects, assign_effects}
use Rattle.rules.specs.Rules.{Alg, states, Drop, drop_of, sure_from, locals_of, register, joins, merge, collect, drop_newest, drop_named, evaluate, after_expr, after_variable, before_assign, after_assign, exit, decide, entered, decide_in, decide_body, declared, given, Switches, Policy, concerns, at_end, at_return, at_bare_return, at_jump, at_assign, end_drops}
use Rattle.rules.specs.Room.{added, size_of, regs_of, room_bound}
use Rattle.rules.proofs.Bools.{no≡, of-false, leb-refl, below≢}
use Rattle.rules.proofs.Sound.{Own, Proper}
use Rattle.rules.proofs.Project.{switched}
use Rattle.rules.proofs.Shapes.{Within, within-suc, shape-frame, shape-doing, shape-joins, shape-merge, shape-assign, shape-variable, shape-inner}

-- how many locals are asked for
abbrev asked : (Static → Bool) → Shape → ℕ
asked q [] = 0
asked q (s ∷ Γ) = cond (q s) (suc (asked q Γ)) (asked q Γ)

one_more : (c : Bool) (k : ℕ) → cond c (suc k) k ≤ suc k
one_more true k = omega arith
one_more false k = omega arith

asked-le : (q : Static → Bool) (Γ : Shape) → asked q Γ ≤ length Γ
asked-le q [] = omega arith
asked-le q (s ∷ Γ) = let h = one_more (q s) (asked q Γ) in let ih = asked-le q Γ in omega arith

-- a block's end asks for no local of the frames outside it
none-asked : (𝓟 : Policy) (d : ℕ) (Γ : Shape) → Own 𝓟 (suc d) → Within d Γ → asked (𝓟 (at_end (suc d))) Γ ≡ 0
none-asked 𝓟 d [] own w = refl
none-asked 𝓟 d (s ∷ Γ) own w =
    ap (λ (b : Bool). cond b (suc (asked (𝓟 (at_end (suc d))) Γ)) (asked (𝓟 (at_end (suc d))) Γ))
    (no≡ (𝓟 (at_end (suc d)) s) λ t. of-false (eqb s.depth (suc d)) (below≢ s.depth d w.0) (own s t))
    ∙ none-asked 𝓟 d Γ own w.1

module _ {A : Type 0} (𝓐 : Alg A) (T : Tables) (𝓟 : Policy) (proper : Proper 𝓟) where
  collect-cond : (c l u : Bool) (p n t : ℕ) (x : List Drop) (k : ℕ) → length x ≤ k → length (cond (c && l && u) (drop_of p n t ∷ x) x) ≤ cond c (suc k) k
  collect-cond true true true p n t x k h = omega arith
  collect-cond true true false p n t x k h = omega arith
  collect-cond true false u p n t x k h = omega arith
  collect-cond false l u p n t x k h = h

  collect-asked : (q : Static → Bool) (p : ℕ) (σ : Stack A) → length (collect 𝓐 T q p σ) ≤ asked q (shape σ)
  collect-asked q p [] = omega arith
  collect-asked q p (local s a ∷ σ) = collect-cond (q s) (𝓐.lives a) (auto T s.ty) p s.name s.ty (collect 𝓐 T q p σ) (asked q (shape σ)) (collect-asked q p σ)

  collect-le : (q : Static → Bool) (p : ℕ) (σ : Stack A) (Γ : Shape) → shape σ ≡ Γ → length (collect 𝓐 T q p σ) ≤ length Γ
  collect-le q p σ Γ e =
      let h = collect-asked q p σ in
      let h' = asked-le q (shape σ) in
      subst (λ (Δ : Shape). length (collect 𝓐 T q p σ) ≤ length Δ) e (omega arith)

  flag-le : (f : Bool) (x : List Drop) (k : ℕ) → length x ≤ k → length (cond f [] x) ≤ k
  flag-le true x k h = omega arith
  flag-le false x k h = h

  one-le : (c : Bool) (p n t : ℕ) → length (cond c (drop_of p n t ∷ []) []) ≤ 1
  one-le true p n t = omega arith
  one-le false p n t = omega arith

  newest-le : (q : Static → Bool) (p n : ℕ) (l : Option (Local A)) → length (drop_newest 𝓐 T q p n l) ≤ 1
  newest-le q p n none = omega arith
  newest-le q p n (some (local s a)) = one-le (q s && 𝓐.lives a && auto T s.ty) p n s.ty

  assign-le : (q : Static → Bool) (p : ℕ) (m : Named) (σ : Stack A) → length (drop_named 𝓐 T q p m σ) ≤ 1
  assign-le q p nobody σ = omega arith
  assign-le q p (called n s) σ = newest-le q p n (lookup n σ)

  wrap-le : (y : Bool) → cond y 7 0 ≤ 21
  wrap-le true = omega arith
  wrap-le false = omega arith

  abbrev Bound : ℕ → Shape → Tree → ℕ
  Bound d Γ c = 21 * (asked (𝓟 (at_end d)) Γ + regs_of c) + 21 * (size_of c * (length Γ + regs_of c + 1))

  inner-own : (d : ℕ) → 1 ≤ d → Own 𝓟 (suc d)
  inner-own d o = proper.inner (suc d) (le→leb 2 (suc d) (omega arith))

  added-le : (c : Tree) (p d : ℕ) (l : Option ℕ) (f : Bool) (σ : Stack A) (Γ : Shape) → 1 ≤ d → shape σ ≡ Γ → Within d Γ → added (decide 𝓐 T 𝓟 c p d l f σ) ≤ Bound d Γ c
  added-le (done x) p d l f σ Γ o e w =
      let h = flag-le f (end_drops 𝓐 T 𝓟 d p σ) (asked (𝓟 (at_end d)) Γ) (subst (λ (Δ : Shape). length (end_drops 𝓐 T 𝓟 d p σ) ≤ asked (𝓟 (at_end d)) Δ) e (collect-asked (𝓟 (at_end d)) p σ)) in
      omega arith
  added-le (expr_stmt s e y r) p d l f σ Γ o g w =
      let ih = added-le r p d l false (after_expr 𝓐 T e σ) Γ o (shape-doing 𝓐 (λ Γ. expr_stmt_effects T Γ e) σ ∙ g) w in
      let h = wrap-le (auto T (ty_of e) && is_call (view e)) in
      omega arith
  added-le (variable k s n t e r) p d l f σ Γ o g w =
      let ih = added-le r p d l false (after_variable 𝓐 T (declared d s n t) e σ) (declared d s n t ∷ Γ) o
      (shape-variable 𝓐 T (declared d s n t) e σ ∙ ap (λ (Δ : Shape). declared d s n t ∷ Δ) g) (leb-refl d, w) in
      let h = one_more (𝓟 (at_end d) (declared d s n t)) (asked (𝓟 (at_end d)) Γ) in
      omega arith
  added-le (assign s e v t x r) p d l f σ Γ o g w =
      let ih = added-le r p d l false (after_assign 𝓐 T e v (before_assign 𝓐 T e v σ)) Γ o (shape-assign 𝓐 T e v (before_assign 𝓐 T e v σ) ∙ (shape-doing 𝓐 (λ Γ. assign_effects T Γ e v) σ ∙ g)) w in
      let h = assign-le (𝓟 (at_assign (ident_in (view e)))) s (ident_in (view e)) (before_assign 𝓐 T e v σ) in
      omega arith
  added-le (return s e t x r) p d l f σ Γ o g w =
      let q = shape-doing 𝓐 (λ Γ. effects T Γ e) σ ∙ g in
      let ih = added-le r p d l true (evaluate 𝓐 T e σ) Γ o q w in
      let h = collect-le (𝓟 (at_return (name_in (view e)))) 0 (evaluate 𝓐 T e σ) Γ q in
      omega arith
  added-le (bare_return s t x r) p d l f σ Γ o g w =
      let ih = added-le r p d l true σ Γ o g w in
      let h = collect-le (𝓟 at_bare_return) 0 σ Γ g in
      omega arith
  added-le (block s c r) p d l f σ Γ o g w =
      let z = none-asked 𝓟 d Γ (inner-own d o) w in
      let ih = added-le c s (suc d) l false σ Γ (omega arith) g (within-suc d Γ w) in
      let ih' = added-le r p d l (sure_from c false) (exit 𝓐 T c (suc d) σ) Γ o (shape-inner 𝓐 T c d σ (subst (λ (Δ : Shape). Within d Δ) (sym g) w) ∙ g) w in
      omega arith
  added-le (if_else s e ts t us u r) p d l f σ Γ o g w =
      let σ' = evaluate 𝓐 T e σ in
      let q : shape σ' ≡ Γ = shape-doing 𝓐 (λ Γ. effects T Γ e) σ ∙ g in
      let w' = subst (λ (Δ : Shape). Within d Δ) (sym q) w in
      let z = none-asked 𝓟 d Γ (inner-own d o) w in
      let ih = added-le t ts (suc d) l false σ' Γ (omega arith) q (within-suc d Γ w) in
      let ih' = added-le u us (suc d) l false σ' Γ (omega arith) q (within-suc d Γ w) in
      let ih'' = added-le r p d l (sure_from t false && sure_from u false) (merge 𝓐 (sure_from t false) (sure_from u false) σ' (exit 𝓐 T t (suc d) σ') (exit 𝓐 T u (suc d) σ')) Γ o
      (shape-merge 𝓐 (sure_from t false) (sure_from u false) σ' (exit 𝓐 T t (suc d) σ') (exit 𝓐 T u (suc d) σ') Γ q (shape-inner 𝓐 T t d σ' w' ∙ q) (shape-inner 𝓐 T u d σ' w' ∙ q)) w in
      omega arith
  added-le (if_then s e ts t r) p d l f σ Γ o g w =
      let σ' = evaluate 𝓐 T e σ in
      let q : shape σ' ≡ Γ = shape-doing 𝓐 (λ Γ. effects T Γ e) σ ∙ g in
      let w' = subst (λ (Δ : Shape). Within d Δ) (sym q) w in
      let z = none-asked 𝓟 d Γ (inner-own d o) w in
      let ih = added-le t ts (suc d) l false σ' Γ (omega arith) q (within-suc d Γ w) in
      let ih'' = added-le r p d l false (merge 𝓐 (sure_from t false) false σ' (exit 𝓐 T t (suc d) σ') σ') Γ o
      (shape-merge 𝓐 (sure_from t false) false σ' (exit 𝓐 T t (suc d) σ') σ' Γ q (shape-inner 𝓐 T t d σ' w' ∙ q) q) w in
      omega arith
  added-le (while s e ts t r) p d l f σ Γ o g w =
      let σ' = evaluate 𝓐 T e σ in
      let q : shape σ' ≡ Γ = shape-doing 𝓐 (λ Γ. effects T Γ e) σ ∙ g in
      let w' = subst (λ (Δ : Shape). Within d Δ) (sym q) w in
      let z = none-asked 𝓟 d Γ (inner-own d o) w in
      let ih = added-le t ts (suc d) (some (suc d)) false σ' Γ (omega arith) q (within-suc d Γ w) in
      let ih'' = added-le r p d l false (joins 𝓐 (exit 𝓐 T t (suc d) σ') σ') Γ o (shape-joins 𝓐 (exit 𝓐 T t (suc d) σ') σ' ∙ (shape-inner 𝓐 T t d σ' w' ∙ q)) w in
      omega arith
  added-le (jump k s x r) p d l f σ Γ o g w =
      let ih = added-le r p d l false σ Γ o g w in
      let h = collect-le (𝓟 (at_jump l)) 0 σ Γ g in
      omega arith

  entered-within : (ps : List Param) (σ : Stack A) → Within 0 (shape σ) → Within 0 (shape (entered 𝓐 T ps σ))
  entered-within [] σ w = w
  entered-within (s ∷ ss) σ w = entered-within ss (register 𝓐 (given s) σ) (leb-refl 0, subst (λ (Δ : Shape). Within 0 Δ) (sym (shape-frame s.name 0 (λ a. 𝓐.new) σ)) w)

  entered-length : (ps : List Param) (σ : Stack A) → length (shape (entered 𝓐 T ps σ)) ≡ length ps + length (shape σ)
  entered-length [] σ = omega arith
  entered-length (s ∷ ss) σ =
      let ih = entered-length ss (register 𝓐 (given s) σ) in
      let h = ap length (shape-frame s.name 0 (λ a. 𝓐.new) σ) in
      omega arith

  room_in : (params : List Param) (p : ℕ) (body : Tree) → added (decide_in 𝓐 T 𝓟 params p body) ≤ 21 * ((size_of body + 1) * (regs_of body + length params + 1))
  room_in params p body =
      let Γ = shape (entered 𝓐 T params []) in
      let w = entered-within params [] tt in
      let z = asked-le (𝓟 (at_end 1)) Γ in
      let l = entered-length params [] in
      let h = added-le body p 1 none false (entered 𝓐 T params []) Γ (omega arith) refl (within-suc 0 Γ w) in
      let b : 21 * (length Γ + regs_of body) + 21 * (size_of body * (length Γ + regs_of body + 1)) ≤ 21 * ((size_of body + 1) * (regs_of body + length params + 1)) =
      subst (λ (k : ℕ). 21 * (k + regs_of body) + 21 * (size_of body * (k + regs_of body + 1)) ≤ 21 * ((size_of body + 1) * (regs_of body + length params + 1))) (sym l)
      (omega arith) in
      omega arith

-- document 01's bound on the room, under every setting of the switches and for every body: 21 × (statements in all blocks + 1) × (registrations + 1)
pub room : (w : Switches) (T : Tables) (x : Entry) (b : Block) → added (decide_body w T x b) ≤ room_bound x b
room w T x b = room_in (states w) T (concerns w) (switched w) (locals_of x) b.span b.code
