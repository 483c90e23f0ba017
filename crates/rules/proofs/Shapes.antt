-- The locals that a stack names: what keeps them, and the end of a block.
-- Assumes nothing.
use Rattle.std.proofs.Common.{◌≡◌, ℕ, suc, Bool, true, false, cond, not, T as So, eqb, leb, List, [], ◌∷◌, sym, refl, ap, ◌∙◌, subst}
use Rattle.tables.specs.Tables.{Tables}
use Rattle.image_body.specs.Expr.{Expr}
use Rattle.image_body.specs.Stmt.{Code, done, expr_stmt, variable, assign, return, bare_return, block, if_else, if_then, while, jump}
use Rattle.rules.specs.Expr.{view, Named, nobody, called, name_in}
use Rattle.rules.specs.Stack.{Static, local, Stack, Shape, shape, in_frame, mark, pop, has}
use Rattle.rules.specs.Effects.{Effect, use', kill, hand, bad_move, global_move, effects, expr_stmt_effects, take_over, assign_effects, assign_takes}
use Rattle.rules.specs.Rules.{Alg, sure_from, apply, apply_all, doing, revived, register, joins, merge, evaluate, after_expr, after_variable, before_assign, after_assign, exit, declared, gather}
use Rattle.rules.proofs.Bools.{leb-refl, leb-suc, below≢, eqb-self}

abbrev pub pop_s : ℕ → Shape → Shape
pop_s d [] = []
pop_s d (s ∷ Γ) = cond (eqb s.depth d) (pop_s d Γ) (s ∷ pop_s d Γ)

abbrev pub Within : ℕ → Shape → Type 0
Within d [] = Unit {0}
Within d (s ∷ Γ) = So (leb s.depth d) × Within d Γ

abbrev pub Distinct : Shape → Type 0
Distinct [] = Unit {0}
Distinct (s ∷ Γ) = So (not (has s.name Γ)) × Distinct Γ

pub within-suc : (d : ℕ) (Γ : Shape) → Within d Γ → Within (suc d) Γ
within-suc d [] t = tt
within-suc d (s ∷ Γ) t = (leb-suc s.depth d t.0, within-suc d Γ t.1)

pub pop_s-within : (d : ℕ) (Γ : Shape) → Within d Γ → pop_s (suc d) Γ ≡ Γ
pop_s-within d [] t = refl
pop_s-within d (s ∷ Γ) t =
    ap (λ (b : Bool). cond b (pop_s (suc d) Γ) (s ∷ pop_s (suc d) Γ)) (below≢ s.depth d t.0)
    ∙ ap (λ (Δ : Shape). s ∷ Δ) (pop_s-within d Γ t.1)

carry : (d : ℕ) {Γ Γ' Δ : Shape} → Γ' ≡ Γ → (Within d Γ' → Δ ≡ pop_s d Γ') → Within d Γ → Δ ≡ pop_s d Γ
carry d e f w = f (subst (λ (Γ : Shape). Within d Γ) (sym e) w) ∙ ap (pop_s d) e

module _ {A : Type 0} where
  pub shape-frame : (n d : ℕ) (f : A → A) (σ : Stack A) → shape (in_frame n d f σ) ≡ shape σ
  shape-frame n d f [] = refl
  shape-frame n d f (local s a ∷ σ) = ap (λ (Γ : Shape). s ∷ Γ) (shape-frame n d f σ)

  shape-cond : (c : Bool) (σ τ : Stack A) (Γ : Shape) → shape σ ≡ Γ → shape τ ≡ Γ → shape (cond c σ τ) ≡ Γ
  shape-cond true σ τ Γ p q = p
  shape-cond false σ τ Γ p q = q

  pub shape-mark : (n : ℕ) (f : A → A) (σ : Stack A) → shape (mark n f σ) ≡ shape σ
  shape-mark n f [] = refl
  shape-mark n f (local s a ∷ σ) = shape-cond (eqb s.name n) _ _ _ (ap (λ (Γ : Shape). s ∷ Γ) (shape-frame n s.depth f σ)) (ap (λ (Γ : Shape). s ∷ Γ) (shape-mark n f σ))

  cond-shape : (b : Bool) (s : Static) (a : A) (σ : Stack A) (Γ : Shape) → shape σ ≡ Γ → shape (cond b σ (local s a ∷ σ)) ≡ cond b Γ (s ∷ Γ)
  cond-shape true s a σ Γ e = e
  cond-shape false s a σ Γ e = ap (λ (Δ : Shape). s ∷ Δ) e

  pub shape-pop : (d : ℕ) (σ : Stack A) → shape (pop d σ) ≡ pop_s d (shape σ)
  shape-pop d [] = refl
  shape-pop d (local s a ∷ σ) = cond-shape (eqb s.depth d) s a (pop d σ) (pop_s d (shape σ)) (shape-pop d σ)

  module _ (𝓐 : Alg A) where
    pub shape-apply : (e : Effect) (σ : Stack A) → shape (apply 𝓐 e σ) ≡ shape σ
    shape-apply (use' n s) σ = refl
    shape-apply (kill k n s) σ = shape-mark n _ σ
    shape-apply (hand n s) σ = shape-mark n _ σ
    shape-apply (bad_move s h) σ = refl
    shape-apply (global_move s g) σ = refl

    pub shape-all : (es : List Effect) (σ : Stack A) → shape (apply_all 𝓐 es σ) ≡ shape σ
    shape-all [] σ = refl
    shape-all (e ∷ es) σ = shape-all es (apply 𝓐 e σ) ∙ shape-apply e σ

    pub shape-doing : (f : Shape → List Effect) (σ : Stack A) → shape (doing 𝓐 f σ) ≡ shape σ
    shape-doing f σ = shape-all (f (shape σ)) σ

    shape-revived : (n : Named) (σ : Stack A) → shape (revived 𝓐 n σ) ≡ shape σ
    shape-revived nobody σ = refl
    shape-revived (called n s) σ = shape-mark n _ σ

    pub shape-joins : (σ τ : Stack A) → shape (joins 𝓐 σ τ) ≡ shape σ
    shape-joins [] τ = refl
    shape-joins (l ∷ σ) [] = refl
    shape-joins (local s a ∷ σ) (local t b ∷ τ) = ap (λ (Γ : Shape). s ∷ Γ) (shape-joins σ τ)

    pub shape-merge : (f g : Bool) (σ τ υ : Stack A) (Γ : Shape) → shape σ ≡ Γ → shape τ ≡ Γ → shape υ ≡ Γ → shape (merge 𝓐 f g σ τ υ) ≡ Γ
    shape-merge true true σ τ υ Γ p q r = p
    shape-merge true false σ τ υ Γ p q r = r
    shape-merge false true σ τ υ Γ p q r = q
    shape-merge false false σ τ υ Γ p q r = shape-joins τ υ ∙ q

    module _ (T : Tables) where
      pub shape-assign : (e v : Expr) (σ : Stack A) → shape (after_assign 𝓐 T e v σ) ≡ shape σ
      shape-assign e v σ = shape-all (assign_takes T (shape σ) e v) (revived 𝓐 (name_in (view e)) σ) ∙ shape-revived (name_in (view e)) σ

      pub shape-variable : (s : Static) (e : Expr) (σ : Stack A) → shape (after_variable 𝓐 T s e σ) ≡ s ∷ shape σ
      shape-variable s e σ =
          shape-all (take_over T (shape σ) s.name s.ty e) (register 𝓐 s (evaluate 𝓐 T e σ))
          ∙ ap (λ (Γ : Shape). s ∷ Γ) (shape-frame s.name s.depth _ (evaluate 𝓐 T e σ) ∙ shape-doing (λ Γ. effects T Γ e) σ)

      pub shape_exit : {X Y : Type 0} (c : Code X Y) (d : ℕ) (σ : Stack A) → Within d (shape σ) → shape (exit 𝓐 T c d σ) ≡ pop_s d (shape σ)
      shape_exit (done x) d σ w = shape-pop d σ
      shape_exit (expr_stmt s e y r) d σ w = carry d (shape-doing (λ Γ. expr_stmt_effects T Γ e) σ) (shape_exit r d (after_expr 𝓐 T e σ)) w
      shape_exit (variable k s n t e r) d σ w =
          let q = shape-variable (declared d s n t) e σ in
          shape_exit r d (after_variable 𝓐 T (declared d s n t) e σ) (subst (λ (Γ : Shape). Within d Γ) (sym q) (leb-refl d, w))
          ∙ (ap (pop_s d) q ∙ ap (λ (b : Bool). cond b (pop_s d (shape σ)) (declared d s n t ∷ pop_s d (shape σ))) (eqb-self d))
      shape_exit (assign s e v t x r) d σ w = carry d (shape-assign e v (before_assign 𝓐 T e v σ) ∙ shape-doing (λ Γ. assign_effects T Γ e v) σ) (shape_exit r d (after_assign 𝓐 T e v (before_assign 𝓐 T e v σ))) w
      shape_exit (return s e t x r) d σ w = carry d (shape-doing (λ Γ. effects T Γ e) σ) (shape_exit r d (evaluate 𝓐 T e σ)) w
      shape_exit (bare_return s t x r) d σ w = shape_exit r d σ w
      shape_exit (block s c r) d σ w =
          carry d (shape_exit c (suc d) σ (within-suc d (shape σ) w) ∙ pop_s-within d (shape σ) w) (shape_exit r d (exit 𝓐 T c (suc d) σ)) w
      shape_exit (if_else s e ts t us u r) d σ w =
          let q = shape-doing (λ Γ. effects T Γ e) σ in
          let w' = subst (λ (Γ : Shape). Within d Γ) (sym q) w in
          let σ' = evaluate 𝓐 T e σ in
          let ρ = merge 𝓐 (sure_from t false) (sure_from u false) σ' (exit 𝓐 T t (suc d) σ') (exit 𝓐 T u (suc d) σ') in
          carry d
          (shape-merge (sure_from t false) (sure_from u false) σ' (exit 𝓐 T t (suc d) σ') (exit 𝓐 T u (suc d) σ') (shape σ) q
          (shape_exit t (suc d) σ' (within-suc d (shape σ') w') ∙ (pop_s-within d (shape σ') w' ∙ q))
          (shape_exit u (suc d) σ' (within-suc d (shape σ') w') ∙ (pop_s-within d (shape σ') w' ∙ q)))
          (shape_exit r d ρ) w
      shape_exit (if_then s e ts t r) d σ w =
          let q = shape-doing (λ Γ. effects T Γ e) σ in
          let w' = subst (λ (Γ : Shape). Within d Γ) (sym q) w in
          let σ' = evaluate 𝓐 T e σ in
          let ρ = merge 𝓐 (sure_from t false) false σ' (exit 𝓐 T t (suc d) σ') σ' in
          carry d
          (shape-merge (sure_from t false) false σ' (exit 𝓐 T t (suc d) σ') σ' (shape σ) q
          (shape_exit t (suc d) σ' (within-suc d (shape σ') w') ∙ (pop_s-within d (shape σ') w' ∙ q)) q)
          (shape_exit r d ρ) w
      shape_exit (while s e ts t r) d σ w =
          let q = shape-doing (λ Γ. effects T Γ e) σ in
          let w' = subst (λ (Γ : Shape). Within d Γ) (sym q) w in
          let σ' = evaluate 𝓐 T e σ in
          let ρ = joins 𝓐 (exit 𝓐 T t (suc d) σ') σ' in
          carry d (shape-joins (exit 𝓐 T t (suc d) σ') σ' ∙ (shape_exit t (suc d) σ' (within-suc d (shape σ') w') ∙ (pop_s-within d (shape σ') w' ∙ q)))
          (shape_exit r d ρ) w
      shape_exit (jump k s x r) d σ w = shape_exit r d σ w

      -- a block keeps the locals it finds
      pub shape-inner : {X Y : Type 0} (c : Code X Y) (d : ℕ) (σ : Stack A) → Within d (shape σ) → shape (exit 𝓐 T c (suc d) σ) ≡ shape σ
      shape-inner c d σ w = shape_exit c (suc d) σ (within-suc d (shape σ) w) ∙ pop_s-within d (shape σ) w

-- nothing is admitted
pub gather_none : {A B : Type 0} (𝓐 : Alg A) (T : Tables) (f : Static → B) (σ : Stack A) → gather 𝓐 T (λ s. false) f σ ≡ []
gather_none 𝓐 T f [] = refl
gather_none 𝓐 T f (local s a ∷ σ) = gather_none 𝓐 T f σ
