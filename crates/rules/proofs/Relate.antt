-- Two stacks of the same locals, related value by value; what the pass does keeps them related.
-- Assumes nothing.
use Rattle.std.proofs.Common.{◌≡◌, ℕ, Bool, true, false, cond, ◌&&◌, eqb, List, [], ◌∷◌, refl, ap, subst}
use Rattle.tables.specs.Signature.{Param}
use Rattle.tables.specs.Tables.{Tables}
use Rattle.image_body.specs.Expr.{Expr}
use Rattle.rules.specs.Expr.{view, Named, nobody, called, name_in}
use Rattle.rules.specs.Stack.{Static, local, Stack, Shape, shape, in_frame, mark, pop}
use Rattle.rules.specs.State.{Kind}
use Rattle.rules.specs.Effects.{Effect, use', kill, hand, bad_move, global_move, effects, expr_stmt_effects, take_over, assign_effects, assign_takes}
use Rattle.rules.specs.Rules.{Alg, holding, apply, apply_all, doing, revived, register, evaluate, after_expr, after_variable, before_assign, after_assign, entered, given}

pub data Rel {A B : Type 0} (R : ℕ → A → B → Type 0) : Stack A → Stack B → Type 0 where
  empty : Rel R [] []
  both : {s : Static} {a : A} {b : B} {σ : Stack A} {τ : Stack B} → R s.name a b → Rel R σ τ → Rel R (local s a ∷ σ) (local s b ∷ τ)

pub record Hom {A B : Type 0} (𝓐 : Alg A) (𝓑 : Alg B) (R : ℕ → A → B → Type 0) : Type 0 where
  pub new : (m : ℕ) → R m 𝓐.new 𝓑.new
  pub killed : (m : ℕ) (k : Kind) (p : ℕ) (a : A) (b : B) → R m a b → R m (𝓐.killed k p a) (𝓑.killed k p b)
  pub handed_over : (m : ℕ) (p : ℕ) (a : A) (b : B) → R m a b → R m (𝓐.handed_over p a) (𝓑.handed_over p b)

value-cond : {A B : Type 0} (R : ℕ → A → B → Type 0) (c : Bool) (m : ℕ) (a a' : A) (b b' : B) → R m a b → R m a' b' → R m (cond c a a') (cond c b b')
value-cond R true m a a' b b' r s = r
value-cond R false m a a' b b' r s = s

module _ {A B : Type 0} {R : ℕ → A → B → Type 0} where
  pub rel-shape : {σ : Stack A} {τ : Stack B} → Rel R σ τ → shape σ ≡ shape τ
  rel-shape empty = refl
  rel-shape (both {s = s} r rs) = ap (λ (Γ : Shape). s ∷ Γ) (rel-shape rs)

  pub rel-cond : (c : Bool) {σ σ' : Stack A} {τ τ' : Stack B} → Rel R σ τ → Rel R σ' τ' → Rel R (cond c σ σ') (cond c τ τ')
  rel-cond true r s = r
  rel-cond false r s = s

  pub rel-frame : (n d : ℕ) (f : A → A) (g : B → B) → ((m : ℕ) (a : A) (b : B) → R m a b → R m (f a) (g b)) → {σ : Stack A} {τ : Stack B} → Rel R σ τ → Rel R (in_frame n d f σ) (in_frame n d g τ)
  rel-frame n d f g h empty = empty
  rel-frame n d f g h (both {s = s} {a = a} {b = b} r rs) = both (value-cond R (eqb s.name n && eqb s.depth d) s.name (f a) a (g b) b (h s.name a b r) r) (rel-frame n d f g h rs)

  pub rel-mark : (n : ℕ) (f : A → A) (g : B → B) → ((m : ℕ) (a : A) (b : B) → R m a b → R m (f a) (g b)) → {σ : Stack A} {τ : Stack B} → Rel R σ τ → Rel R (mark n f σ) (mark n g τ)
  rel-mark n f g h empty = empty
  rel-mark n f g h (both {s = s} {a = a} {b = b} r rs) = rel-cond (eqb s.name n) (both (h s.name a b r) (rel-frame n s.depth f g h rs)) (both r (rel-mark n f g h rs))

  pub rel-pop : (d : ℕ) {σ : Stack A} {τ : Stack B} → Rel R σ τ → Rel R (pop d σ) (pop d τ)
  rel-pop d empty = empty
  rel-pop d (both {s = s} r rs) = rel-cond (eqb s.depth d) (rel-pop d rs) (both r (rel-pop d rs))

  module _ (𝓐 : Alg A) (𝓑 : Alg B) (hom : Hom 𝓐 𝓑 R) where
    pub rel-apply : (e : Effect) {σ : Stack A} {τ : Stack B} → Rel R σ τ → Rel R (apply 𝓐 e σ) (apply 𝓑 e τ)
    rel-apply (use' n s) r = r
    rel-apply (kill k n s) r = rel-mark n (𝓐.killed k s) (𝓑.killed k s) (λ m. hom.killed m k s) r
    rel-apply (hand n s) r = rel-mark n (𝓐.handed_over s) (𝓑.handed_over s) (λ m. hom.handed_over m s) r
    rel-apply (bad_move s h) r = r
    rel-apply (global_move s g) r = r

    pub rel-apply_all : (es : List Effect) {σ : Stack A} {τ : Stack B} → Rel R σ τ → Rel R (apply_all 𝓐 es σ) (apply_all 𝓑 es τ)
    rel-apply_all [] r = r
    rel-apply_all (e ∷ es) r = rel-apply_all es (rel-apply e r)

    pub rel-doing : (f : Shape → List Effect) {σ : Stack A} {τ : Stack B} → Rel R σ τ → Rel R (doing 𝓐 f σ) (doing 𝓑 f τ)
    rel-doing f {σ} {τ} r = subst (λ (Γ : Shape). Rel R (doing 𝓐 f σ) (apply_all 𝓑 (f Γ) τ)) (rel-shape r) (rel-apply_all (f (shape σ)) r)

    pub rel-revived : (n : Named) {σ : Stack A} {τ : Stack B} → Rel R σ τ → Rel R (revived 𝓐 n σ) (revived 𝓑 n τ)
    rel-revived nobody r = r
    rel-revived (called n s) r = rel-mark n (λ a. 𝓐.new) (λ a. 𝓑.new) (λ m a b x. hom.new m) r

    pub rel-register : (s : Static) {σ : Stack A} {τ : Stack B} → Rel R σ τ → Rel R (register 𝓐 s σ) (register 𝓑 s τ)
    rel-register s r = both (hom.new s.name) (rel-frame s.name s.depth (λ a. 𝓐.new) (λ a. 𝓑.new) (λ m a b x. hom.new m) r)

    module _ (T : Tables) where
      pub rel-evaluate : (e : Expr) {σ : Stack A} {τ : Stack B} → Rel R σ τ → Rel R (evaluate 𝓐 T e σ) (evaluate 𝓑 T e τ)
      rel-evaluate e r = rel-doing (λ Γ. effects T Γ e) r

      pub rel-expr : (e : Expr) {σ : Stack A} {τ : Stack B} → Rel R σ τ → Rel R (after_expr 𝓐 T e σ) (after_expr 𝓑 T e τ)
      rel-expr e r = rel-doing (λ Γ. expr_stmt_effects T Γ e) r

      pub rel-before : (e v : Expr) {σ : Stack A} {τ : Stack B} → Rel R σ τ → Rel R (before_assign 𝓐 T e v σ) (before_assign 𝓑 T e v τ)
      rel-before e v r = rel-doing (λ Γ. assign_effects T Γ e v) r

      pub rel-after : (e v : Expr) {σ : Stack A} {τ : Stack B} → Rel R σ τ → Rel R (after_assign 𝓐 T e v σ) (after_assign 𝓑 T e v τ)
      rel-after e v {σ} {τ} r =
          subst (λ (Γ : Shape). Rel R (after_assign 𝓐 T e v σ) (apply_all 𝓑 (assign_takes T Γ e v) (revived 𝓑 (name_in (view e)) τ))) (rel-shape r)
          (rel-apply_all (assign_takes T (shape σ) e v) (rel-revived (name_in (view e)) r))

      pub rel-variable : (s : Static) (e : Expr) {σ : Stack A} {τ : Stack B} → Rel R σ τ → Rel R (after_variable 𝓐 T s e σ) (after_variable 𝓑 T s e τ)
      rel-variable s e {σ} {τ} r =
          subst (λ (Γ : Shape). Rel R (after_variable 𝓐 T s e σ) (apply_all 𝓑 (take_over T Γ s.name s.ty e) (register 𝓑 s (evaluate 𝓑 T e τ)))) (rel-shape r)
          (rel-apply_all (take_over T (shape σ) s.name s.ty e) (rel-register s (rel-evaluate e r)))

      pub rel-entered : (ps : List Param) {σ : Stack A} {τ : Stack B} → Rel R σ τ → Rel R (entered 𝓐 T ps σ) (entered 𝓑 T ps τ)
      rel-entered [] r = r
      rel-entered (x ∷ xs) r = rel-entered xs (rel-register (given x) r)

-- any reflexive relation on held or not
pub reflexive-hom : (R : ℕ → Bool → Bool → Type 0) → ((m : ℕ) (a : Bool) → R m a a) → Hom holding holding R
reflexive-hom R h = record { new = λ m. h m true; killed = λ m k p a b r. h m false; handed_over = λ m p a b r. h m false }

pub rel-refl : {A : Type 0} (R : ℕ → A → A → Type 0) → ((m : ℕ) (a : A) → R m a a) → (σ : Stack A) → Rel R σ σ
rel-refl R h [] = empty
rel-refl R h (local s a ∷ σ) = both (h s.name a) (rel-refl R h σ)
