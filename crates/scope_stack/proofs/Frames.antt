-- Frames: what marks a name in its frame, and what keeps frames nested.
-- Assumes nothing.
use Rattle.std.proofs.Common.{◌≡◌, ℕ, ◌<◌, ◌≤◌, Bool, true, false, cond, ◌&&◌, eqb, [], ◌∷◌, sym, refl, ap, subst, arith, ne_eqb}
use Rattle.rules.specs.State.{State as Status, alive, gone, moved, hand_state}
use Rattle.rules.specs.Stack.{Static, local, Shape, shape, in_frame, mark, pop, Stack as Scope}
use Rattle.rules.specs.Rules.{declared, states, register, off}
use Rattle.rules.proofs.Bools.{eqb-self}
use Rattle.rules.proofs.Shapes.{shape-frame}
use Rattle.scope_state.specs.Kinds.{put}
use Rattle.scope_stack.specs.View.{Nested, depth_of}

mark-step : (b : Bool) (n : ℕ) (f : Status → Status) (s : Static) (a : Status) (σ : Scope Status) → mark n f σ ≡ in_frame n (depth_of n σ) f σ
    → cond b (local s (f a) ∷ in_frame n s.depth f σ) (local s a ∷ mark n f σ)
    ≡ local s (cond (b && eqb s.depth (cond b s.depth (depth_of n σ))) (f a) a) ∷ in_frame n (cond b s.depth (depth_of n σ)) f σ
mark-step true n f s a σ ih = rw (eqb-self s.depth)
mark-step false n f s a σ ih = ap (λ (τ : Scope Status). local s a ∷ τ) ih

-- the innermost frame that has the name is that of its newest local
pub mark-frame : (n : ℕ) (f : Status → Status) (σ : Scope Status) → mark n f σ ≡ in_frame n (depth_of n σ) f σ
mark-frame n f [] = refl
mark-frame n f (local s a ∷ σ) = mark-step (eqb s.name n) n f s a σ (mark-frame n f σ)

module _ (n : ℕ) (f g : Status → Status) (same : (a : Status) → f a ≡ g a) where
  frame_same : (d : ℕ) (σ : Scope Status) → in_frame n d f σ ≡ in_frame n d g σ
  frame_same d [] = refl
  frame_same d (local s a ∷ σ) = rw (same a, frame_same d σ)

  pub mark-same : (σ : Scope Status) → mark n f σ ≡ mark n g σ
  mark-same [] = refl
  mark-same (local s a ∷ σ) = rw (same a, frame_same s.depth σ, mark-same σ)

pub hand-put : (p : ℕ) (a : Status) → put true (gone false moved (p ∷ [])) a ≡ hand_state p a
hand-put p alive = refl
hand-put p (gone c k ps) = refl

-- no local of a shallower stack is of depth d
pub pop-keeps : (k d : ℕ) (σ : Scope Status) → Nested k (shape σ) → k < d → pop d σ ≡ σ
pop-keeps k d [] h l = refl
pop-keeps k d (local s a ∷ σ) h l =
    let ne : s.depth ≡ d → ⊥ = λ q. omega (arith, h.0) in
    let e : eqb s.depth d ≡ false = ne_eqb _ _ ne in
    rw (e, pop-keeps s.depth d σ h.1 (omega (arith, h.0)))

-- What keeps frames nested: the start of a block, and a registration in the innermost block.
pub nested-deeper : (d e : ℕ) (Γ : Shape) → d ≤ e → Nested d Γ → Nested e Γ
nested-deeper d e [] l h = tt
nested-deeper d e (s ∷ Γ) l h = (omega (arith, h.0), h.1)

pub nested-register : (n t d p : ℕ) (σ : Scope Status) → Nested d (shape σ) → Nested d (shape (register (states off) (declared d p n t) σ))
nested-register n t d p σ h = (omega arith, subst (Nested d) (sym (shape-frame n d (λ (a : Status). alive) σ)) h)
