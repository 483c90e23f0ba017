-- A mark and a registration of the two parts of a stack, as the rules say them.
-- Assumes nothing.
use Prim.Native.Nat.{ℕ, ◌+◌, ◌≤◌, ◌<◌}
use mathlib.Core.Path.{◌≡◌, refl, sym, ap, subst, ◌∙◌}
use mathlib.Core.Bool.{Bool, true, false, not}
use mathlib.Core.List.{List, [], ◌∷◌}
use mathlib.Core.Logic.{⊎_elim}
use borrow.Author.Tests.{le-ltb, lt-ltb}
use native.Mathlib.Omega.{arith}
use lib.Dec.{ltb}
use lib.ListN.{length}
use Rattle.image_fields.proofs.Tests.{less, false-true}
use Rattle.tables.specs.Limits.{version1}
use Rattle.tables.specs.Tables.{Tables}
use Rattle.rules.specs.Questions.{auto}
use Rattle.rules.specs.State.{State as Status}
use Rattle.rules.specs.Stack.{mark}
use Rattle.rules.specs.Rules.{declared, states, register, off}
use Rattle.scope_state.specs.Kinds.{said, put}
use Rattle.scope_stack.specs.declared.Locals.{Locals}
use Rattle.scope_stack.specs.declared.States.{States}
use Rattle.scope_stack.specs.View.{Kept, Held, Sound, Marks, Grows, Named, alive_at, view as seen}
use Rattle.scope_stack.proofs.Scopes.{rowed-more, registers-marked, registers-fresh, register-length, sound-of, sound-mark}
use Rattle.lent.specs.declared.Stack.{Stack}
use Rattle.lent.specs.Changed.{Whole, Marked, Registered, view}

-- 64 locals are there
pub refused : (s : Stack) (name ty depth born : ℕ) (dtor : Bool) → Whole s → 64 ≤ s.locals.count → Registered s name ty depth born dtor false s
refused s name ty depth born dtor w full = record {
  answer = sym (le-ltb s.locals.count 64 full);
  kept = λ _. refl;
  grows = λ e. false-true e;
  held = w.1;
  is = λ e. false-true e;
  rowed = λ e. false-true e;
}

-- one local more, and its frame marked Alive, or Alive already
module _ (s : Stack) (name ty depth born : ℕ) (dtor : Bool) (r : Locals) (few : s.locals.count < 64) (g : Grows s.locals (declared depth born name ty) dtor r) where
  pub revived : (p : ℕ) (u : States) → Held u → Marks r name (put false (said 0 (p ∷ []))) s.states u
      → Registered s name ty depth born dtor true (record { locals = r; states = u })
  revived p u held m = record {
    answer = sym (lt-ltb s.locals.count 64 few);
    kept = λ e. false-true (sym e);
    grows = λ _. g;
    held = held;
    is = λ _ rows cur width h. registers-marked s.locals r name ty depth born dtor g s.states rows cur width h p u m;
    rowed = λ _ rows cur width h. m.rowed rows cur width (rowed-more s.locals r name ty depth born dtor g s.states rows cur width h);
  }

  pub fresh : Held s.states → ((i : ℕ) → i < 64 → alive_at s.states i ≡ false → Named r.names r.depths name depth i → ⊥)
      → Registered s name ty depth born dtor true (record { locals = r; states = s.states })
  fresh held calm = record {
    answer = sym (lt-ltb s.locals.count 64 few);
    kept = λ e. false-true (sym e);
    grows = λ _. g;
    held = held;
    is = λ _ rows cur width h. registers-fresh s.locals r name ty depth born dtor g s.states rows cur width h calm (omega arith);
    rowed = λ _ rows cur width h. rowed-more s.locals r name ty depth born dtor g s.states rows cur width h;
  }

-- what a mark leaves, with any rows
module _ (s r : Stack) (name : ℕ) (f : Status → Status) (m : Marked s name f r) where
  pub marked-whole : Whole s → Whole r
  marked-whole w = (subst Kept (sym m.locals) w.0, m.held)

  pub marked-view : {P : Tables → Type 0} (rows : List ℕ) (cur width : ℕ) → Sound P s.locals s.states rows cur width
      → (view r rows cur width ≡ mark name f (view s rows cur width)) × Sound P r.locals r.states rows cur width
  marked-view {P} rows cur width h = (
    ap (λ (l : Locals). seen l r.states rows cur width) m.locals ∙ m.marks.is rows cur width h.rowed,
    subst (λ (l : Locals). Sound P l r.states rows cur width) (sym m.locals) (sound-mark s.locals s.states r.states name f rows cur width h m.held m.marks),
  )

-- what a registration leaves, refused or not, and when it is refused: fault 12
module _ (s r : Stack) (name ty depth born : ℕ) (dtor : Bool) where
  pub registered-whole : (ok : Bool) → Whole s → Registered s name ty depth born dtor ok r → Whole r
  registered-whole true w g = ((g.grows refl).kept, g.held)
  registered-whole false w g = subst Whole (sym (g.kept refl)) w

  pub registered-view : {P : Tables → Type 0} (rows : List ℕ) (cur width : ℕ) → Registered s name ty depth born dtor true r → Sound P s.locals s.states rows cur width
      → ((T : Tables) → P T → dtor ≡ auto T ty)
      → (view r rows cur width ≡ register (states off) (declared depth born name ty) (view s rows cur width)) × Sound P r.locals r.states rows cur width
  registered-view rows cur width g h asked = (
    g.is refl rows cur width h.rowed,
    sound-of r.locals r.states rows cur width (g.grows refl).kept g.held (g.rowed refl rows cur width h.rowed) (λ T p. (g.grows refl).drops T (asked T p) (h.drops T p)),
  )

  pub registered-answer : (ok : Bool) (rows : List ℕ) (cur width : ℕ) → Registered s name ty depth born dtor ok r
      → ok ≡ not (ltb version1.locals (length (register (states off) (declared depth born name ty) (view s rows cur width))))
  registered-answer ok rows cur width g =
      g.answer ∙ below s.locals.count ∙ ap (λ (n : ℕ). not (ltb 64 n)) (sym (register-length s.locals name ty depth born s.states rows cur width))
    where
      below : (n : ℕ) → ltb n 64 ≡ not (ltb 64 (n + 1))
      below n = ⊎_elim
          (λ (q : n < 64). lt-ltb n 64 q ∙ sym (ap not (le-ltb 64 (n + 1) (omega arith))))
          (λ (q : 64 ≤ n). le-ltb n 64 q ∙ sym (ap not (lt-ltb 64 (n + 1) (omega arith))))
          (less n 64)
