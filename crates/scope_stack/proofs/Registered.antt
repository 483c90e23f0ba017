-- K4's trap: `let v; std::move(v); let v;` in one block has one state and two locals, so behind the second `let` both bits of the mark are set.
-- Assumes nothing.
use Rattle.std.proofs.Common.{◌≡◌, ℕ, zero, suc, ◌^◌, ◌<◌, ◌≤◌, Bool, cond, not, ◌&&◌, eqb, List, [], ◌∷◌, get_or, sym, ap, ◌∙◌, ⊎_elim, arith, eq-eqb}
use lib.Bits.{bit_and}
use Rattle.image_fields.proofs.Tests.{less}
use Rattle.tables.specs.Tables.{Tables}
use Rattle.rules.specs.State.{State as Status, alive, is_alive}
use Rattle.rules.specs.Stack.{Static, local, Stack as Scope}
use Rattle.rules.specs.Rules.{declared, states, register, off}
use Rattle.scope_state.proofs.Stacked.{stacked-more, framed}
use Rattle.scope_stack.specs.declared.Locals.{Locals}
use Rattle.scope_stack.specs.declared.States.{States}
use Rattle.scope_stack.specs.View.{stacked, static_at, state_at, view, dtor_at, drop_in, mark_of, Sound, Grows, Named}
use Rattle.scope_stack.proofs.Words.{word-bit}

abbrev newest-state : Status → Scope Status → Status
newest-state d [] = d
newest-state d (local s a ∷ σ) = a

abbrev older-locals : Scope Status → Scope Status
older-locals [] = []
older-locals (local s a ∷ σ) = σ

-- equal stacks say the same of each local
same-states : (n : ℕ) (f f' : ℕ → Static) (g h : ℕ → Status) → stacked n f g ≡ stacked n f' h → (i : ℕ) → i < n → g i ≡ h i
unfolding stacked
same-states zero f f' g h e i l = absurd (omega arith)
same-states (suc n) f f' g h e i l =
    ⊎_elim
    (λ (q : i < n). same-states n f f' g h (ap older-locals e) i q)
    (λ (q : n ≤ i). let z : i ≡ n = omega arith in rw z (ap (newest-state alive) e))
    (less i n)

module _ (l r : Locals) (name ty depth born : ℕ) (dtor : Bool) (g : Grows l (declared depth born name ty) dtor r) (t u : States) (rows : List ℕ) (cur width : ℕ)
    (is : view r u rows cur width ≡ register (states off) (declared depth born name ty) (view l t rows cur width)) where
  -- what the frame of the new local says of those before it
  abbrev framed_at : ℕ → Status
  framed_at i = cond (eqb (get_or l.names i 0) name && eqb (get_or l.depths i 0) depth) alive (state_at t rows cur width i)

  both : local (static_at r l.count) (state_at u rows cur width l.count) ∷ stacked l.count (static_at r) (state_at u rows cur width)
      ≡ local (declared depth born name ty) alive ∷ stacked l.count (static_at l) framed_at
  both =
      sym (ap (λ (n : ℕ). stacked n (static_at r) (state_at u rows cur width)) g.count ∙ stacked-more (static_at r) (state_at u rows cur width) l.count) ∙ is
      ∙ ap (λ (σ : Scope Status). local (declared depth born name ty) alive ∷ σ) (framed name depth (λ (a : Status). alive) (static_at l) (state_at t rows cur width) l.count)

  revived-at : (i : ℕ) → i < r.count → Named r.names r.depths name depth i → state_at u rows cur width i ≡ alive
  revived-at i li named =
      ⊎_elim
      (λ (q : i < l.count).
      let a : get_or l.names i 0 ≡ name = sym (ap (λ (s : Static). s.name) (g.older i q)) ∙ named.0 in
      let b : get_or l.depths i 0 ≡ depth = sym (ap (λ (s : Static). s.depth) (g.older i q)) ∙ named.1 in
      same-states l.count (static_at r) (static_at l) (state_at u rows cur width) framed_at (ap older-locals both) i q
      ∙ rw (eq-eqb (get_or l.names i 0) name a, eq-eqb (get_or l.depths i 0) depth b))
      (λ (q : l.count ≤ i). let z : i ≡ l.count = omega (arith, g.count) in rw z (ap (newest-state alive) both))
      (less i l.count)

  -- behind a registration, the bit of every local of its name in its frame is set where its type has a destructor
  pub registered-bits : {P : Tables → Type 0} → Sound P r u rows cur width → (T : Tables) → P T → (i : ℕ) → i < r.count → Named r.names r.depths name depth i
      → not (eqb (bit_and (mark_of r u) (2 ^ i)) 0) ≡ dtor_at T r i
  registered-bits sound T p i li named =
      ap (λ (m : ℕ). not (eqb (bit_and m (2 ^ i)) 0)) (sound.marked T p) ∙ word-bit r.count i (drop_in T r.types (state_at u rows cur width)) li
      ∙ ap (λ (a : Status). is_alive a && dtor_at T r i) (revived-at i li named)
