-- The statements of a block one after another, whatever statements were read.
-- Assumes nothing.
use Prim.Native.Nat.{ℕ, ◌-◌, ◌≤◌, ◌<◌}
use native.Mathlib.Omega.{arith}
use mathlib.Core.Path.{◌≡◌, refl, sym, ap, ◌∙◌, subst}
use mathlib.Core.List.{List}
use mathlib.Core.Option.{Option, none, some}
use Rattle.rules.specs.Rules.{Switches}
use Rattle.image_fields.specs.Bytes.{Bytes}
use Rattle.tables.specs.Limits.{version1}
use Rattle.tables.specs.Tables.{Tables}
use Rattle.tables_lookup.specs.First.{or_else}
use Rattle.image_body.specs.Stmt.{Tree, done, before}
use Rattle.rules.specs.State.{State as Status}
use Rattle.rules.specs.Stack.{Stack as Scope}
use Rattle.rules.specs.Walk.{walk_fault}
use Rattle.statements_acts.specs.declared.Place.{Place}
use Rattle.statements_steps.specs.Own.{number_of}
use Rattle.statements_steps.proofs.Whole.{own_fault, rest_of, own_after}
use Rattle.statements_steps.proofs.Faults.{real-none, real-own}
use Rattle.image_writing.specs.Memory.{Memory}
use Rattle.blocks_laws.specs.Walks.{Walked, Leads, LeadsAll, StmtsThere, StmtsWalk}
use Rattle.blocks_laws.proofs.Statements.{StmtWalks}
use Rattle.blocks_laws.proofs.Leads.{next_of, leads-start, leads-next, leads-fault, leads-end}

-- the first fault is that of both
pub else-number : (x y : Option ℕ) (k : ℕ) → 0 < k → k ≡ number_of x → k ≡ number_of (or_else x y)
unfolding or_else
else-number none y k h e = absurd (omega arith)
else-number (some n) y k h e = e

no_walk : (sw : Switches) (T : Tables) (d : ℕ) (σ : Scope Status) → walk_fault version1 sw T (done tt) d σ ≡ none
unfolding walk_fault
no_walk sw T d σ = refl

module _ (sw : Switches) (T : Tables) (s : List ℕ) (small : Bytes s) (left d : ℕ) (loop : Option ℕ) (total : ℕ) (σ₀ : Scope Status) (p₀ : Place) (m₀ : Memory) where
  pub all_start : LeadsAll sw T s left d loop total σ₀ p₀ m₀ total σ₀ p₀ m₀
  all_start t deep c end e = leads-start sw T s small t left d loop total c σ₀ p₀ m₀ end e

  module _ (n : ℕ) (σ : Scope Status) (p : Place) (m : Memory) (g : LeadsAll sw T s left d loop total σ₀ p₀ m₀ n σ p m) where
    -- and the statements left
    pub all_rest : StmtsThere s left total p₀.at → StmtsThere s left n p.at
    all_rest h =
        let l = g h.t h.deep h.c h.end h.read in
        record { t = h.t; deep = h.deep; c = l.c; end = h.end; read = l.read }

    pub all-loud : 0 < n → (r : Walked) (m' : Memory) → r.fault ≤ 0 → StmtWalks sw T s left d loop σ p m r m' → LeadsAll sw T s left d loop total σ₀ p₀ m₀ (n - 1) r.locals r.place m'
    all-loud lt r m' z w t deep c end e =
        let l = g t deep c end e in
        let k = next_of sw T s small t left d loop total c σ₀ p₀ m₀ end n σ p m lt l in
        let a = w.walks t deep k.x k.next k.read k.rest in
        let f = a.0 in
        let clear = real-none (own_fault sw T (before k.x k.rest) d σ) (real-own sw T (before k.x k.rest) d σ) (sym f ∙ omega arith) in
        leads-next sw T s small t left d loop total c σ₀ p₀ m₀ end n σ p m lt l k r.place m' r.locals clear (a.1 clear)

    -- a fault is the first
    pub all-fault : 0 < n → (r : Walked) (m' : Memory) → 0 < r.fault → StmtWalks sw T s left d loop σ p m r m' → StmtsWalk sw T s left d loop total σ₀ p₀ m₀ r m'
    all-fault lt r m' z w = record {
      walks = λ t deep c end e.
          let l = g t deep c end e in
          let k = next_of sw T s small t left d loop total c σ₀ p₀ m₀ end n σ p m lt l in
          let here = before k.x k.rest in
          let a = w.walks t deep k.x k.next k.read k.rest in
          let f : r.fault ≡ number_of (walk_fault version1 sw T c d σ₀) =
          else-number (own_fault sw T here d σ) (walk_fault version1 sw T (rest_of here) d (own_after sw T here d σ)) r.fault z a.0
          ∙ ap number_of (sym (leads-fault sw T s small t left d loop total c σ₀ p₀ m₀ end n σ p m lt l k)) in
          (f, λ h. let y = f ∙ ap number_of h in absurd (omega arith));
    }

    pub all_end : n ≤ 0 → (r : Walked) → r.fault ≡ 0 → r.place ≡ p → r.locals ≡ σ → StmtsWalk sw T s left d loop total σ₀ p₀ m₀ r m
    all_end z r ef ep es = record {
      walks = λ t deep c end e.
          let l = g t deep c end e in
          let zero : n ≡ 0 = omega arith in
          let l0 = subst (λ (k : ℕ). Leads sw T s t left d loop total c σ₀ p₀ m₀ k σ p m end) zero l in
          let over = (leads-end sw T s t left d loop total c σ₀ p₀ m₀ end σ p m l0).0 in (
            ef ∙ ap number_of (sym (l0.fault ∙ ap (λ (x : Tree). walk_fault version1 sw T x d σ) over ∙ no_walk sw T d σ)),
            λ h. subst (λ (x : Place). Leads sw T s t left d loop total c σ₀ p₀ m₀ 0 r.locals x m end) (sym ep)
                (subst (λ (x : Scope Status). Leads sw T s t left d loop total c σ₀ p₀ m₀ 0 x p m end) (sym es) l0),
          );
    }
