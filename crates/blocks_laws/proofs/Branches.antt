-- The blocks of an IfElse and a While, one after another and merged.
-- Assumes nothing.
use Prim.Native.Nat.{ℕ, suc, ◌+◌, ◌<◌}
use native.Mathlib.Omega.{arith}
use mathlib.Core.Path.{◌≡◌, refl, sym, ap, ◌∙◌, subst}
use mathlib.Core.Bool.{Bool, true, false, not, ◌&&◌}
use mathlib.Core.List.{List}
use mathlib.Core.Option.{Option, none, some}
use lib.ListN.{length, get_or}
use Rattle.image_fields.specs.Parsed.{ok}
use Rattle.image_fields.specs.Bytes.{Bytes}
use Rattle.tables.specs.Limits.{version1}
use Rattle.tables.specs.Tables.{Tables}
use Rattle.tables_lookup.specs.First.{or_else}
use Rattle.image_body.specs.Expr.{Expr, Scope as Reading}
use Rattle.image_body.specs.Stmt.{Tree, Block, if_else, if_then, while, block_at}
use Rattle.rules.specs.State.{State as Status}
use Rattle.rules.specs.Stack.{Stack as Scope}
use Rattle.rules.specs.Rules.{states, sure_from, joins, merge, exit, Switches}
use Rattle.rules.specs.Report.{code_bytes}
use Rattle.rules.specs.Walk.{too_wide, walk_fault}
use Rattle.statements_steps.specs.Own.{number_of, Own, byte, both, block_own, blocks_fault}
use Rattle.statements_returns.specs.Returns.{BlockThere}
use Rattle.statements_acts.specs.declared.Place.{Place}
use Rattle.image_writing.specs.Memory.{Memory}
use Rattle.blocks_laws.specs.Walks.{Walked, Wrote, BlockDone, BlocksWalk}
use Rattle.blocks_laws.specs.Ends.{Merges}
use Rattle.blocks_laws.proofs.Wrotes.{wrote-both}
use Rattle.blocks_laws.proofs.Turns.{else-number}

-- the flag at a place, and the second block of an IfElse if there is one, from a stack
pub record ElseDone (o : Own) (p : Place) (m : Memory) (r : Walked) (m' : Memory) (next : ℕ) (σ : Scope Status) (b : Bool) : Type 0 where
  pub wrote : Wrote o p m r.place m'
  pub inserted : r.place.inserted ≡ p.inserted
  pub last : r.place.last ≡ p.last
  pub at : r.place.at ≡ next
  pub locals : r.locals ≡ σ
  pub sure : r.sure ≡ b

pub record ElseWalks (sw : Switches) (T : Tables) (s : List ℕ) (left d : ℕ) (loop : Option ℕ) (σ : Scope Status) (p : Place) (m : Memory) (r : Walked) (m' : Memory) : Type 0 where
  pub without : get_or s p.at 0 ≡ 0 → (r.fault ≡ 0) × ElseDone (byte 0) p m r m' (p.at + 1) σ false
  pub with : get_or s p.at 0 ≡ 1 → (t : Reading) → t.expr_depth ≡ 24 → (b : Block) (next : ℕ) → block_at t s left (p.at + 1) ≡ ok b next
      → (r.fault ≡ number_of (walk_fault version1 sw T b.code d σ))
      × (walk_fault version1 sw T b.code d σ ≡ none
      → ElseDone (both (byte 1) (block_own sw T b.span b.code d loop (p.at + 1) σ)) p m r m' next (exit (states sw) T b.code d σ) (sure_from b.code false))

pub record ElseThere (s : List ℕ) (left at : ℕ) : Type 0 where
  pub inside : at < length s
  pub flag : get_or s at 0 < 2
  pub with : 0 < get_or s at 0 → BlockThere s left (at + 1)

and-true : (a : Bool) → (a && true) ≡ a
and-true true = refl
and-true false = refl

else-next : (x y : Option ℕ) → x ≡ none → or_else x y ≡ y
unfolding or_else
else-next x y e = ap (λ (z : Option ℕ). or_else z y) e

else-left : (x y : Option ℕ) → or_else x y ≡ none → x ≡ none
unfolding or_else
else-left none y e = refl
else-left (some n) y e = e

module _ (sw : Switches) (T : Tables) (s : List ℕ) (small : Bytes s) (t : Reading) (left d : ℕ) (loop : Option ℕ) (σ : Scope Status) (p : Place) (m : Memory) where
  -- a fault of the first block is that of the statement
  pub first-fault : (c : Tree) (b : Block) (y : Option ℕ) → blocks_fault sw T c d σ ≡ or_else (walk_fault version1 sw T b.code (suc d) σ) y
      → (r : Walked) (m' : Memory) (next : ℕ) → r.fault ≡ number_of (walk_fault version1 sw T b.code (suc d) σ) → 0 < r.fault → BlocksWalk sw T c d loop σ p m r m' next
  first-fault c b y is r m' next e lt = record {
    fault = else-number (walk_fault version1 sw T b.code (suc d) σ) y r.fault lt e ∙ ap number_of (sym is);
    done = λ z.
        let x = else-left (walk_fault version1 sw T b.code (suc d) σ) y (sym is ∙ z) in
        let h = e ∙ ap number_of x in
        absurd (omega arith);
  }

  -- both blocks, walked without a fault
  module _ (b : Block) (v : Walked) (m₁ : Memory) (q : ℕ) (clear : walk_fault version1 sw T b.code (suc d) σ ≡ none) (a : BlockDone sw T b (suc d) loop σ p m v m₁ q) where
    -- merged behind the second: what it was told as o, its locals τ and whether it returns
    merge-locals : (w r : Walked) (τ : Scope Status) (f : Bool) → w.locals ≡ τ → w.sure ≡ f → Merges sw v.sure σ v.locals w r → r.fault ≡ 0
        → r.locals ≡ merge (states sw) (sure_from b.code false) f σ (exit (states sw) T b.code (suc d) σ) τ
    merge-locals w r τ f ev es g z =
        g.locals z
        ∙ ap (λ (x : Bool). merge (states sw) x w.sure σ v.locals w.locals) a.sure
        ∙ ap (λ (x : Bool). merge (states sw) (sure_from b.code false) x σ v.locals w.locals) es
        ∙ ap (λ (x : Scope Status). merge (states sw) (sure_from b.code false) f σ x w.locals) a.locals
        ∙ ap (λ (x : Scope Status). merge (states sw) (sure_from b.code false) f σ (exit (states sw) T b.code (suc d) σ) x) ev

    merge-fault : (w r : Walked) (τ : Scope Status) (f : Bool) → w.locals ≡ τ → w.sure ≡ f → Merges sw v.sure σ v.locals w r
        → r.fault ≡ number_of (too_wide version1 (not (sure_from b.code false) && not f) (joins (states sw) (exit (states sw) T b.code (suc d) σ) τ))
    merge-fault w r τ f ev es g =
        g.fault
        ∙ ap (λ (x : Bool). number_of (too_wide version1 (not x && not w.sure) (joins (states sw) v.locals w.locals))) a.sure
        ∙ ap (λ (x : Bool). number_of (too_wide version1 (not (sure_from b.code false) && not x) (joins (states sw) v.locals w.locals))) es
        ∙ ap (λ (x : Scope Status). number_of (too_wide version1 (not (sure_from b.code false) && not f) (joins (states sw) x w.locals))) a.locals
        ∙ ap (λ (x : Scope Status). number_of (too_wide version1 (not (sure_from b.code false) && not f) (joins (states sw) (exit (states sw) T b.code (suc d) σ) x))) ev

    -- what is stored is stored by both
    merge-wrote : (o : Own) (w r : Walked) (m₂ : Memory) (next : ℕ) (τ : Scope Status) (f : Bool) → ElseDone o v.place m₁ w m₂ next τ f → r.place ≡ w.place
        → Wrote (both (block_own sw T b.span b.code (suc d) loop p.at σ) o) p m r.place m₂
    merge-wrote o w r m₂ next τ f e ep =
        subst (λ (x : Place). Wrote (both (block_own sw T b.span b.code (suc d) loop p.at σ) o) p m x m₂) (sym ep) (wrote-both a.wrote e.wrote)

    module _ (w r : Walked) (m₂ : Memory) (g : Merges sw v.sure σ v.locals w r) where
      pub if-then : (sp : ℕ) (x : Expr) (c : Tree) → ElseDone (byte 0) v.place m₁ w m₂ (v.place.at + 1) σ false
          → BlocksWalk sw T (if_then sp x b.span b.code c) d loop σ p m r m₂ (q + 1)
      if-then sp x c e =
          let fault : r.fault ≡ number_of (blocks_fault sw T (if_then sp x b.span b.code c) d σ) =
          merge-fault w r σ false e.locals e.sure g
          ∙ ap (λ (y : Bool). number_of (too_wide version1 y (joins (states sw) (exit (states sw) T b.code (suc d) σ) σ))) (and-true (not (sure_from b.code false)))
          ∙ ap number_of (sym (else-next (walk_fault version1 sw T b.code (suc d) σ) (too_wide version1 (not (sure_from b.code false)) (joins (states sw) (exit (states sw) T b.code (suc d) σ) σ)) clear)) in
          record {
            fault = fault;
            done = λ z. record {
              wrote = merge-wrote (byte 0) w r m₂ (v.place.at + 1) σ false e g.place;
              inserted = ap (λ (y : Place). y.inserted) g.place ∙ e.inserted ∙ a.inserted;
              last = ap (λ (y : Place). y.last) g.place ∙ e.last ∙ a.last;
              at = ap (λ (y : Place). y.at) g.place ∙ e.at ∙ ap (λ (k : ℕ). k + 1) a.at;
              locals = merge-locals w r σ false e.locals e.sure g (fault ∙ ap number_of z);
            };
          }

      pub if-else : (sp : ℕ) (x : Expr) (u : Block) (next : ℕ) (c : Tree) → q ≡ p.at + (6 + code_bytes b.code) → walk_fault version1 sw T u.code (suc d) σ ≡ none
          → ElseDone (both (byte 1) (block_own sw T u.span u.code (suc d) loop (v.place.at + 1) σ)) v.place m₁ w m₂ next (exit (states sw) T u.code (suc d) σ) (sure_from u.code false)
          → BlocksWalk sw T (if_else sp x b.span b.code u.span u.code c) d loop σ p m r m₂ next
      if-else sp x u next c eq free e =
          let joined = joins (states sw) (exit (states sw) T b.code (suc d) σ) (exit (states sw) T u.code (suc d) σ) in
          let wide = too_wide version1 (not (sure_from b.code false) && not (sure_from u.code false)) joined in
          let fault : r.fault ≡ number_of (blocks_fault sw T (if_else sp x b.span b.code u.span u.code c) d σ) =
          merge-fault w r (exit (states sw) T u.code (suc d) σ) (sure_from u.code false) e.locals e.sure g
          ∙ ap number_of (sym (else-next (walk_fault version1 sw T u.code (suc d) σ) wide free))
          ∙ ap number_of (sym (else-next (walk_fault version1 sw T b.code (suc d) σ) (or_else (walk_fault version1 sw T u.code (suc d) σ) wide) clear)) in
          let at : v.place.at + 1 ≡ p.at + (6 + code_bytes b.code) + 1 = ap (λ (k : ℕ). k + 1) (a.at ∙ eq) in
          record {
            fault = fault;
            done = λ z. record {
              wrote =
                  subst (λ (k : ℕ). Wrote (both (block_own sw T b.span b.code (suc d) loop p.at σ) (both (byte 1) (block_own sw T u.span u.code (suc d) loop k σ))) p m r.place m₂) at
                  (merge-wrote (both (byte 1) (block_own sw T u.span u.code (suc d) loop (v.place.at + 1) σ)) w r m₂ next (exit (states sw) T u.code (suc d) σ) (sure_from u.code false) e g.place);
              inserted = ap (λ (y : Place). y.inserted) g.place ∙ e.inserted ∙ a.inserted;
              last = ap (λ (y : Place). y.last) g.place ∙ e.last ∙ a.last;
              at = ap (λ (y : Place). y.at) g.place ∙ e.at;
              locals = merge-locals w r (exit (states sw) T u.code (suc d) σ) (sure_from u.code false) e.locals e.sure g (fault ∙ ap number_of z);
            };
          }

    -- a fault of the second block
    pub second-fault : (sp : ℕ) (x : Expr) (u : Block) (c : Tree) (r : Walked) (m₂ : Memory) (next : ℕ) → r.fault ≡ number_of (walk_fault version1 sw T u.code (suc d) σ) → 0 < r.fault
        → BlocksWalk sw T (if_else sp x b.span b.code u.span u.code c) d loop σ p m r m₂ next
    second-fault sp x u c r m₂ next e lt =
        let joined = joins (states sw) (exit (states sw) T b.code (suc d) σ) (exit (states sw) T u.code (suc d) σ) in
        let wide = too_wide version1 (not (sure_from b.code false) && not (sure_from u.code false)) joined in
        let both-faults = else-next (walk_fault version1 sw T b.code (suc d) σ) (or_else (walk_fault version1 sw T u.code (suc d) σ) wide) clear in
        record {
          fault = else-number (walk_fault version1 sw T u.code (suc d) σ) wide r.fault lt e ∙ ap number_of (sym both-faults);
          done = λ z.
              let y = else-left (walk_fault version1 sw T u.code (suc d) σ) wide (sym both-faults ∙ z) in
              let h = e ∙ ap number_of y in
              absurd (omega arith);
        }

    -- a loop joins whether its body returns or not
    pub loop-blocks : (sp : ℕ) (x : Expr) (c : Tree) (w r : Walked) → w.place ≡ v.place → w.locals ≡ σ → w.sure ≡ false → Merges sw false σ v.locals w r
        → loop ≡ some (suc d) → (outer : Option ℕ) → BlocksWalk sw T (while sp x b.span b.code c) d outer σ p m r m₁ q
    loop-blocks sp x c w r ew ev es g own outer =
        let υ = joins (states sw) (exit (states sw) T b.code (suc d) σ) σ in
        let fault : r.fault ≡ number_of (blocks_fault sw T (while sp x b.span b.code c) d σ) =
        g.fault
        ∙ ap (λ (y : Bool). number_of (too_wide version1 (not false && not y) (joins (states sw) v.locals w.locals))) es
        ∙ ap (λ (y : Scope Status). number_of (too_wide version1 true (joins (states sw) y w.locals))) a.locals
        ∙ ap (λ (y : Scope Status). number_of (too_wide version1 true (joins (states sw) (exit (states sw) T b.code (suc d) σ) y))) ev
        ∙ ap number_of (sym (else-next (walk_fault version1 sw T b.code (suc d) σ) (too_wide version1 true υ) clear)) in
        record {
          fault = fault;
          done = λ z. record {
            wrote = subst (λ (k : Option ℕ). Wrote (block_own sw T b.span b.code (suc d) k p.at σ) p m r.place m₁) own
                (subst (λ (y : Place). Wrote (block_own sw T b.span b.code (suc d) loop p.at σ) p m y m₁) (sym (g.place ∙ ew)) a.wrote);
            inserted = ap (λ (y : Place). y.inserted) (g.place ∙ ew) ∙ a.inserted;
            last = ap (λ (y : Place). y.last) (g.place ∙ ew) ∙ a.last;
            at = ap (λ (y : Place). y.at) (g.place ∙ ew) ∙ a.at;
            locals =
                g.locals (fault ∙ ap number_of z)
                ∙ ap (λ (y : Bool). merge (states sw) false y σ v.locals w.locals) es
                ∙ ap (λ (y : Scope Status). joins (states sw) y w.locals) a.locals
                ∙ ap (λ (y : Scope Status). joins (states sw) (exit (states sw) T b.code (suc d) σ) y) ev;
          };
        }
