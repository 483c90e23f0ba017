-- The blocks of an IfElse and a While, from the walks of their blocks.
-- Assumes nothing.
use Prim.Native.Nat.{ℕ, suc, ◌+◌, ◌≤◌, ◌<◌}
use native.Mathlib.Omega.{arith}
use mathlib.Core.Path.{◌≡◌, refl, sym, ap, ◌∙◌, subst}
use mathlib.Core.Bool.{false}
use mathlib.Core.List.{List, [], ◌∷◌}
use mathlib.Core.Option.{Option, none, some}
use lib.ListN.{length, get_or}
use Rattle.rules.specs.Rules.{Switches}
use Rattle.image_fields.specs.Parsed.{ok}
use Rattle.image_fields.specs.Bytes.{Bytes}
use Rattle.tables.specs.Limits.{version1}
use Rattle.tables.specs.Tables.{Tables}
use Rattle.image_body.specs.Expr.{Scope as Reading}
use Rattle.image_body.specs.Stmt.{Block, if_else, if_then, while, block_at}
use Rattle.rules.specs.State.{State as Status}
use Rattle.rules.specs.Stack.{Stack as Scope}
use Rattle.rules.specs.Walk.{walk_fault}
use Rattle.image_writing.specs.Stored.{Stored}
use Rattle.statements_returns.specs.Returns.{BlockThere}
use Rattle.statements_acts.specs.declared.Place.{Place}
use Rattle.statements_acts.specs.Act.{Grows}
use Rattle.statements_steps.specs.Own.{byte, both, block_own}
use Rattle.rules.proofs.Numbers.{real-walk}
use Rattle.statements_steps.proofs.Faults.{real-none}
use Rattle.image_writing.specs.Memory.{Memory, memory}
use Rattle.blocks_laws.specs.Walks.{Walked, Wrote, BlockDone, BlockWalks, IfThere, IfWalks, LoopWalks}
use Rattle.blocks_laws.specs.Ends.{Merges}
use Rattle.image_writing.proofs.Stores.{none-stored}
use Rattle.image_lines.proofs.Told.{past, lined-same}
use Rattle.blocks_laws.proofs.Wrotes.{and_none, wrote-both}
use Rattle.blocks_laws.proofs.Blocks.{block-end}
use Rattle.blocks_laws.proofs.Branches.{ElseWalks, ElseThere, first-fault, if-then, if-else, second-fault, loop-blocks}
use Rattle.blocks_laws.specs.Places.{flagged}

module _ (s : List ℕ) (p q : Place) (written b : ℕ) (out out₁ errs warns lefts : List ℕ) (eq : q ≡ flagged p written) (x : Stored out p.written (b ∷ []) out₁ written) where
  pub flag-wrote : Wrote (byte b) p (memory out errs warns lefts) q (memory out₁ errs warns lefts)
  flag-wrote = subst (λ (y : Place). Wrote (byte b) p (memory out errs warns lefts) y (memory out₁ errs warns lefts)) (sym eq) (record {
    bytes = λ n h. x;
    long = x.place;
    errors = λ n. none-stored errs p.errors;
    warnings = λ n. none-stored warns p.warnings;
    lefts = λ n. none-stored lefts p.lefts;
    lines = λ y h. lined-same (past x h).0 refl;
    fits = and_none p.fits;
    paged = refl;
  })

module _ (s : List ℕ) (p q : Place) (written b : ℕ) (out out₁ : List ℕ) (eq : q ≡ flagged p written) (x : Stored out p.written (b ∷ []) out₁ written) where
  pub flag-grows : p.at < length s → Grows s p q
  flag-grows inside =
      subst (Grows s p) (sym eq) (let w : written ≡ p.written + 1 = x.place in
      record { on = omega arith; inside = omega arith; written = omega arith; errors = omega arith; warnings = omega arith; lefts = omega arith; inserted = omega arith })

module _ (sw : Switches) (T : Tables) (s : List ℕ) (left d : ℕ) (loop : Option ℕ) (σ : Scope Status) (p q : Place) (written : ℕ) (out out₁ errs warns lefts : List ℕ) (eq : q ≡ flagged p written)
    (x : Stored out p.written (get_or s p.at 0 ∷ []) out₁ written) where
  -- no second block
  pub else-none : get_or s p.at 0 ≡ 0 → (r : Walked) → r ≡ record { fault = 0; sure = false; place = q; locals = σ }
      → ElseWalks sw T s left d loop σ p (memory out errs warns lefts) r (memory out₁ errs warns lefts)
  else-none z r er = record {
    without = λ h. (
      ap (λ (w : Walked). w.fault) er,
      record {
        wrote = subst (λ (y : Place). Wrote (byte 0) p (memory out errs warns lefts) y (memory out₁ errs warns lefts)) (sym (ap (λ (w : Walked). w.place) er))
            (flag-wrote s p q written 0 out out₁ errs warns lefts eq (subst (λ (k : ℕ). Stored out p.written (k ∷ []) out₁ written) z x));
        inserted = ap (λ (w : Walked). w.place.inserted) er ∙ ap (λ (y : Place). y.inserted) eq;
        last = ap (λ (w : Walked). w.place.last) er ∙ ap (λ (y : Place). y.last) eq;
        at = ap (λ (w : Walked). w.place.at) er ∙ ap (λ (y : Place). y.at) eq;
        locals = ap (λ (w : Walked). w.locals) er;
        sure = ap (λ (w : Walked). w.sure) er;
      },
    );
    with = λ h. absurd (omega arith);
  }

  -- the second block
  pub else-block : (get_or s p.at 0 ≡ 0 → ⊥) → (r : Walked) (m' : Memory) → BlockWalks sw T s left d loop σ q (memory out₁ errs warns lefts) r m'
      → ElseWalks sw T s left d loop σ p (memory out errs warns lefts) r m'
  else-block nz r m' w = record {
    without = λ h. absurd (nz h);
    with = λ h t deep b next e.
        let at : q.at ≡ p.at + 1 = ap (λ (y : Place). y.at) eq in
        let g = w.walks t deep b next (subst (λ (k : ℕ). block_at t s left k ≡ ok b next) (sym at) e) in (
          g.0,
          λ clear.
              let a = g.1 clear in
              record {
                wrote = subst (λ (k : ℕ). Wrote (both (byte 1) (block_own sw T b.span b.code d loop k σ)) p (memory out errs warns lefts) r.place m') at
                    (wrote-both (flag-wrote s p q written 1 out out₁ errs warns lefts eq (subst (λ (k : ℕ). Stored out p.written (k ∷ []) out₁ written) h x)) a.wrote);
                inserted = a.inserted ∙ ap (λ (y : Place). y.inserted) eq;
                last = a.last ∙ ap (λ (y : Place). y.last) eq;
                at = a.at;
                locals = a.locals;
                sure = a.sure;
              },
        );
  }

-- the blocks of an IfElse
pub then-there : (s : List ℕ) (left at : ℕ) → IfThere s left at → BlockThere s left at
then-there s left at i = let h = i.there in record { t = h.t; deep = h.deep; b = h.b; next = h.flag; read = h.body }

module _ (sw : Switches) (T : Tables) (s : List ℕ) (small : Bytes s) (left d : ℕ) (loop : Option ℕ) (σ : Scope Status) (p : Place) (m : Memory) (v : Walked) (m₁ : Memory) (bw : BlockWalks sw T s left (suc d) loop σ p m v m₁) where
  -- a fault of the first block
  pub if-first : 0 < v.fault → IfWalks sw T s left d loop σ p m v m₁
  if-first lt = record {
    without = λ t deep b q e z sp x c. first-fault sw T s small t left d loop σ p m (if_then sp x b.span b.code c) b _ refl v m₁ (q + 1) (bw.walks t deep b q e).0 lt;
    with = λ t deep b q e z u next e' sp x c. first-fault sw T s small t left d loop σ p m (if_else sp x b.span b.code u.span u.code c) b _ refl v m₁ next (bw.walks t deep b q e).0 lt;
  }

  pub loop-first : 0 < v.fault → (outer : Option ℕ) → LoopWalks sw T s left d outer σ p m v m₁
  loop-first lt outer = record { walks = λ t deep b q e sp x c. first-fault sw T s small t left d outer σ p m (while sp x b.span b.code c) b _ refl v m₁ q (bw.walks t deep b q e).0 lt }

  module _ (z : v.fault ≤ 0) where
    -- the first block without a fault
    first-clear : (t : Reading) → t.expr_depth ≡ 24 → (b : Block) (q : ℕ) → block_at t s left p.at ≡ ok b q → walk_fault version1 sw T b.code (suc d) σ ≡ none
    first-clear t deep b q e =
        let f = (bw.walks t deep b q e).0 in
        real-none (walk_fault version1 sw T b.code (suc d) σ) (real-walk version1 sw T b.code (suc d) σ) (sym f ∙ omega arith)

    first_done : (t : Reading) (deep : t.expr_depth ≡ 24) (b : Block) (q : ℕ) → block_at t s left p.at ≡ ok b q → BlockDone sw T b (suc d) loop σ p m v m₁ q
    first_done t deep b q e = (bw.walks t deep b q e).1 (first-clear t deep b q e)

    pub loop-walks : (w r : Walked) → w.place ≡ v.place → w.locals ≡ σ → w.sure ≡ false → Merges sw false σ v.locals w r → loop ≡ some (suc d) → (outer : Option ℕ) → LoopWalks sw T s left d outer σ p m r m₁
    loop-walks w r ew ev es g own outer = record {
      walks = λ t deep b q e sp x c.
          loop-blocks sw T s small t left d loop σ p m b v m₁ q (first-clear t deep b q e) (first_done t deep b q e) sp x c w r ew ev es g own outer;
    }

    -- the flag was read where the first block ends
    pub else-there : IfThere s left p.at → ElseThere s left v.place.at
    else-there i =
        let h = i.there in
        let at : v.place.at ≡ h.flag = (first_done h.t h.deep h.b h.flag h.body).at in
        record {
          inside = let l = h.end in omega arith;
          flag = subst (λ (k : ℕ). get_or s k 0 < 2) (sym at) i.flag;
          with = λ lt.
              let o = h.other (subst (λ (k : ℕ). 0 < get_or s k 0) at lt) in
              record { t = h.t; deep = h.deep; b = o.0; next = o.1; read = subst (λ (k : ℕ). block_at h.t s left (k + 1) ≡ ok o.0 o.1) (sym at) o.2 };
        }

    module _ (w : Walked) (m₂ : Memory) (ew : ElseWalks sw T s left (suc d) loop σ v.place m₁ w m₂) where
      flag_at : (t : Reading) (deep : t.expr_depth ≡ 24) (b : Block) (q : ℕ) → block_at t s left p.at ≡ ok b q → {k : ℕ} → get_or s q 0 ≡ k → get_or s v.place.at 0 ≡ k
      flag_at t deep b q e {k} h = subst (λ (i : ℕ). get_or s i 0 ≡ k) (sym (first_done t deep b q e).at) h

      other_at : (t : Reading) (deep : t.expr_depth ≡ 24) (b : Block) (q : ℕ) → block_at t s left p.at ≡ ok b q → (u : Block) (next : ℕ) → block_at t s left (q + 1) ≡ ok u next
          → block_at t s left (v.place.at + 1) ≡ ok u next
      other_at t deep b q e u next e' = subst (λ (i : ℕ). block_at t s left (i + 1) ≡ ok u next) (sym (first_done t deep b q e).at) e'

      -- a fault of the second block
      pub if-second : 0 < w.fault → IfWalks sw T s left d loop σ p m w m₂
      if-second lt = record {
        without = λ t deep b q e h sp x c. let f = (ew.without (flag_at t deep b q e h)).0 in absurd (omega arith);
        with = λ t deep b q e h u next e' sp x c.
            second-fault sw T s small t left d loop σ p m b v m₁ q (first-clear t deep b q e) (first_done t deep b q e) sp x u c w m₂ next
            (ew.with (flag_at t deep b q e h) t deep u next (other_at t deep b q e u next e')).0 lt;
      }

      pub if-walks : w.fault ≤ 0 → (r : Walked) → Merges sw v.sure σ v.locals w r → IfWalks sw T s left d loop σ p m r m₂
      if-walks y r g = record {
        without = λ t deep b q e h sp x c.
            if-then sw T s small t left d loop σ p m b v m₁ q (first-clear t deep b q e) (first_done t deep b q e) w r m₂ g sp x c (ew.without (flag_at t deep b q e h)).1;
        with = λ t deep b q e h u next e' sp x c.
            let k = ew.with (flag_at t deep b q e h) t deep u next (other_at t deep b q e u next e') in
            let f = k.0 in
            let free = real-none (walk_fault version1 sw T u.code (suc d) σ) (real-walk version1 sw T u.code (suc d) σ) (sym f ∙ omega arith) in
            if-else sw T s small t left d loop σ p m b v m₁ q (first-clear t deep b q e) (first_done t deep b q e) w r m₂ g sp x u next c (block-end s small t left p.at b q e) free (k.1 free);
      }
