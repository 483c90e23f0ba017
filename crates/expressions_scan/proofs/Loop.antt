-- What the loop of a scan keeps, and what it comes back with.
-- Assumes nothing.
use Prim.Native.Nat.{ℕ, ◌+◌, ◌*◌, ◌≤◌, ◌<◌}
use mathlib.Core.Path.{◌≡◌, refl, sym, ap, subst}
use mathlib.Core.Bool.{Bool, true, false}
use Rattle.image_fields.proofs.Tests.{false-true}
use mathlib.Core.List.{List}
use native.Mathlib.Omega.{arith}
use Rattle.tables.specs.Tables.{Tables}
use Rattle.rules.specs.State.{State as Status}
use Rattle.rules.specs.Stack.{Stack as Scope}
use Rattle.tables_lookup.specs.Lent.{Says}
use Rattle.expressions_effects.specs.Asked.{emits}
use Rattle.tables_lookup.proofs.Lent.{tables_of, said}
use Rattle.expressions_steps.specs.Scan.{Stage, Stacked, Ready, Goes, nodes_after, open_after, fuel}
use Rattle.expressions_steps.specs.declared.Open.{Open}
use Rattle.expressions_steps.specs.declared.Step.{Step}
use Rattle.expressions_steps.proofs.Start.{ready-next}
use Rattle.std.specs.Prelude.{Option, None, Some, is_some}
use Rattle.expressions_scan.specs.declared.Mark.{Mark}
use Rattle.expressions_scan.specs.declared.Answer.{Answer}
use Rattle.expressions_scan.specs.declared.Scanned.{Scanned}
use Rattle.scope_state.specs.Locals.{lent}
use Rattle.expressions_scan.specs.Changes.{applied, Tells, Marks}
use Rattle.expressions_scan.specs.Resumed.{Onward, Came, Going}
use Rattle.expressions_scan.proofs.Onward.{onward-none, onward-both, onward-step, onward-as}

-- whether there is a change
pub marked : {c : Option Mark} → true ≡ is_some c → (m : Mark) × (c ≡ Some m)
marked {c = None} e = false-true (sym e)
marked {c = Some m} e = (m, refl)

pub unmarked : {c : Option Mark} → false ≡ is_some c → c ≡ None
unmarked {c = None} e = refl
unmarked {c = Some m} e = false-true e

-- where a scan stands after a step and the answer to its effect
abbrev pub stepped : ℕ → Step → Answer → Scanned
stepped d r a = record { at = r.at; nodes = open_after d r; told = a.told; change = a.change }

module _ (s tb : List ℕ) (locals : List ℕ) (at : ℕ → Status) (n : ℕ) (nodes : List Open) (count pos : ℕ) (paged : Bool) (errors page : List ℕ) (told : ℕ) where
  -- no change so far
  pub record Scan (ns : List Open) (v : Scanned) (new out : List ℕ) : Type 0 where
    pub quiet : v.change ≡ None
    pub ready : Ready s ns v.nodes v.at
    pub most : v.told + 219 * fuel s v.nodes v.at ≤ told + 219 * fuel s count pos
    pub less : fuel s v.nodes v.at ≤ fuel s count pos
    pub ends : (frames : List Stage) (end : ℕ) → Stacked nodes count frames s pos end → (fs : List Stage) × Stacked ns v.nodes fs s v.at end
    pub onward : (T : Tables) → Says s tb T → (types depths births : List ℕ) (σ : Scope Status) → σ ≡ lent locals types depths births at n
        → Onward T s nodes count pos σ paged errors page told ns v.nodes v.at σ new out v.told

  -- what it comes back with
  abbrev pub Stops : List Open → List ℕ → List ℕ → Scanned → Type 0
  Stops ns new out v =
      ((T : Tables) → Says s tb T → (types depths births : List ℕ) (σ : Scope Status) → σ ≡ lent locals types depths births at n
      → Onward T s nodes count pos σ paged errors page told ns v.nodes v.at (applied v.change σ) new out v.told) × Going s nodes count pos told ns v

  pub scan-start : Ready s nodes count pos → Scan nodes (record { at = pos; nodes = count; told = told; change = None }) errors page
  scan-start g = record { quiet = refl; ready = g; most = omega arith; less = omega arith; ends = λ frames end st. (frames, st); onward = λ T sy types depths births σ h. onward-none nodes count pos σ paged errors page told }

  module _ {ns : List Open} {v : Scanned} {new out : List ℕ} (w : Scan ns v new out) (ns' : List Open) (r : Step) (en : ns' ≡ nodes_after ns v.nodes r)
      (g : (T : Tables) → Says s tb T → Goes T s ns v.nodes v.at r) where
    -- whatever tables stand there
    abbrev pub some-goes : Goes (tables_of s tb) s ns v.nodes v.at r
    some-goes = g (tables_of s tb) (said s tb)

    step-ready : Ready s ns' (open_after v.nodes r) r.at
    step-ready =
        subst (λ os. Ready s os (open_after v.nodes r) r.at) (sym en) (ready-next (tables_of s tb) s ns v.nodes v.at r w.ready some-goes)

    step-ends : (frames : List Stage) (end : ℕ) → Stacked nodes count frames s pos end
        → (fs : List Stage) × Stacked ns' (open_after v.nodes r) fs s r.at end
    step-ends frames end st =
        let z = w.ends frames end st in
        let k = some-goes.steps z.0 end z.1 in
        (k.after, subst (λ os. Stacked os (open_after v.nodes r) k.after s r.at end) (sym en) k.stacked)

    module _ {newer out' : List ℕ} {a : Answer}
        (q : ((types depths births : List ℕ) → Tells paged (emits r.effect) (lent locals types depths births at n) new out v.told newer out' a) × (a.told ≤ v.told + 219) × Marks a.change) where
      step-onward : (T : Tables) → Says s tb T → (types depths births : List ℕ) (σ : Scope Status) → σ ≡ lent locals types depths births at n
          → Onward T s nodes count pos σ paged errors page told ns' (open_after v.nodes r) r.at (applied a.change σ) newer out' a.told
      step-onward T sy types depths births σ h =
          onward-as (sym en) refl (onward-both (w.onward T sy types depths births σ h) (onward-step r a (g T sy) (subst (λ x. Tells paged (emits r.effect) x new out v.told newer out' a) (sym h) (q.0 types depths births))))

      step-most : a.told + 219 * fuel s (open_after v.nodes r) r.at ≤ told + 219 * fuel s count pos
      step-most = let f = some-goes.falls in let m = w.most in let o = q.1 in omega arith

      step-less : fuel s (open_after v.nodes r) r.at < fuel s count pos
      step-less = let f = some-goes.falls in let m = w.less in omega arith

      -- nothing is to change: the loop goes on
      pub scan-next : a.change ≡ None → Scan ns' (stepped v.nodes r a) newer out'
      scan-next e = record {
        quiet = e;
        ready = step-ready;
        most = step-most;
        less = let f = step-less in omega arith;
        ends = step-ends;
        onward = λ T sy types depths births σ h. onward-as refl (ap (λ z. applied z σ) e) (step-onward T sy types depths births σ h);
      }

      -- a change: the scan comes back
      pub scan-stop : (m : Mark) → a.change ≡ Some m → Stops ns' newer out' (stepped v.nodes r a)
      scan-stop m e = (
        step-onward,
        record {
          ready = step-ready;
          ends = step-ends;
          most = step-most;
          came = subst (λ z. Came z (open_after v.nodes r) (fuel s count pos) (fuel s (open_after v.nodes r) r.at)) (sym e) step-less;
          marks = q.2;
        },
      )

  -- no node is open
  pub scan-end : {ns : List Open} {v : Scanned} {new out : List ℕ} → v.nodes ≤ 0 → Scan ns v new out → Stops ns new out v
  scan-end {ns} {v} le w = (
    λ T sy types depths births σ h. onward-as refl (ap (λ z. applied z σ) (sym w.quiet)) (w.onward T sy types depths births σ h),
    record {
      ready = w.ready;
      ends = w.ends;
      most = w.most;
      came = subst (λ z. Came z v.nodes (fuel s count pos) (fuel s v.nodes v.at)) (sym w.quiet) (omega arith);
      marks = subst Marks (sym w.quiet) tt;
    },
  )
