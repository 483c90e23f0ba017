-- How a scan goes on: laws that join what it does up to one change with what it does up to the next.
-- Assumes nothing.
use Prim.Native.Nat.{ℕ}
use mathlib.Core.Path.{◌≡◌, refl, sym, ap, ◌∙◌, subst}
use mathlib.Core.Bool.{Bool}
use mathlib.Core.List.{List, [], ◌++◌, append_assoc}
use Rattle.tables.specs.Tables.{Tables}
use Rattle.rules.specs.State.{State as Status}
use Rattle.rules.specs.Stack.{Stack as Scope}
use Rattle.expressions_effects.specs.Asked.{emits}
use Rattle.expressions_steps.specs.Scan.{pending, nodes_after, open_after, Goes}
use Rattle.expressions_steps.specs.declared.Open.{Open}
use Rattle.expressions_steps.specs.declared.Step.{Step}
use Rattle.image_lines.proofs.Told.{listed-none, listed-both}
use Rattle.expressions_scan.specs.declared.Answer.{Answer}
use Rattle.expressions_scan.specs.Changes.{after, told, applied, Tells}
use Rattle.expressions_scan.specs.Resumed.{Onward}
use Rattle.expressions_scan.proofs.Runs.{after-append, told-append}

module _ {T : Tables} {s : List ℕ} where
  -- nothing is done
  pub onward-none : (os : List Open) (n p : ℕ) (σ : Scope Status) (paged : Bool) (old out : List ℕ) (m : ℕ) → Onward T s os n p σ paged old out m os n p σ old out m
  onward-none os n p σ paged old out m = record {
    reports = [];
    stored = listed-none paged old out m;
    goes = λ frames end st. record { after' = frames; stacked = st; locals = refl; reports = refl };
  }

  -- one after the other
  pub onward-both : {os os' os'' : List Open} {n n' n'' p p' p'' m m' m'' : ℕ} {σ τ υ : Scope Status} {paged : Bool} {old new newer out out' out'' : List ℕ}
      → Onward T s os n p σ paged old out m os' n' p' τ new out' m' → Onward T s os' n' p' τ paged new out' m' os'' n'' p'' υ newer out'' m'' → Onward T s os n p σ paged old out m os'' n'' p'' υ newer out'' m''
  onward-both a b = record {
    reports = a.reports ++ b.reports;
    stored = listed-both a.stored b.stored;
    goes = λ frames end st. (
        let x = a.goes frames end st in
        let y = b.goes x.after' end x.stacked in
        record {
          after' = y.after';
          stacked = y.stacked;
          locals = x.locals ∙ y.locals;
          reports = x.reports ∙ ap (λ l. a.reports ++ l) y.reports ∙ sym (append_assoc a.reports b.reports _);
        }
        );
  }

  -- one step of crate expressions_steps, and the answer to its effect
  pub onward-step : {os : List Open} {n p m : ℕ} {σ : Scope Status} {paged : Bool} {old new out out' : List ℕ} (r : Step) (a : Answer) → Goes T s os n p r → Tells paged (emits r.effect) σ old out m new out' a
      → Onward T s os n p σ paged old out m (nodes_after os n r) (open_after n r) r.at (applied a.change σ) new out' a.told
  onward-step {os} {n} {p} {m} {σ} r a g q = record {
    reports = told (emits r.effect) σ;
    stored = q.errors;
    goes = λ frames end st. (
        let x = g.steps frames end st in
        record {
          after' = x.after;
          stacked = x.stacked;
          locals = ap (λ l. after l σ) x.tells ∙ after-append (emits r.effect) (pending T x.after) σ ∙ ap (λ (y : Scope Status). after (pending T x.after) y) (sym q.locals);
          reports =
              ap (λ l. told l σ) x.tells
              ∙ told-append (emits r.effect) (pending T x.after) σ
              ∙ ap (λ (y : Scope Status). told (emits r.effect) σ ++ told (pending T x.after) y) (sym q.locals);
        }
        );
  }

  -- the same nodes and locals, said otherwise
  pub onward-as : {os os' os'' : List Open} {n n' p p' m m' : ℕ} {σ τ υ : Scope Status} {paged : Bool} {old new out out' : List ℕ} → os' ≡ os'' → τ ≡ υ
      → Onward T s os n p σ paged old out m os' n' p' τ new out' m' → Onward T s os n p σ paged old out m os'' n' p' υ new out' m'
  onward-as {os} {os'} {os''} {n} {n'} {p} {p'} {m} {m'} {σ} {τ} {υ} {paged} {old} {new} {out} {out'} e f a =
      subst (λ x. Onward T s os n p σ paged old out m os'' n' p' x new out' m') f (subst (λ x. Onward T s os n p σ paged old out m x n' p' τ new out' m') e a)
