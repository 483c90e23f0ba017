-- From the start of a statement's values to their end, whatever changes were handed out on the way.
-- Assumes nothing.
use Prim.Native.Nat.{ℕ, ◌≤◌}
use mathlib.Core.Path.{◌≡◌, sym, ap, ◌∙◌, subst}
use mathlib.Core.Bool.{Bool, false}
use mathlib.Core.List.{List, [], ◌∷◌, ◌++◌, append-nil}
use lib.ListN.{length}
use Rattle.tables.specs.Tables.{Tables}
use Rattle.image_body.specs.Expr.{Exprs}
use Rattle.rules.specs.State.{State as Status}
use Rattle.rules.specs.Stack.{Stack as Scope}
use Rattle.rules.specs.Report.{Report}
use Rattle.rules.specs.Effects.{Raw, group}
use Rattle.expressions_steps.specs.Scan.{root_of, top_of}
use Rattle.expressions_steps.specs.declared.Open.{Open}
use Rattle.expressions_steps.proofs.Start.{root, starts, start-tells, finished}
use Rattle.image_lines.specs.Told.{Listed}
use Rattle.expressions_scan.specs.Changes.{after, told, Standing}
use Rattle.expressions_scan.specs.Resumed.{Onward}
use Rattle.expressions_scan.proofs.Runs.{after_none, told_none}

-- validate_expr of each expression in turn: the locals after, and the errors
abbrev pub after_all : Tables → Exprs → Scope Status → Scope Status
after_all T es σ = after (group T false es) σ

abbrev pub told_all : Tables → Exprs → Scope Status → List Report
told_all T es σ = told (group T false es) σ

-- the values: the locals after them, their errors stored, and where they end
pub record Valued (T : Tables) (s : List ℕ) (k at : ℕ) (σ : Scope Status) (paged : Bool) (old out : List ℕ) (m p : ℕ) (τ : Scope Status) (new out' : List ℕ) (m' : ℕ) (es : Exprs) (next : ℕ) : Type 0 where
  pub locals : τ ≡ after_all T es σ
  pub errors : Listed paged (told_all T es σ) old out m new out' m'
  pub end : p ≡ next

module _ {T : Tables} {s : List ℕ} {k at : ℕ} {σ : Scope Status} {paged : Bool} {old out : List ℕ} {m : ℕ} {os os' : List Open} {n p : ℕ} {τ : Scope Status} {new out' : List ℕ} {m' : ℕ} where
  pub valued : top_of os 1 ≡ root_of k → at ≤ length s → n ≤ 0 → Onward T s os 1 at σ paged old out m os' n p τ new out' m'
      → (es : Exprs) (next : ℕ) → Standing s k at es next → Valued T s k at σ paged old out m p τ new out' m' es next
  valued eo le none o es next st =
      let x = o.goes (root es ∷ []) next (starts s os k at es next eo le st.stand st.many st.shallow) in
      let z = finished T s os' n p next x.after' none x.stacked in
      record {
        locals = sym (ap (λ (l : List Raw). after l σ) (sym (start-tells T es)) ∙ x.locals ∙ ap (λ (l : List Raw). after l τ) z.0 ∙ after_none τ);
        errors = subst (λ (l : List Report). Listed paged l old out m new out' m') (sym (
            ap (λ (l : List Raw). told l σ) (sym (start-tells T es)) ∙ x.reports ∙ ap (λ (l : List Raw). o.reports ++ told l τ) z.0
            ∙ ap (λ l. o.reports ++ l) (told_none τ) ∙ append-nil o.reports
            )) o.stored;
        end = z.1;
      }
