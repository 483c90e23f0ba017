-- The effects of one expression, and of the two of an assignment, as the rules name them.
-- Assumes nothing.
use mathlib.Core.Path.{◌≡◌, ap, ◌∙◌}
use mathlib.Core.Bool.{false}
use mathlib.Core.List.{[], ◌++◌, append-nil}
use Rattle.tables.specs.Tables.{Tables}
use Rattle.image_body.specs.Expr.{Expr, none, more}
use Rattle.rules.specs.State.{State as Status}
use Rattle.rules.specs.Stack.{Shape, shape, Stack as Scope}
use Rattle.rules.specs.Effects.{raws, group, resolve_all, effects, assign_effects}
use Rattle.rules.specs.Rules.{off, states, apply_all, evaluate, before_assign}
use Rattle.rules.specs.Report.{report_all}
use Rattle.rules.proofs.ByTag.{resolve-append}
use Rattle.expressions_scan.proofs.Values.{after_all, told_all}

module _ (T : Tables) where
  group-one : (Γ : Shape) (e : Expr) → resolve_all Γ (group T false (more e none)) ≡ effects T Γ e
  unfolding effects
  group-one Γ e = ap (resolve_all Γ) (append-nil (raws T e))

  group-two : (Γ : Shape) (d v : Expr) → resolve_all Γ (group T false (more d (more v none))) ≡ assign_effects T Γ d v
  unfolding effects assign_effects
  group-two Γ d v = resolve-append Γ (raws T d) (raws T v ++ []) ∙ ap (λ l. effects T Γ d ++ resolve_all Γ l) (append-nil (raws T v))

  module _ (σ : Scope Status) where
    pub after_one : (e : Expr) → after_all T (more e none) σ ≡ evaluate (states off) T e σ
    after_one e = ap (λ l. apply_all (states off) l σ) (group-one (shape σ) e)

    pub told-one : (e : Expr) → told_all T (more e none) σ ≡ report_all (effects T (shape σ) e) σ
    told-one e = ap (λ l. report_all l σ) (group-one (shape σ) e)

    pub after_two : (d v : Expr) → after_all T (more d (more v none)) σ ≡ before_assign (states off) T d v σ
    after_two d v = ap (λ l. apply_all (states off) l σ) (group-two (shape σ) d v)

    pub told-two : (d v : Expr) → told_all T (more d (more v none)) σ ≡ report_all (assign_effects T (shape σ) d v) σ
    told-two d v = ap (λ l. report_all l σ) (group-two (shape σ) d v)
