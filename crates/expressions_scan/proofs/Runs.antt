-- Raw effects one after another: the locals after them, and what they report.
-- Assumes nothing.
use mathlib.Core.Path.{◌≡◌, refl, sym, ap, ◌∙◌}
use mathlib.Core.List.{List, [], ◌∷◌, ◌++◌, append_assoc}
use Rattle.rules.specs.State.{State as Status}
use Rattle.rules.specs.Stack.{Shape, shape, Stack as Scope}
use Rattle.rules.specs.Effects.{Effect, Raw, resolve_all}
use Rattle.rules.specs.Rules.{states, apply, apply_all, off}
use Rattle.rules.specs.Report.{report_of, report_all}
use Rattle.rules.proofs.Shapes.{shape-all}
use Rattle.rules.proofs.ByTag.{resolve-append}
use Rattle.expressions_scan.specs.Changes.{after, told}

pub apply-append : (xs ys : List Effect) (σ : Scope Status) → apply_all (states off) (xs ++ ys) σ ≡ apply_all (states off) ys (apply_all (states off) xs σ)
apply-append [] ys σ = refl
apply-append (x ∷ xs) ys σ = apply-append xs ys (apply (states off) x σ)

pub report-append : (xs ys : List Effect) (σ : Scope Status) → report_all (xs ++ ys) σ ≡ report_all xs σ ++ report_all ys (apply_all (states off) xs σ)
report-append [] ys σ = refl
report-append (x ∷ xs) ys σ =
    ap (λ l. report_of x σ ++ l) (report-append xs ys (apply (states off) x σ))
    ∙ sym (append_assoc (report_of x σ) (report_all xs (apply (states off) x σ)) (report_all ys (apply_all (states off) xs (apply (states off) x σ))))

shape-after : (rs : List Raw) (σ : Scope Status) → shape (after rs σ) ≡ shape σ
shape-after rs σ = shape-all (states off) (resolve_all (shape σ) rs) σ

pub after-append : (xs ys : List Raw) (σ : Scope Status) → after (xs ++ ys) σ ≡ after ys (after xs σ)
after-append xs ys σ =
    ap (λ l. apply_all (states off) l σ) (resolve-append (shape σ) xs ys)
    ∙ apply-append (resolve_all (shape σ) xs) (resolve_all (shape σ) ys) σ
    ∙ ap (λ (Γ : Shape). apply_all (states off) (resolve_all Γ ys) (after xs σ)) (sym (shape-after xs σ))

pub told-append : (xs ys : List Raw) (σ : Scope Status) → told (xs ++ ys) σ ≡ told xs σ ++ told ys (after xs σ)
told-append xs ys σ =
    ap (λ l. report_all l σ) (resolve-append (shape σ) xs ys)
    ∙ report-append (resolve_all (shape σ) xs) (resolve_all (shape σ) ys) σ
    ∙ ap (λ (Γ : Shape). told xs σ ++ report_all (resolve_all Γ ys) (after xs σ)) (sym (shape-after xs σ))

pub after_none : (σ : Scope Status) → after [] σ ≡ σ
unfolding resolve_all
after_none σ = refl

pub told_none : (σ : Scope Status) → told [] σ ≡ []
unfolding resolve_all
told_none σ = refl
