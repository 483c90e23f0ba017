-- The three lists of what is reported, one after another.
-- Assumes nothing.
use Prim.Native.Nat.{ℕ}
use mathlib.Core.Path.{◌≡◌, refl, ap, ◌∙◌}
use mathlib.Core.Bool.{Bool, true, false, cond, ◌&&◌}
use mathlib.Core.List.{List, [], ◌∷◌, ◌++◌}
use mathlib.Core.Option.{Option, some}
use Rattle.tables.specs.Tables.{Tables}
use Rattle.image_body.specs.Stmt.{Tree, done, expr_stmt, variable, assign, return, bare_return, block, if_else, if_then, while, jump}
use Rattle.rules.specs.Questions.{auto}
use Rattle.rules.specs.State.{State as Status, is_alive, alive, gone, deleted, moved, consumed}
use Rattle.rules.specs.Stack.{Static, Local, local, lookup, Stack as Scope}
use Rattle.rules.specs.Effects.{Effect, use', kill, hand, bad_move, global_move}
use Rattle.rules.specs.Rules.{Switches, off, on, Place, at_bare_return, at_jump, concerns, gather, states, apply}
use Rattle.rules.specs.Report.{Report, error, warning, left, bad_use, use_of, report_of, report_all, unused, left_at, left_behind, errors, warnings, lefts}
use Rattle.statements_steps.specs.Statement.{wrapped, front_reports}

pub errors-append : (xs ys : List Report) → errors (xs ++ ys) ≡ errors xs ++ errors ys
errors-append [] ys = refl
errors-append (error k p h ps ∷ xs) ys = ap (λ (z : List Report). error k p h ps ∷ z) (errors-append xs ys)
errors-append (warning s o ∷ xs) ys = errors-append xs ys
errors-append (left s n b ∷ xs) ys = errors-append xs ys

pub warnings-append : (xs ys : List Report) → warnings (xs ++ ys) ≡ warnings xs ++ warnings ys
warnings-append [] ys = refl
warnings-append (error k p h ps ∷ xs) ys = warnings-append xs ys
warnings-append (warning s o ∷ xs) ys = ap (λ (z : List Report). warning s o ∷ z) (warnings-append xs ys)
warnings-append (left s n b ∷ xs) ys = warnings-append xs ys

pub lefts-append : (xs ys : List Report) → lefts (xs ++ ys) ≡ lefts xs ++ lefts ys
lefts-append [] ys = refl
lefts-append (error k p h ps ∷ xs) ys = lefts-append xs ys
lefts-append (warning s o ∷ xs) ys = lefts-append xs ys
lefts-append (left s n b ∷ xs) ys = ap (λ (z : List Report). left s n b ∷ z) (lefts-append xs ys)

-- only errors
abbrev pub Errors : List Report → Type 0
Errors xs = (errors xs ≡ xs) × (warnings xs ≡ []) × (lefts xs ≡ [])

errors-both : (xs ys : List Report) → Errors xs → Errors ys → Errors (xs ++ ys)
errors-both xs ys a b = (
  errors-append xs ys ∙ ap (λ (z : List Report). z ++ errors ys) a.0 ∙ ap (λ (z : List Report). xs ++ z) b.0,
  warnings-append xs ys ∙ ap (λ (z : List Report). z ++ warnings ys) a.1 ∙ b.1,
  lefts-append xs ys ∙ ap (λ (z : List Report). z ++ lefts ys) a.2 ∙ b.2,
)

bad-use : (s : ℕ) (a : Status) → Errors (bad_use s a)
bad-use s alive = (refl, refl, refl)
bad-use s (gone false deleted ps) = (refl, refl, refl)
bad-use s (gone false moved ps) = (refl, refl, refl)
bad-use s (gone false consumed ps) = (refl, refl, refl)
bad-use s (gone true deleted ps) = (refl, refl, refl)
bad-use s (gone true moved ps) = (refl, refl, refl)
bad-use s (gone true consumed ps) = (refl, refl, refl)

use-errors : (s : ℕ) (l : Option (Local Status)) → Errors (use_of s l)
use-errors s Option.none = (refl, refl, refl)
use-errors s (some (local l a)) = bad-use s a

of-errors : (e : Effect) (σ : Scope Status) → Errors (report_of e σ)
of-errors (use' n s) σ = use-errors s (lookup n σ)
of-errors (kill k n s) σ = (refl, refl, refl)
of-errors (hand n s) σ = (refl, refl, refl)
of-errors (bad_move s h) σ = (refl, refl, refl)
of-errors (global_move s g) σ = (refl, refl, refl)

-- effects report only errors
pub all-errors : (es : List Effect) (σ : Scope Status) → Errors (report_all es σ)
all-errors [] σ = (refl, refl, refl)
all-errors (e ∷ es) σ = errors-both (report_of e σ) (report_all es (apply (states off) e σ)) (of-errors e σ) (all-errors es (apply (states off) e σ))

-- only entries of what is left behind
abbrev pub Lefts : List Report → Type 0
Lefts xs = (errors xs ≡ []) × (warnings xs ≡ []) × (lefts xs ≡ xs)

pub only-left : (T : Tables) (q : Static → Bool) (s : ℕ) (σ : Scope Status) → Lefts (gather (states off) T q (left_at s) σ)
only-left T q s [] = (refl, refl, refl)
only-left T q s (local x a ∷ σ) = go (q x && is_alive a && auto T x.ty) (only-left T q s σ)
  where
    go : (b : Bool) → Lefts (gather (states off) T q (left_at s) σ) → Lefts (cond b (left_at s x ∷ gather (states off) T q (left_at s) σ) (gather (states off) T q (left_at s) σ))
    go true o = (o.0, o.1, ap (λ (z : List Report). left_at s x ∷ z) o.2)
    go false o = o

pub left-only : (T : Tables) (made : Bool) (s : ℕ) (pl : Place) (σ : Scope Status) → Lefts (left_behind T made s pl σ)
left-only T true s pl σ = (refl, refl, refl)
left-only T false s pl σ = only-left T (λ x. concerns on pl x) s σ

-- a front reports none
pub front-errors : (w : Switches) (T : Tables) (c : Tree) (l : Option ℕ) (at : ℕ) (σ : Scope Status) → errors (front_reports w T c l at σ) ≡ []
front-errors w T (done x) l at σ = refl
front-errors w T (expr_stmt s e y r) l at σ = go (wrapped T (expr_stmt s e y r))
  where
    go : (b : Bool) → errors (unused b s e at) ≡ []
    go true = refl
    go false = refl
front-errors w T (variable k s n t e r) l at σ = refl
front-errors w T (assign s e v t x r) l at σ = refl
front-errors w T (return s e t x r) l at σ = refl
front-errors w T (bare_return s t x r) l at σ = (left-only T w.bare_returns s at_bare_return σ).0
front-errors w T (block s c r) l at σ = refl
front-errors w T (if_else s e ts t us u r) l at σ = refl
front-errors w T (if_then s e ts t r) l at σ = refl
front-errors w T (while s e ts t r) l at σ = refl
front-errors w T (jump k s x r) l at σ = (left-only T w.jumps s (at_jump l) σ).0
