-- A fact of each report of a list, whatever its kind; of what is left behind by way of the locals whose entries they are.
-- Assumes nothing.
use Rattle.std.proofs.Common.{ℕ, Bool, true, false, cond, ◌&&◌, List, [], ◌∷◌, ◌++◌}
use mathlib.Core.Option.{Option, none, some}
use Rattle.tables.specs.Tables.{Tables}
use Rattle.rules.specs.Questions.{auto}
use Rattle.rules.specs.Stack.{Static, Local, local, Stack, Shape, shape, lookup}
use Rattle.rules.specs.State.{State, alive, gone, is_alive, deleted, moved, consumed}
use Rattle.rules.specs.Effects.{Effect, use', kill, hand, bad_move, global_move}
use Rattle.rules.specs.Rules.{off, on, states, apply, Place, concerns}
use Rattle.rules.specs.Report.{Report, error, left, left_at, bad_use, use_of, report_of, report_all, left_behind}

unfoldable pub Each : (Report → Type 0) → List Report → Type 0
Each Q [] = Unit {0}
Each Q (r ∷ rs) = Q r × Each Q rs

-- a fact of each local
abbrev pub EachLocal : (Static → Type 0) → Shape → Type 0
EachLocal P [] = Unit {0}
EachLocal P (s ∷ Γ) = P s × EachLocal P Γ

-- entries with a span, each of a local of its own, in the order of the locals
pub data Own (p : ℕ) : Shape → List Report → Type 0 where
  none_left : Own p [] []
  left_out : {s : Static} {Γ : Shape} {rs : List Report} → Own p Γ rs → Own p (s ∷ Γ) rs
  listed : {s : Static} {Γ : Shape} {rs : List Report} → Own p Γ rs → Own p (s ∷ Γ) (left p s.name s.born ∷ rs)

pub left-own : (T : Tables) (made : Bool) (p : ℕ) (pl : Place) (σ : Stack State) → Own p (shape σ) (left_behind T made p pl σ)
left-own T true p pl [] = none_left
left-own T true p pl (local s a ∷ σ) = left_out (left-own T true p pl σ)
left-own T false p pl [] = none_left
left-own T false p pl (local s a ∷ σ) = go (concerns on pl s && is_alive a && auto T s.ty) (left-own T false p pl σ)
  where
    go : (b : Bool) → Own p (shape σ) (left_behind T false p pl σ) → Own p (s ∷ shape σ) (cond b (left_at p s ∷ left_behind T false p pl σ) (left_behind T false p pl σ))
    go true o = listed o
    go false o = left_out o

module _ (Q : Report → Type 0) where
  pub each_none : Each Q []
  unfolding Each
  each_none = tt

  pub each_more : (r : Report) (rs : List Report) → Q r → Each Q rs → Each Q (r ∷ rs)
  unfolding Each
  each_more r rs q e = (q, e)

  pub each_both : (rs qs : List Report) → Each Q rs → Each Q qs → Each Q (rs ++ qs)
  unfolding Each
  each_both [] qs p q = q
  each_both (r ∷ rs) qs p q = (p.0, each_both rs qs p.1 q)

  pub each-own : (p : ℕ) {Γ : Shape} {rs : List Report} → Own p Γ rs → EachLocal (λ s. Q (left p s.name s.born)) Γ → Each Q rs
  each-own p none_left f = each_none
  each-own p (left_out o) f = each-own p o f.1
  each-own p (listed o) f = each_more _ _ f.0 (each-own p o f.1)

  -- effects report errors and nothing else
  module _ (errs : (k p h : ℕ) (ps : List ℕ) → Q (error k p h ps)) where
    one : (k p h : ℕ) (ps : List ℕ) → Each Q (error k p h ps ∷ [])
    one k p h ps = each_more _ _ (errs k p h ps) each_none

    of-state : (s : ℕ) (a : State) → Each Q (bad_use s a)
    of-state s alive = each_none
    of-state s (gone false deleted ps) = one _ _ _ _
    of-state s (gone false moved ps) = one _ _ _ _
    of-state s (gone false consumed ps) = one _ _ _ _
    of-state s (gone true deleted ps) = one _ _ _ _
    of-state s (gone true moved ps) = one _ _ _ _
    of-state s (gone true consumed ps) = one _ _ _ _

    of-local : (s : ℕ) (x : Option (Local State)) → Each Q (use_of s x)
    of-local s none = each_none
    of-local s (some (local l a)) = of-state s a

    of-effect : (e : Effect) (σ : Stack State) → Each Q (report_of e σ)
    of-effect (use' n s) σ = of-local s (lookup n σ)
    of-effect (kill k n s) σ = each_none
    of-effect (hand n s) σ = each_none
    of-effect (bad_move s h) σ = one _ _ _ _
    of-effect (global_move s g) σ = one _ _ _ _

    pub each-effects : (es : List Effect) (σ : Stack State) → Each Q (report_all es σ)
    each-effects [] σ = each_none
    each-effects (e ∷ es) σ = each_both (report_of e σ) (report_all es (apply (states off) e σ)) (of-effect e σ) (each-effects es (apply (states off) e σ))
