-- The temporary that is taken over, and what a statement's code changes.
-- Assumes nothing.
use mathlib.Core.Path.{◌≡◌, refl, sym, ap, ◌∙◌}
use mathlib.Core.Bool.{Bool, true, false, not, ◌&&◌}
use mathlib.Core.Option.{none, some}
use Prim.Native.Nat.{ℕ}
use lib.Dec.{eqb}
use Rattle.tables.specs.Tables.{Tables}
use Rattle.image_body.specs.Expr.{Expr}
use Rattle.rules.specs.Questions.{is_temp_of}
use Rattle.rules.specs.Expr.{View, an_ident, a_this, a_field, a_delete, a_call, other, nobody, called, view as viewed, name_in}
use Rattle.rules.specs.Expr as rules
use Rattle.rules.specs.State.{State as Status}
use Rattle.rules.specs.Stack.{Static, Shape, static_of, Stack as Scope}
use Rattle.rules.specs.Effects.{deleted_by, deleted_in, take_named, take_over, take_from, assign_takes}
use Rattle.rules.specs.Rules.{states, apply_all, revived, off}
use Rattle.statements_acts.specs.declared.Named.{Named}
use Rattle.std.specs.Prelude.{Option, Some, None}
use Rattle.std.specs.Bool.{then_some}
use Rattle.statements_acts.specs.Act.{named_of, change_in, taken_in}
use Rattle.statements_acts.specs.Parts.{deleted_name, delete_of, revive_of, takes_over}

-- the four tests
last-false : (a b c : Bool) → false ≡ (a && b && c && false)
last-false true true true = refl
last-false true true false = refl
last-false true false true = refl
last-false true false false = refl
last-false false true true = refl
last-false false true false = refl
last-false false false true = refl
last-false false false false = refl

reorder : (a b c d : Bool) → (((a && d) && c) && b) ≡ (a && b && c && d)
reorder true true true true = refl
reorder true true true false = refl
reorder true true false true = refl
reorder true true false false = refl
reorder true false true true = refl
reorder true false true false = refl
reorder true false false true = refl
reorder true false false false = refl
reorder false b c d = refl

module _ (T : Tables) (Γ : Shape) (m n t : ℕ) where
  pub takes_none : static_of m Γ ≡ none → false ≡ takes_over T Γ m n t
  takes_none e = rw e (last-false (not (eqb m n)) (is_temp_of T m) (not (is_temp_of T n)))

  pub takes-all : {s : Static} → static_of m Γ ≡ some s → {a b r : Bool} → a ≡ (not (eqb m n) && eqb s.ty t) → b ≡ (a && not (is_temp_of T n)) → r ≡ (b && is_temp_of T m) → r ≡ takes_over T Γ m n t
  takes-all {s} e ea eb er = rw (e, er, eb, ea) (reorder (not (eqb m n)) (is_temp_of T m) (not (is_temp_of T n)) (eqb s.ty t))

-- what a name takes over of a value
module _ (T : Tables) (Γ : Shape) (n t : ℕ) (e : Expr) (σ : Scope Status) where
  pub value_none : {r : Option Named} → named_of r ≡ name_in (viewed e) → r ≡ None → σ ≡ apply_all (states off) (take_over T Γ n t e) σ
  unfolding take_over
  value_none g er = ap (λ x. apply_all (states off) (take_named T Γ n t x) σ) (sym (ap named_of er) ∙ g)

  module _ {r : Option Named} {x : Named} (g : named_of r ≡ name_in (viewed e)) (er : r ≡ Some x) where
    asked : take_named T Γ n t (called x.name x.span) ≡ take_over T Γ n t e
    unfolding take_over
    asked = ap (take_named T Γ n t) (sym (ap named_of er) ∙ g)

    pub value_taken : (b : Bool) → b ≡ takes_over T Γ x.name n t → taken_in (then_some b x) σ ≡ apply_all (states off) (take_over T Γ n t e) σ
    value_taken true eb = rw (← asked, ← eb) refl
    value_taken false eb = rw (← asked, ← eb) refl

-- what a local's name takes over of a value
module _ (T : Tables) (Γ : Shape) (n : ℕ) (e : Expr) (σ : Scope Status) where
  pub from-none : static_of n Γ ≡ none → σ ≡ apply_all (states off) (take_from T Γ n (static_of n Γ) e) σ
  from-none z = rw z refl

  pub from_some : {l : Static} {t : ℕ} → static_of n Γ ≡ some l → l.ty ≡ t → {o : Scope Status} → o ≡ apply_all (states off) (take_over T Γ n t e) σ
      → o ≡ apply_all (states off) (take_from T Γ n (static_of n Γ) e) σ
  from_some {l} z et eo = rw z (eo ∙ ap (λ x. apply_all (states off) (take_over T Γ n x e) σ) (sym et))

-- what an assignment to a name takes over
module _ (T : Tables) (Γ : Shape) (e v : Expr) {r : Option Named} (g : named_of r ≡ name_in (viewed e)) (σ : Scope Status) where
  pub assign-none : r ≡ None → σ ≡ apply_all (states off) (assign_takes T Γ e v) σ
  unfolding assign_takes
  assign-none er = rw (← g, er) refl

  pub assign-named : {x : Named} → r ≡ Some x → {o : Scope Status} → o ≡ apply_all (states off) (take_from T Γ x.name (static_of x.name Γ) v) σ → o ≡ apply_all (states off) (assign_takes T Γ e v) σ
  unfolding assign_takes
  assign-named er eo = rw (← g, er) eo

-- a destination is alive again
pub revive-is : (d : ℕ) (n : rules.Named) (σ : Scope Status) → change_in d (revive_of n) σ ≡ revived (states off) n σ
revive-is d nobody σ = refl
revive-is d (called n p) σ = refl

-- what a Delete deletes
by_name : (T : Tables) (Γ : Shape) (d : ℕ) (n : rules.Named) (σ : Scope Status) → change_in d (delete_of n) σ ≡ apply_all (states off) (deleted_by T Γ n) σ
by_name T Γ d nobody σ = refl
by_name T Γ d (called n p) σ = refl

pub delete-is : (T : Tables) (Γ : Shape) (d : ℕ) (v : View) (σ : Scope Status) → change_in d (delete_of (deleted_name v)) σ ≡ apply_all (states off) (deleted_in T Γ v) σ
delete-is T Γ d (an_ident n s) σ = refl
delete-is T Γ d (a_this s) σ = refl
delete-is T Γ d (a_field s e m) σ = refl
delete-is T Γ d (a_delete e) σ = by_name T Γ d (name_in (viewed e)) σ
delete-is T Γ d (a_call f) σ = refl
delete-is T Γ d other σ = refl
