-- Laws of locals added in the outermost frame.
-- Assumes nothing.
use Prim.Native.Nat.{ℕ, zero, suc, ◌+◌, ◌*◌, ◌≤◌, ◌<◌}
use mathlib.Core.Path.{◌≡◌, refl, sym, ap, subst, ◌∙◌}
use mathlib.Core.List.{List, [], ◌∷◌, ◌++◌}
use mathlib.Core.Bool.{Bool, false}
use native.Mathlib.Omega.{arith}
use lib.Dec.{eqb}
use lib.ListN.{length, length-append}
use Rattle.image_fields.specs.Parsed.{ok}
use Rattle.image_fields.specs.Number.{two}
use Rattle.image_fields.specs.Table.{entries}
use Rattle.image_fields.proofs.Tests.{false-true}
use Rattle.image_fields.proofs.Tables.{entries-more}
use Rattle.tables.specs.Limits.{version1}
use Rattle.tables.specs.Tables.{Tables}
use Rattle.tables.specs.Signature.{Entry, Param, param_in, entry_at}
use Rattle.tables_lookup.specs.Ty.{should_auto_delete}
use Rattle.tables_lookup.specs.Lent.{Lent, Says}
use Rattle.rules.specs.Questions.{auto}
use Rattle.rules.specs.State.{State as Status}
use Rattle.rules.specs.Stack.{shape, Stack as Scope}
use Rattle.rules.specs.Rules.{declared, given, states, register, entered, locals_of, off}
use Rattle.scope_stack.specs.declared.Locals.{Locals}
use Rattle.scope_stack.specs.declared.States.{States}
use Rattle.scope_stack.specs.View.{view, alive_at, Kept, Drops, Nested, Named, Grows}
use Rattle.scope_stack.proofs.Frames.{nested-register}
use Rattle.scope_stack.proofs.Scopes.{view-none, rowed-none, nested-view, registers-fresh}
use Rattle.scope_entered.specs.Entered.{params_in, Fresh, Adds, Enters}

entered-both : (T : Tables) (ps qs : List Param) (σ : Scope Status) → entered (states off) T (ps ++ qs) σ ≡ entered (states off) T qs (entered (states off) T ps σ)
entered-both T [] qs σ = refl
entered-both T (p ∷ ps) qs σ = entered-both T ps qs (register (states off) (given p) σ)

nested-entered : (T : Tables) (ps : List Param) (σ : Scope Status) → Nested 0 (shape σ) → Nested 0 (shape (entered (states off) T ps σ))
nested-entered T [] σ h = h
nested-entered T (p ∷ ps) σ h = nested-entered T ps (register (states off) (given p) σ) (nested-register p.name p.ty 0 0 σ h)

-- no parameter, and one more
pub params_none : (s : List ℕ) (at : ℕ) → params_in s 0 at ≡ []
unfolding entries
params_none s at = refl

pub params-next : (s : List ℕ) (i at n t : ℕ) → n ≡ two s (at + 4 * i) → t ≡ two s (at + 4 * i + 2)
    → params_in s i at ++ (record { name = n; ty = t } ∷ []) ≡ params_in s (i + 1) at
params-next s i at n t en et = rw (en, et) (sym (entries-more (param_in s) 4 i at))

params-length : (s : List ℕ) (many at : ℕ) → length (params_in s many at) ≡ many
unfolding entries
params-length s zero at = refl
params-length s (suc n) at = ap suc (params-length s n (at + 4))

module _ (tb : List ℕ) where
  -- nothing added, one local, and more after some
  pub adds_none : (l : Locals) → Kept l → Adds tb [] l l
  adds_none l k = record { kept = k; count = omega arith; drops = λ s T lent says d. d; is = λ T t f rows cur width. refl }

  pub adds_one : (l r : Locals) (name ty : ℕ) (dtor : Bool) → l.count < 64 → ((s : List ℕ) (T : Tables) → Lent s tb → Says s tb T → dtor ≡ should_auto_delete T.types T.structs ty) → Grows l (declared 0 0 name ty) dtor r
      → Adds tb (record { name = name; ty = ty } ∷ []) l r
  unfolding auto
  adds_one l r name ty dtor low e g = record {
    kept = g.kept;
    count = g.count;
    drops = λ s T lent says d. g.drops T (e s T lent says) d;
    is = λ T t f rows cur width. registers-fresh l r name ty 0 0 dtor g t rows cur width (rowed-none l.count t rows cur width f) (calm t f) (omega arith);
  }
    where
      calm : (t : States) → Fresh t → (i : ℕ) → i < 64 → alive_at t i ≡ false → Named r.names r.depths name 0 i → ⊥
      calm t f i h off is = false-true (sym off ∙ ap (λ (k : ℕ). eqb k 0) (f i))

  pub adds-both : (ps qs : List Param) (l m r : Locals) → Adds tb ps l m → Adds tb qs m r → Adds tb (ps ++ qs) l r
  adds-both ps qs l m r a b = record {
    kept = b.kept;
    count = let z = length-append ps qs in omega (arith, a.count, b.count);
    drops = λ s T lent says d. b.drops s T lent says (a.drops s T lent says d);
    is = λ T t f rows cur width. b.is T t f rows cur width ∙ ap (entered (states off) T qs) (a.is T t f rows cur width) ∙ sym (entered-both T ps qs (view l t rows cur width));
  }

module _ (s tb : List ℕ) where
  -- the parameters after one more
  pub adds-next : (l m r : Locals) (i at n t : ℕ) → n ≡ two s (at + 4 * i) → t ≡ two s (at + 4 * i + 2) → Adds tb (params_in s i at) l m
      → Adds tb (record { name = n; ty = t } ∷ []) m r → Adds tb (params_in s (i + 1) at) l r
  adds-next l m r i at n t en et a b = subst (λ (ps : List Param). Adds tb ps l r) (params-next s i at n t en et) (adds-both tb (params_in s i at) _ l m r a b)

  pub adds-count : (l r : Locals) (many at : ℕ) → Adds tb (params_in s many at) l r → r.count ≡ l.count + many
  adds-count l r many at a = a.count ∙ ap (λ (k : ℕ). l.count + k) (params-length s many at)

  -- the locals of an entry, registered from none on
  pub entering : (at : ℕ) (ps : List Param) → ((names types : ℕ) (x : Entry) (next : ℕ) → entry_at version1 names types s at ≡ ok x next → locals_of x ≡ ps) → (l r : Locals)
      → l.count ≡ 0 → ((T : Tables) → Drops T l) → r.count ≤ 17 → Adds tb ps l r → Enters s tb at r
  entering at ps e l r z d few a = record {
    kept = a.kept;
    few = few;
    nested = λ t rows cur width. nested-view 0 r none t [] rows 0 cur width
        (subst (λ (σ : Scope Status). Nested 0 (shape σ)) (sym (whole T₀ none (λ i. refl) [] 0 width)) (nested-entered T₀ ps [] tt));
    drops = λ T lent says. a.drops s T lent says (d T);
    is = λ names types x next g T t f rows cur width. whole T t f rows cur width ∙ ap (λ (qs : List Param). entered (states off) T qs []) (sym (e names types x next g));
  }
    where
      whole : (T : Tables) (t : States) → Fresh t → (rows : List ℕ) (cur width : ℕ) → view r t rows cur width ≡ entered (states off) T ps []
      whole T t f rows cur width = a.is T t f rows cur width ∙ ap (entered (states off) T ps) (view-none l t rows cur width z)

      none : States
      none = record { kinds = []; firsts = []; alive = 0 }

      T₀ : Tables
      T₀ = record { names = []; types = []; structs = []; globals = [] }
