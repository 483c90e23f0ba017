-- The values of a statement: their scan begins, and goes on.
-- Assumes nothing.
use Prim.Native.Nat.{ℕ, ◌<◌}
use mathlib.Core.Option.{Option}
use mathlib.Core.Path.{◌≡◌, sym, subst}
use mathlib.Core.Bool.{true, false}
use mathlib.Core.List.{List}
use Rattle.rules.specs.Rules.{Switches, off}
use Rattle.image_fields.proofs.Tests.{false-true}
use Rattle.tables.specs.Tables.{Tables}
use Rattle.rules.specs.State.{State as Status}
use Rattle.rules.specs.Stack.{Stack as Scope}
use Rattle.expressions_steps.specs.Scan.{root_of, top_of}
use Rattle.statements_returns.specs.Front.{front_at}
use Rattle.std.specs.Prelude.{Option as Maybe, None, Some}
use Rattle.statements_acts.specs.declared.Place.{Place}
use Rattle.statements_acts.specs.Act.{taken_in}
use Rattle.image_writing.specs.Memory.{Memory, memory}
use Rattle.blocks_laws.specs.Walks.{LeadsAll}
use Rattle.expressions_steps.specs.declared.Open.{Open}
use Rattle.expressions_scan.specs.Resumed.{Onward}
use Rattle.expressions_scan.proofs.Onward.{onward-none, onward-both}
use Rattle.statements_changes.specs.declared.Cursor.{Cursor}
use Rattle.statements_changes.specs.Turns.{retold, within_of, Stood}

module _ (sw : Switches) (T : Tables) (s : List ℕ) (left d : ℕ) (loop : Option ℕ) (all : ℕ) (σ₀ : Scope Status) (p₀ : Place) (m₀ : Memory) where
  module _ (ns : List Open) (c : Cursor) (σ : Scope Status) (out errs warns lefts : List ℕ) (g : Stood sw T s left d loop all σ₀ p₀ m₀ ns c σ (memory out errs warns lefts)) where
    -- the scan begins
    pub stood-begin : 0 < c.left → c.begun ≡ false → c.taken ≡ None → (ns' : List Open) → top_of ns' 1 ≡ root_of (front_at s c.place.at).values
        → Stood sw T s left d loop all σ₀ p₀ m₀ ns' (within_of c.left 1 (front_at s c.place.at).first c.place) σ (memory out errs warns lefts)
    stood-begin some off free ns' eo = record {
      between = λ h. false-true (sym h);
      within = λ h. record {
        old = σ;
        told = c.place.errors;
        errs = errs;
        out = out;
        os = ns';
        some = some;
        leads = subst (λ x. LeadsAll sw T s left d loop all σ₀ p₀ m₀ c.left (taken_in x σ) c.place (memory out errs warns lefts)) free (g.between off);
        root = eo;
        onward = onward-none ns' 1 (front_at s c.place.at).first σ c.place.paged errs out c.place.errors;
      };
    }

    -- it goes on
    pub stood_on : c.begun ≡ true → (ns' : List Open) {n p t : ℕ} {τ : Scope Status} {errs' out' : List ℕ}
        → Onward T s ns c.nodes c.at σ c.place.paged errs out c.place.errors ns' n p τ errs' out' t
        → Stood sw T s left d loop all σ₀ p₀ m₀ ns' (within_of c.left n p (retold c.place t)) τ (memory out' errs' warns lefts)
    stood_on on ns' o =
        let m = g.within on in
        record {
          between = λ h. false-true (sym h);
          within = λ h. record { old = m.old; told = m.told; errs = m.errs; out = m.out; os = m.os; some = m.some; leads = m.leads; root = m.root; onward = onward-both m.onward o };
        }
