-- The end of a block: its deletes, its count, the frame left.
-- Assumes nothing.
use Prim.Native.Nat.{ℕ, ◌+◌, ◌-◌, ◌%◌, ◌<◌}
use mathlib.Core.Path.{◌≡◌, refl, sym, ap, ◌∙◌, subst}
use mathlib.Core.Bool.{Bool, true, false, ◌&&◌}
use mathlib.Core.List.{List}
use lib.ListN.{length}
use lib.Dec.{leb}
use Rattle.image_fields.specs.Number.{two, four}
use Rattle.image_fields.specs.Bytes.{two_bytes}
use Rattle.tables.specs.Tables.{Tables}
use Rattle.rules.specs.State.{State as Status}
use Rattle.rules.specs.Stack.{pop, Stack as Scope}
use Rattle.rules.specs.Rules.{Drop, states, Switches, concerns, end_drops}
use Rattle.image_writing.specs.Stored.{Stored}
use Rattle.statements_acts.specs.declared.Place.{Place}
use Rattle.statements_acts.proofs.Laws.{none-put}
use Rattle.blocks_laws.specs.Walks.{Walked}
use Rattle.blocks_laws.specs.Ends.{tail, LastReturns, Ends}
use Rattle.statements_steps.specs.Drops.{delete_bytes}

-- so many deletes are stored
abbrev Puts : List ℕ → ℕ → List Drop → List ℕ → ℕ → ℕ → Type 0
Puts old at x new next count = Stored old at (delete_bytes x) new next × (count ≡ length x)

module _ (sw : Switches) (T : Tables) (sure : Bool) (d sp : ℕ) (σ : Scope Status) where
  -- a block that surely returns has no deletes at its end
  pub tail_none : sure ≡ true → (old : List ℕ) (at : ℕ) → Puts old at (tail sw T sure d sp σ) old at 0
  tail_none e old at = none-put old at (tail sw T sure d sp σ) (rw e refl)

  -- another has those of its frame, however they are come by
  pub tail-frame : sure ≡ false → {x : List Drop} → x ≡ end_drops (states sw) T (concerns sw) d sp σ → {old : List ℕ} {at : ℕ} {new : List ℕ} {next count : ℕ} → Puts old at x new next count
      → Puts old at (tail sw T sure d sp σ) new next count
  tail-frame e ex {old} {at} {new} {next} {count} h = rw e (subst (λ (y : List Drop). Puts old at y new next count) ex h)

-- what the walk comes to
abbrev ended_at : Place → Place → ℕ → Bool → Bool → Scope Status → Walked
ended_at start p written fits sure after = record {
  fault = 0;
  sure = sure;
  place = record { at = p.at; last = start.last; written = written; errors = p.errors; warnings = p.warnings; lefts = p.lefts; inserted = start.inserted; fits = fits; paged = p.paged };
  locals = after;
}

-- the end of a block, from its parts: total and span as the code has them
module _ (sw : Switches) (T : Tables) (s : List ℕ) (left d : ℕ) (σ : Scope Status) (start : Place) (gap : ℕ) (p : Place) (out : List ℕ) where
  pub block-ends : {mid out' : List ℕ} {total span written count next : ℕ} {sure fits : Bool} {after : Scope Status} → total ≡ two s (start.at + 4)
      → span ≡ four s start.at → LastReturns s (left - 1) total p.last sure
      → Puts out p.written (tail sw T sure d span σ) mid written count → Stored mid gap (two_bytes ((total + p.inserted + count) % 65536)) out' next
      → fits ≡ (p.fits && leb (total + p.inserted + count) 65535) → after ≡ pop d σ
      → Ends sw T s left d σ start gap p out (ended_at start p written fits sure after) out'
  block-ends {mid} {out'} {total} {span} {written} {count} {next} {sure} {fits} {after} et es last put stored fit is =
      let tails : tail sw T sure d span σ ≡ tail sw T sure d (four s start.at) σ = rw es in
      let many : total + p.inserted + count ≡ two s (start.at + 4) + p.inserted + length (tail sw T sure d (four s start.at) σ) = rw (et, put.1, tails) in
      record {
        none_last = λ z. last.none (et ∙ z);
        some-last = λ h. last.some (subst (λ (k : ℕ). 0 < k) (sym et) h);
        mid = mid;
        next = next;
        deletes = subst (λ (x : List Drop). Stored out p.written (delete_bytes x) mid written) tails put.0;
        counts = subst (λ (k : ℕ). Stored mid gap (two_bytes (k % 65536)) out' next) many stored;
        fits = fit ∙ ap (λ (k : ℕ). p.fits && leb k 65535) many;
        at = refl;
        last = refl;
        inserted = refl;
        errors = refl;
        warnings = refl;
        lefts = refl;
        paged = refl;
        fault = refl;
        locals = is;
      }
