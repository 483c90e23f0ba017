-- Where a walk has come to: its stop's number, a block's head, the rows of locals.
-- Assumes nothing.
use Prim.Native.Nat.{ℕ, ◌+◌, ◌*◌, ◌≤◌, ◌<◌}
use native.Mathlib.Omega.{arith}
use mathlib.Core.Path.{◌≡◌, refl, sym, ap, ◌∙◌, subst}
use mathlib.Core.Bool.{Bool, true, false}
use mathlib.Core.List.{List}
use lib.ListN.{length}
use lib.Seq.{slice}
use Rattle.std.specs.Prelude.{Option, Some, None, is_some}
use Rattle.image_fields.specs.declared.Fault.{Fault}
use Rattle.image_fields.specs.declared.Fault.TheVariants as fault
use Rattle.image_fields.specs.Fault.{fault_number}
use Rattle.image_fields.specs.Number.{two, four}
use Rattle.image_fields.specs.Bytes.{Bytes, four_bytes}
use Rattle.image_fields.proofs.Tests.{false-true}
use Rattle.image_writing.specs.Stored.{Stored}
use Rattle.scope_rows.specs.declared.Stop.{Stop}
use Rattle.scope_rows.specs.declared.Stop.TheVariants as stop
use Rattle.statements_acts.specs.declared.Place.{Place}
use Rattle.statements_changes.specs.declared.Cursor.{Cursor}
use Rattle.statements_changes.specs.Turns.{between_of}
use Rattle.blocks_laws.proofs.Heads.{span-stored, span-length}
use Rattle.blocks_laws.specs.Places.{headed}
use Rattle.blocks_ends.specs.declared.Walk.{Walk}
use Rattle.blocks_ends.specs.Ends.{stopped_at, Heads}

-- a fault's number is neither 0 nor that of the rows
pub numbered : (f : Fault) → (0 < fault_number f) × (fault_number f < 254)
numbered fault.Length = (omega arith, omega arith)
numbered fault.Version = (omega arith, omega arith)
numbered fault.Names = (omega arith, omega arith)
numbered fault.Types = (omega arith, omega arith)
numbered fault.Structs = (omega arith, omega arith)
numbered fault.Globals = (omega arith, omega arith)
numbered fault.Entry = (omega arith, omega arith)
numbered fault.Body = (omega arith, omega arith)
numbered fault.Depth = (omega arith, omega arith)
numbered fault.BytesLeft = (omega arith, omega arith)
numbered fault.GenericReceiver = (omega arith, omega arith)
numbered fault.Locals = (omega arith, omega arith)
numbered fault.Places = (omega arith, omega arith)
numbered fault.Lists = (omega arith, omega arith)
numbered fault.Output = (omega arith, omega arith)
numbered fault.Page = (omega arith, omega arith)
numbered fault.Switches = (omega arith, omega arith)

-- too many locals
pub twelve-is : fault_number fault.Locals ≡ 12
twelve-is = refl

-- that a walk stopped, or goes on, said by the code and by the number
pub stopped : (o : Option Stop) {b : Bool} → b ≡ is_some o → b ≡ true → 0 < stopped_at o
stopped None e h = absurd (false-true (sym e ∙ h))
stopped (Some (stop.Fault f)) e h = (numbered f).0
stopped (Some stop.Rows) e h = omega arith

pub goes_on : (o : Option Stop) {b : Bool} → b ≡ is_some o → b ≡ false → stopped_at o ≡ 0
goes_on None e h = refl
goes_on (Some k) e h = absurd (false-true (sym h ∙ e))

-- the rows of so many locals
pub rows_few : (n w : ℕ) → n ≤ 64 → w ≡ 8 → n * (w + 1) ≤ 576
rows_few n w l e = rw e (omega arith)

-- a block's head, from its parts as the code has them
pub head-is : (s : List ℕ) → Bytes s → (p : Place) → p.at + 6 ≤ length s → (out out' : List ℕ) (gap total : ℕ) (q : Place) (c : Cursor)
    → Stored out p.written (slice p.at (p.at + 4) s) out' gap → total ≡ two s (p.at + 4) → q ≡ headed p gap → c ≡ between_of total q None → Heads s p out c out'
head-is s small p room out out' gap total q c x et eq ec =
    let g = span-length s small p.at room x in
    record {
      is = ec ∙ ap (λ (k : ℕ). between_of k q None) et ∙ ap (λ (y : Place). between_of (two s (p.at + 4)) y None) (eq ∙ ap (headed p) g);
      stored = subst (λ (k : ℕ). Stored out p.written (four_bytes (four s p.at)) out' k) g (span-stored s small p.at room x);
    }

pub no-fault : {k : ℕ} → k ≤ 0 → k ≡ 0
no-fault l = omega arith

pub reaches : {k : ℕ} → k ≡ 0 → k ≡ 254 → ⊥
reaches z e = omega arith
