-- The verdict on an image that was read, by way of memory of our own.
use Rattle.std.specs.Prelude.{ℕ, ◌/◌, ◌≤◌, ◌≡◌, Bool, true, false, cond, ◌&&◌, List, leb, Result, Ok, Err, Option, Some, None, IfSome}
use Rattle.std.proofs.lemmas.List.Edits.{sets}
use Rattle.std.proofs.Math.Seq.{slice}
use Rattle.image_writing.specs.Memory.{Memory}
use Rattle.statements_acts.specs.declared.Place.{Place}
use Rattle.image_fields.specs.declared.Fault as the
use Rattle.scope_rows.specs.declared.Stop.{Stop}
use Rattle.scope_rows.specs.declared.Stop.TheVariants.{Fault, Rows}
use Rattle.entries_image.specs.Images.{fault_of_walk}
use Rattle.entries_verdict.specs.declared.Totals.{Totals}
use Rattle.entries_verdict.specs.Passes.{Passes}

-- 14 or 15 where a place is past the lengths lent or a block counts too many, else 0
abbrev pub lack_of : Place → ℕ → ℕ → ℕ → ℕ → ℕ
lack_of p bytes errs warns lefts =
    cond (leb p.errors errs && leb p.warnings warns && leb p.lefts lefts) (cond (leb p.written bytes && p.fits) 0 15) 14

-- no lack: everything is within, and no block counts too many
pub record Fits (p : Place) (bytes errs warns left : ℕ) : Type 0 where
  pub errors : p.errors ≤ errs
  pub warnings : p.warnings ≤ warns
  pub lefts : p.lefts ≤ left
  pub written : p.written ≤ bytes
  pub fits : p.fits ≡ true

-- all that our own memory holds up to a place, in front of what is lent
pub record CopiesAll (p : Place) (own m m' : Memory) : Type 0 where
  pub bytes : m'.out ≡ sets m.out 0 (slice 0 p.written own.out)
  pub errors : m'.errs ≡ sets m.errs 0 (slice 0 p.errors own.errs)
  pub warnings : m'.warns ≡ sets m.warns 0 (slice 0 p.warnings own.warns)
  pub lefts : m'.lefts ≡ sets m.lefts 0 (slice 0 p.lefts own.lefts)

-- the totals that a place says
abbrev pub totals_at : Place → Totals
totals_at p = record { written = p.written; errors = p.errors / 12; warnings = p.warnings / 2; lefts = p.lefts / 3 }

-- the outcome that a walk says; none where memory of our own does not reach
abbrev pub outcome_in : Result Place Stop → Option (Result Totals the.Fault)
outcome_in (Ok p) = Some (Ok (totals_at p))
outcome_in (Err (Fault f)) = Some (Err f)
outcome_in (Err Rows) = None

-- the verdict, with memory of our own of some size; 254: it does not reach, and nothing lent is changed; the largest reaches
pub record Judges (value : ℕ) (largest : Bool) (s : List ℕ) (m : Memory) (r : Result Place Stop) (m' : Memory) : Type 0 where
  pub short : fault_of_walk r ≡ 254 → (largest ≡ false) × (m' ≡ m)
  pub passes : IfSome (outcome_in r) (λ o. Passes value s m o m')
