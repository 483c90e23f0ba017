-- What the entries answer, and what they leave in the memory lent (document 01, "Faults" and "What is reported"), given the value of the
-- switches (document 02, (e)).
use Rattle.std.specs.Prelude.{ℕ, ◌≤◌, ◌<◌, ◌≡◌, ◌⊎◌, List, [], ◌∷◌, Result, Ok, Err}
use Rattle.std.proofs.Math.Option.{none, some}
use Rattle.image_fields.specs.declared.Fault.{Fault}
use Rattle.image_fields.specs.declared.Fault.TheVariants.{Switches as Unknown}
use Rattle.image_fields.specs.Fault.{fault_number}
use Rattle.tables.specs.Limits.{version1}
use Rattle.image.specs.Image.{Image, accepted, refused, decode}
use Rattle.image.specs.declared.ImageRead.{ImageRead}
use Rattle.rules.specs.Rules.{switches_of}
use Rattle.rules.specs.Walk.{image_fault}
use Rattle.rules.specs.Verdict.{room_fault, RoomFor}
use Rattle.image_writing.specs.Memory.{Memory}
use Rattle.entries_verdict.specs.Passes.{Passes}
use Rattle.blocks_ends.specs.declared.Env.{Env}
use Rattle.entries_image.specs.Images.{ImageThere, number_in}
use Rattle.entries_verdict.specs.declared.Totals.{Totals}
use Rattle.entries_page.specs.Pages.{Pages}

-- what a walk begins with, or the first fault of a value of the switches and of reading: 17, or one of 1 to 11
abbrev pub Begun : ℕ → List ℕ → List ℕ → Result (Env × ImageRead) Fault → Type 0
Begun value s tb (Ok b) = (b.0.switches ≡ value) × ImageThere s tb b.0 b.1.entry b.1.body
Begun value s tb (Err f) = ((15 < value) × (f ≡ Unknown)) ⊎ ((value ≤ 15) × (decode version1 s ≡ refused (fault_number f)))

-- as a number, 0 for accepted, and the four totals, on a fault unchanged
abbrev pub outcome_number : Result Totals Fault → ℕ
outcome_number r = number_in r

abbrev pub totals_after : Result Totals Fault → List ℕ → List ℕ
totals_after (Ok t) old = t.written ∷ t.errors ∷ t.warnings ∷ t.lefts ∷ []
totals_after (Err f) old = old

-- the entry that gives back the body, for C: its number, the totals and the memory after it
pub record PassLeaves (value : ℕ) (s : List ℕ) (m : Memory) (old : List ℕ) (r : ℕ) (m' : Memory) (new : List ℕ) : Type 0 where
  pub outcome : Result Totals Fault
  pub is : Passes value s m outcome m'
  pub number : r ≡ outcome_number outcome
  pub leaves : new ≡ totals_after outcome old

-- the entry that answers the room: 17, the first fault of 1 to 13, or a number within document 01's bounds
abbrev pub RoomIs : ℕ → List ℕ → Result ℕ Fault → Type 0
RoomIs value s (Err f) = room_fault version1 value s ≡ some (fault_number f)
RoomIs value s (Ok n) =
    (value ≤ 15) × (i : Image) × (decode version1 s ≡ accepted i) × (image_fault version1 (switches_of value) i ≡ none) × RoomFor version1 (switches_of value) s i n

-- as a number, 0 for accepted, and the bytes, on a fault unchanged
abbrev pub answer_number : Result ℕ Fault → ℕ
answer_number r = number_in r

abbrev pub room_after : Result ℕ Fault → ℕ → ℕ
room_after (Ok n) old = n
room_after (Err f) old = old

pub record RoomLeaves (value : ℕ) (s : List ℕ) (old r new : ℕ) : Type 0 where
  pub answer : Result ℕ Fault
  pub is : RoomIs value s answer
  pub number : r ≡ answer_number answer
  pub leaves : new ≡ room_after answer old

-- the entry that writes the page, for C: as a number, 0 for accepted, and the bytes written, on a fault unchanged
abbrev pub paged_number : Result ℕ Fault → ℕ
paged_number r = number_in r

abbrev pub written_after : Result ℕ Fault → ℕ → ℕ
written_after (Ok n) old = n
written_after (Err f) old = old

pub record PageLeaves (value : ℕ) (s page : List ℕ) (old r : ℕ) (page' : List ℕ) (new : ℕ) : Type 0 where
  pub outcome : Result ℕ Fault
  pub is : Pages value s page outcome page'
  pub number : r ≡ paged_number outcome
  pub leaves : new ≡ written_after outcome old
