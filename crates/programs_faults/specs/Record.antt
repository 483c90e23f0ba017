-- A record of a file of images: a label's length in one byte, the label, an image's length in four bytes, the image.
use Rattle.std.specs.Prelude.{ℕ, ◌+◌, ◌-◌, ◌≤◌, ◌<◌, List, cond, length, get_or, ltb, Option, Some, None}
use Rattle.image_fields.specs.Number.{four}
use Rattle.programs_faults.specs.declared.Record.{Record}

-- a record whose label ends at a position
unfoldable pub record_to : List ℕ → ℕ → Option Record
record_to s label =
    cond (ltb (length s - label) 4) None
    (cond (ltb (length s - (label + 4)) (four s label)) None
    (Some (record { label = label; end = label + 4 + four s label })))

-- the record that starts at a position
abbrev pub record_at : List ℕ → ℕ → Option Record
record_at s at = record_to s (at + 1 + get_or s at 0)

-- a whole record ends within the bytes, after its label
unfoldable pub Inside : List ℕ → ℕ → Option Record → Type 0
Inside s at (Some r) = (at < r.label) × (r.label + 4 ≤ r.end) × (r.end ≤ length s)
Inside s at None = Unit
