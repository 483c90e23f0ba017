-- Document 01's example as text, by computation.
use mathlib.Core.Path.{◌≡◌, refl}
use mathlib.Core.List.{List, [], ◌∷◌}
use Prim.Native.Nat.{ℕ}
use Rattle.image_writing.specs.Memory.{memory}
use Rattle.std.specs.Prelude.{Ok, Err}
use Rattle.image_fields.specs.declared.Fault.TheVariants.{Output}
use Rattle.programs_text.specs.Text.{spell, numbers}
use Rattle.ownership.specs.Text.{lines, text_of}

-- `accepted 81 1 0 0`, `error 1 15 0 13`
pub example-text : text_of (Ok (record { written = 81; errors = 1; warnings = 0; lefts = 0 }))
    (memory [] (1 ∷ 15 ∷ 0 ∷ 1 ∷ 13 ∷ 0 ∷ 0 ∷ 0 ∷ 0 ∷ 0 ∷ 0 ∷ 0 ∷ []) [] [])
    ≡ 97 ∷ 99 ∷ 99 ∷ 101 ∷ 112 ∷ 116 ∷ 101 ∷ 100 ∷ 32 ∷ 56 ∷ 49 ∷ 32 ∷ 49 ∷ 32 ∷ 48 ∷ 32 ∷ 48 ∷ 10
    ∷ 101 ∷ 114 ∷ 114 ∷ 111 ∷ 114 ∷ 32 ∷ 49 ∷ 32 ∷ 49 ∷ 53 ∷ 32 ∷ 48 ∷ 32 ∷ 49 ∷ 51 ∷ 10 ∷ []
unfolding spell numbers lines
example-text = refl

-- `refused 15`
pub refused-text : text_of (Err Output) (memory [] [] [] []) ≡ 114 ∷ 101 ∷ 102 ∷ 117 ∷ 115 ∷ 101 ∷ 100 ∷ 32 ∷ 49 ∷ 53 ∷ 10 ∷ []
unfolding spell numbers
refused-text = refl
