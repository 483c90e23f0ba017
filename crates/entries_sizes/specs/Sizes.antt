-- The sizes of memory of our own, from the least to the one that reaches for every image.
use Rattle.std.specs.Prelude.{ℕ, Bool, true, false, Option, Some, None}
use Rattle.entries_sizes.specs.declared.Size.{Size}
use Rattle.entries_sizes.specs.declared.Size.TheVariants.{Tiny, Short, Middle, Long}

-- the rows of the longest suffice for every image
abbrev pub is_long : Size → Bool
is_long Tiny = false
is_long Short = false
is_long Middle = false
is_long Long = true

abbrev pub following : Size → Option Size
following Tiny = Some Short
following Short = Some Middle
following Middle = Some Long
following Long = None

-- how many are larger
abbrev pub larger : Size → ℕ
larger Tiny = 3
larger Short = 2
larger Middle = 1
larger Long = 0
