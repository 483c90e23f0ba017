-- Which locals are deleted or left behind.
use Rattle.std.specs.Prelude.{ℕ, Bool, true, not, eqb, Some, None, Option}
use Rattle.rules.specs.Stack.{Static}

-- whether a local that the mark has is deleted: all but those of the name that is spared, if any
abbrev pub admitted : Option ℕ → Static → Bool
admitted (Some n) l = not (eqb l.name n)
admitted None l = true
