-- Steps counted: `Steps c c'` says that some number of steps leads from c to c'.
-- Assumes nothing.
use Rattle.std.proofs.Common.{◌≡◌, ℕ, zero, suc, refl}
use Rattle.tables.specs.Tables.{Tables}
use Rattle.rules.specs.Run.{Config, step, Steps, arrived, onward}

module _ (T : Tables) where
  abbrev pub after : ℕ → Config → Config
  after zero c = c
  after (suc k) c = after k (step T c)

  pub after-steps : (k : ℕ) (c : Config) → Steps T c (after k c)
  after-steps zero c = arrived refl
  after-steps (suc k) c = onward (after-steps k (step T c))

  pub steps-after : {c c' : Config} → Steps T c c' → (k : ℕ) × (after k c ≡ c')
  steps-after (arrived e) = (0, e)
  steps-after (onward s) = let x = steps-after s in (suc x.0, x.1)
