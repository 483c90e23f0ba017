use Prim.Native.Nat.{ℕ, ◌-◌}
use mathlib.Core.Path.{◌≡◌}
use Rattle.std.specs.Prelude.{Result}
use Rattle.image_fields.specs.declared.Fault.{Fault}
use Rattle.image_fields.specs.Fault.{coded}
use Rattle.image_reading.specs.Answer.{ends_after}
use Rattle.image_reading.proofs.read_many.Given as goal

abbrev pub invariant-loop : goal.invariant-loop
invariant-loop g l = (h : ℕ → Result ℕ ℕ) → ((p : ℕ) (r : Result ℕ Fault) → goal.F-post g l.read p r → coded r ≡ h p)
    → ends_after h l.n l.at ≡ ends_after h (l.n - l.counter) l.p
