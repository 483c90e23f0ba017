use Prim.Native.Nat.{◌+◌, ◌-◌, ◌≤◌, ◌<◌}
use mathlib.Core.Path.{◌≡◌}
use Rattle.image_lines.proofs.Texts.{tens, digits_before}
use Rattle.image_lines.proofs.put_digits.Given as goal

abbrev pub invariant-loop-m : goal.invariant-loop-m
invariant-loop-m l =
    (l.i < l.end) × (l.end ≤ l.i + 10) × (l.m < tens (l.i + 11 - l.end)) × (digits_before l.text (l.i + 1) (l.i + 11 - l.end) l.m ≡ digits_before l.initial.text l.end 10 l.n)

abbrev pub decreases-loop-m : goal.decreases-loop-m
decreases-loop-m l = l.m
