use Prim.Native.Nat.{ℕ}
use mathlib.Core.Path.{◌≡◌}
use mathlib.Core.List.{List, ◌++◌, flat_map}
use lib.ListN.{length, take}
use Rattle.rules_page.specs.Page.{left_in, column}
use Rattle.image_lines.proofs.put_others.Given as goal

abbrev pub invariant-loop-i : goal.invariant-loop-i
invariant-loop-i l = (h : List ℕ) → length h ≡ 36 → l.initial.text ≡ left_in 73 h → l.text ≡ left_in 73 (h ++ flat_map column (take l.i l.others))
