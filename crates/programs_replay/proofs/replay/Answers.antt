use native.Mathlib.Omega.{arith}
use borrow.Author.Rules.{rules}
use Prim.Native.Nat.{◌+◌, ◌-◌, ◌≤◌}
use lib.ListN.{length}
use Rattle.programs_replay.proofs.Records.{whole-inside}
use Rattle.programs_replay.proofs.replay.Goals as goal

pub agrees-same-requires : goal.agrees-same-requires
agrees-same-requires g c = let i = whole-inside _ _ c.record_at.ensures c.in-Some.is in i.1

pub counted-count-requires : goal.counted-count-requires
counted-count-requires g c = let i = whole-inside _ _ c.record_at.ensures c.in-Some.is in omega (arith, i)

pub loop-at-smaller : goal.loop-at-smaller
loop-at-smaller g c = let i = whole-inside _ _ c.record_at.ensures c.in-Some.is in omega (arith, i)

pub loop-at-preserved : goal.loop-at-preserved
loop-at-preserved g c = let i = whole-inside _ _ c.record_at.ensures c.in-Some.is in omega (arith, i)

pub print_label-requires : goal.print_label-requires
print_label-requires g c = let i = whole-inside _ _ c.record_at.ensures c.in-Some.is in omega (arith, i)
