use native.Mathlib.Omega.{arith}
use Rattle.programs_faults.proofs.Records.{ends-inside}
use Rattle.programs_faults.proofs.print_records.Goals as goal

pub print_record-requires : goal.print_record-requires
print_record-requires g c = ends-inside _ _ c.record_at.ensures.inside c.in-Some.is

pub loop-at-smaller : goal.loop-at-smaller
loop-at-smaller g c = let i = ends-inside _ _ c.record_at.ensures.inside c.in-Some.is in omega (arith, i)
