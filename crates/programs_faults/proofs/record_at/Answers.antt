use native.Mathlib.Omega.{arith}
use Rattle.programs_faults.proofs.Records.{nothing_left, no_size, no-image, whole, inside-short, inside-ends}
use Rattle.programs_faults.proofs.record_at.Goals as goal

pub returns-then-room-lt1 : goal.returns-then-room-lt1
returns-then-room-lt1 c = record { value = nothing_left _ _ c.room.ensures c.if-room-lt1.true; inside = inside-short _ _ }

pub returns-then-room-lt4 : goal.returns-then-room-lt4
returns-then-room-lt4 c = record { value = no_size _ _ c.peek.ensures.0 c.room-2.ensures c.if-room-lt4.true; inside = inside-short _ _ }

pub returns-then-room-size : goal.returns-then-room-size
returns-then-room-size c = record { value = no-image _ _ c.peek.ensures.0 c.room-2.ensures c.if-room-lt4.false c.four_at-size.ensures.0 c.room-3.ensures c.if-room-size.true; inside = inside-short _ _ }

pub returns : goal.returns
returns c = record { value = whole _ _ c.peek.ensures.0 c.room-2.ensures c.if-room-lt4.false c.four_at-size.ensures.0 c.room-3.ensures c.if-room-size.false; inside = inside-ends _ _ (omega arith) (omega arith) (omega arith) }
