use mathlib.Core.Logic.{⊎_elim}
use native.Mathlib.Omega.{arith}
use borrow.Author.Tests.{lt-ltb, le-ltb, le-leb, lt-leb}
use Rattle.image_fields.specs.Parsed.{ensure}
use Rattle.image_body.specs.Stmt.{stmt_head_at}
use Rattle.image_reading.specs.Answer.{stmt_start_of}
use Rattle.image_reading.proofs.Reader.read_stmt_head.Goals as goal

pub returns-then-tag-eq0 : goal.returns-then-tag-eq0
unfolding stmt_head_at stmt_start_of ensure
returns-then-tag-eq0 c = ⊎_elim
    (λ z. simp (← c.peek-tag.ensures.0, le-ltb 0 c.peek-tag.result (omega arith)))
    (λ z. simp (← c.peek-tag.ensures.0, lt-ltb 0 c.peek-tag.result (omega arith), le-ltb c.peek-tag.result 11 (omega arith)))
    c.then-tag-eq0.either

pub returns-then-room-size : goal.returns-then-room-size
unfolding stmt_head_at stmt_start_of ensure
returns-then-room-size c = simp (← c.peek-tag.ensures.0, lt-ltb 0 c.peek-tag.result (omega arith), lt-ltb c.peek-tag.result 11 (omega arith), ← c.head_bytes-size.ensures.0, ← c.room.ensures, lt-leb _ _ c.if-room-size.true)

pub returns-then-binds_ok : goal.returns-then-binds_ok
unfolding stmt_head_at stmt_start_of ensure
returns-then-binds_ok c = simp (← c.peek-tag.ensures.0, lt-ltb 0 c.peek-tag.result (omega arith), lt-ltb c.peek-tag.result 11 (omega arith), ← c.head_bytes-size.ensures.0, ← c.room.ensures, le-leb _ _ c.if-room-size.false, ← c.binds_ok.ensures, c.if-binds_ok.true)

pub returns-else-binds_ok : goal.returns-else-binds_ok
unfolding stmt_head_at stmt_start_of ensure
returns-else-binds_ok c = simp (← c.peek-tag.ensures.0, lt-ltb 0 c.peek-tag.result (omega arith), lt-ltb c.peek-tag.result 11 (omega arith), ← c.head_bytes-size.ensures.0, ← c.room.ensures, le-leb _ _ c.if-room-size.false, ← c.binds_ok.ensures, c.if-binds_ok.false)
