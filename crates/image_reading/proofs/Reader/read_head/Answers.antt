use mathlib.Core.Logic.{⊎_elim}
use native.Mathlib.Omega.{arith}
use borrow.Author.Tests.{lt-ltb, le-ltb, le-leb, lt-leb}
use Rattle.image_fields.proofs.Answers.{number-err, number_at, passed}
use Rattle.image_fields.specs.Parsed.{ensure, bind}
use Rattle.image_body.specs.Expr.{head_at}
use Rattle.image_reading.specs.Answer.{start_of}
use Rattle.image_reading.proofs.Reader.read_head.Goals as goal

pub returns-then-room-lt7 : goal.returns-then-room-lt7
unfolding head_at start_of ensure bind
returns-then-room-lt7 c = simp (← c.room.ensures, lt-leb _ _ c.if-room-lt7.true)

pub returns-then-tag-eq0 : goal.returns-then-tag-eq0
unfolding head_at start_of ensure bind
returns-then-tag-eq0 c = ⊎_elim
    (λ z. simp (← c.room.ensures, le-leb _ _ c.if-room-lt7.false, ← c.from-tag.ensures, le-ltb 0 c.from-tag.result (omega arith)))
    (λ z. simp (← c.room.ensures, le-leb _ _ c.if-room-lt7.false, ← c.from-tag.ensures, lt-ltb 0 c.from-tag.result (omega arith), le-ltb c.from-tag.result 16 (omega arith)))
    c.then-tag-eq0.either

pub returns-then-not-type_ok : goal.returns-then-not-type_ok
unfolding head_at start_of ensure bind
returns-then-not-type_ok c = simp (← c.room.ensures, le-leb _ _ c.if-room-lt7.false, ← c.from-tag.ensures, lt-ltb 0 c.from-tag.result (omega arith), lt-ltb c.from-tag.result 16 (omega arith), ← c.two_at-ty.ensures.0, ← c.type_ok.ensures, c.if-not-type_ok.true)

pub returns-in_err-next : goal.returns-in_err-next
unfolding head_at start_of ensure bind
returns-in_err-next c = rw (passed c.from_residual.ensures)
    (simp (← c.room.ensures, le-leb _ _ c.if-room-lt7.false, ← c.from-tag.ensures, lt-ltb 0 c.from-tag.result (omega arith), lt-ltb c.from-tag.result 16 (omega arith), ← c.two_at-ty.ensures.0, ← c.type_ok.ensures, c.if-not-type_ok.false, ← c.arg_width-width.ensures.0, ← c.arg_limit.ensures, number-err c.in_err-next.ensures))

pub returns : goal.returns
unfolding head_at start_of ensure bind
returns c = simp (← c.room.ensures, le-leb _ _ c.if-room-lt7.false, ← c.from-tag.ensures, lt-ltb 0 c.from-tag.result (omega arith), lt-ltb c.from-tag.result 16 (omega arith), ← c.two_at-ty.ensures.0, ← c.type_ok.ensures, c.if-not-type_ok.false, ← c.arg_width-width.ensures.0, ← c.arg_limit.ensures, number_at c.in_ok-next.ensures)
