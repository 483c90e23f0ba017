use Rattle.image_fields.proofs.Answers.{passed, read-err, read_at}
use Rattle.image.proofs.Whole.{body-stop, body-done, body-left}
use Rattle.image.proofs.read_body.Goals as goal

pub returns-in_err-end : goal.returns-in_err-end
returns-in_err-end c = rw (passed c.from_residual.ensures) (body-stop _ _ _ (read-err c.in_err-end.ensures))

pub returns-then-end-s : goal.returns-then-end-s
returns-then-end-s c = body-done _ _ _ (read_at c.in_ok-end.ensures).1 c.if-end-s.true

pub returns-else-end-s : goal.returns-else-end-s
returns-else-end-s c = body-left _ _ _ (read_at c.in_ok-end.ensures).1 c.if-end-s.false
