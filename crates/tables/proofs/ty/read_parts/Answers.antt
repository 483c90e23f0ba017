use Rattle.image_fields.proofs.Answers.{number_at, number-err, passed}
use Rattle.tables.proofs.Types.{of-stop, shape-stop, shape-read}
use Rattle.tables.proofs.ty.read_parts.Goals as goal

pub returns-in_err-of : goal.returns-in_err-of
returns-in_err-of c =
    rw (passed c.from_residual.ensures) (λ ts l. of-stop _ _ ts l _ _ c.of_limit.ensures c.of_width.ensures (number-err c.in_err-of.ensures))

pub returns-in_err-next : goal.returns-in_err-next
returns-in_err-next c =
    rw (passed c.from_residual-in_err-next.ensures) (λ ts l. shape-stop _ _ ts l _ _ c.of_limit.ensures c.of_width.ensures (number_at c.in_ok-of.ensures) c.shape_width.ensures (number-err c.in_err-next.ensures))

pub returns : goal.returns
returns c = λ ts l. shape-read _ _ ts l _ _ c.of_limit.ensures c.of_width.ensures (number_at c.in_ok-of.ensures) c.shape_width.ensures (number_at c.in_ok-next.ensures)
