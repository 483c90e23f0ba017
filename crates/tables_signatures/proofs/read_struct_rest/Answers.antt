use Rattle.std.proofs.Common.{sym, ◌∙◌}
use Rattle.image_fields.proofs.Answers.{number_at, number-err, table_at, table-err, passed}
use Rattle.tables_signatures.proofs.Signatures.{flag-stop, shape-stop, methods-stop, methods-read, methods-alike}
use Rattle.tables_signatures.proofs.read_struct_rest.Goals as goal

pub returns-in_err-p : goal.returns-in_err-p
returns-in_err-p c = rw (passed c.from_residual.ensures) (flag-stop _ _ _ _ (number-err c.in_err-p.ensures))

pub returns-in_err-q : goal.returns-in_err-q
returns-in_err-q c = rw (passed c.from_residual-in_err-q.ensures) (shape-stop _ _ _ _ (number_at c.in_ok-p.ensures) (number-err c.in_err-q.ensures))

pub returns-in_err-next : goal.returns-in_err-next
returns-in_err-next c = rw (passed c.from_residual-in_err-next.ensures)
    (methods-stop _ _ _ _ (number_at c.in_ok-p.ensures) (number_at c.in_ok-q.ensures) (table-err (c.in_err-next.ensures ∙ sym (methods-alike _ _ _))))

pub returns : goal.returns
returns c = methods-read _ _ _ _ (number_at c.in_ok-p.ensures) (number_at c.in_ok-q.ensures) (table_at (c.in_ok-next.ensures ∙ sym (methods-alike _ _ _))).1
