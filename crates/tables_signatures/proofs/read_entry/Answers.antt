use Rattle.std.proofs.Common.{sym, ◌∙◌}
use Rattle.image_fields.proofs.Answers.{number_at, number-err, table_at, table-err, passed}
use Rattle.tables_signatures.proofs.Signatures.{receiver-stop, this-stop, params-stop, params-read, params-alike}
use Rattle.tables_signatures.proofs.read_entry.Goals as goal

pub returns-in_err-receiver : goal.returns-in_err-receiver
returns-in_err-receiver c = rw (passed c.from_residual.ensures) (receiver-stop _ _ _ _ (number-err c.in_err-receiver.ensures))

pub returns-in_err-q : goal.returns-in_err-q
returns-in_err-q c = rw (passed c.from_residual-in_err-q.ensures) (this-stop _ _ _ _ (number_at c.in_ok-receiver.ensures) c.this_width.ensures (number-err c.in_err-q.ensures))

pub returns-in_err-next : goal.returns-in_err-next
returns-in_err-next c = rw (passed c.from_residual-in_err-next.ensures)
    (params-stop _ _ _ _ (number_at c.in_ok-receiver.ensures) c.this_width.ensures (number_at c.in_ok-q.ensures) (table-err (c.in_err-next.ensures ∙ sym (params-alike _ _ _ _))))

pub returns : goal.returns
returns c = params-read _ _ _ _ (number_at c.in_ok-receiver.ensures) c.this_width.ensures (number_at c.in_ok-q.ensures) (table_at (c.in_ok-next.ensures ∙ sym (params-alike _ _ _ _))).1
