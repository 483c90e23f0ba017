use Rattle.image_fields.proofs.Answers.{number_at, number-err, passed}
use Rattle.tables_signatures.proofs.Signatures.{name-stop, value-stop, named-taken, named-free}
use Rattle.tables_signatures.proofs.NamedFormat.read_named.Goals as goal

pub returns-in_err-name : goal.returns-in_err-name
returns-in_err-name c = rw (passed c.from_residual.ensures) (λ xs ex. name-stop _ _ _ _ _ _ xs _ (number-err c.in_err-name.ensures))

pub returns-in_err-q : goal.returns-in_err-q
returns-in_err-q c = rw (passed c.from_residual-in_err-q.ensures) (λ xs ex. value-stop _ _ _ _ _ _ xs _ (number_at c.in_ok-name.ensures) (number-err c.in_err-q.ensures))

pub returns-then-taken : goal.returns-then-taken
returns-then-taken c = λ xs ex. named-taken _ _ _ _ _ _ xs _ (number_at c.in_ok-name.ensures) (number_at c.in_ok-q.ensures) _ _ ex c.taken.ensures c.if-taken.true

pub returns-else-taken : goal.returns-else-taken
returns-else-taken c = λ xs ex. named-free _ _ _ _ _ _ xs _ (number_at c.in_ok-name.ensures) (number_at c.in_ok-q.ensures) _ _ ex c.taken.ensures c.if-taken.false
