use Rattle.std.proofs.Common.{sym, ap, ◌∙◌}
use Rattle.image_fields.proofs.Answers.{number_at, number-err, passed}
use Rattle.tables.specs.Answer.{type_of}
use Rattle.tables.proofs.Types.{kind_small, kind-stop, kind-none, kind-bad, kind-good}
use Rattle.tables.proofs.ty.read_type.Goals as goal

pub returns-in_err-number : goal.returns-in_err-number
returns-in_err-number c =
    rw (passed c.from_residual.ensures) (λ ts l. kind-stop _ _ ts l _ (number-err c.in_err-number.ensures))

pub returns-in_err-kind : goal.returns-in_err-kind
returns-in_err-kind c =
    rw (passed c.from_residual-in_err-kind.ensures, c.in_err-kind.ensures.0) (λ ts l. kind-none _ _ ts l _ (number_at c.in_ok-number.ensures) c.in_err-kind.ensures.1)

pub returns-then-kind_ok : goal.returns-then-kind_ok
returns-then-kind_ok c = λ ts l. c.read_parts.ensures ts l
    ∙ sym (ap type_of (kind-good _ _ ts l _ (number_at c.in_ok-number.ensures) c.in_ok-kind.ensures (kind_small c.in_ok-kind.kind) c.kind_ok.ensures c.if-kind_ok.true))

pub returns-else-kind_ok : goal.returns-else-kind_ok
returns-else-kind_ok c = λ ts l. kind-bad _ _ ts l _ (number_at c.in_ok-number.ensures) c.in_ok-kind.ensures (kind_small c.in_ok-kind.kind) c.kind_ok.ensures c.if-kind_ok.false
