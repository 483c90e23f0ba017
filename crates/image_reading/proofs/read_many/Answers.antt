use mathlib.Core.Path.{sym, ap, ◌∙◌}
use native.Mathlib.Omega.{arith}
use Rattle.image_fields.proofs.Answers.{passed}
use Rattle.image_reading.specs.Answer.{ends_after}
use Rattle.image_reading.proofs.Many.{ends_none, ends-stop, ends-next}
use Rattle.image_reading.proofs.read_many.Goals as goal

pub returns-in_err-p : goal.returns-in_err-p
returns-in_err-p g c = λ h post. rw (passed c.from_residual.ensures)
    (ends-stop h _ (omega arith) (sym (post c.loop.p _ c.in_err-p.ensures)) ∙ sym (c.loop.invariant h post))

pub loop-preserved : goal.loop-preserved
loop-preserved g c = λ h post. c.loop.invariant h post ∙ ends-next h _ (omega arith) (sym (post c.loop.p _ c.in_ok-p.ensures))
    ∙ ap (λ k. ends_after h k c.in_ok-p.p) (omega arith)

pub returns : goal.returns
returns g c = λ h post. ends_none h _ (omega arith) ∙ sym (c.loop.invariant h post)
