use mathlib.Core.Path.{sym, ap, ◌∙◌}
use Rattle.image_fields.proofs.Answers.{passed}
use Rattle.image_reading.specs.Answer.{front_of}
use Rattle.image_reading.proofs.BodyReading.{head_small, head_ok, head-bad, front-head-bad, front-values}
use Rattle.image_reading.proofs.Reader.read_front.Goals as goal

pub read_values-requires : goal.read_values-requires
read_values-requires c = head_small _ _ _ _ c.read_stmt_head.ensures c.in_ok-tag.was

pub returns-in_err-tag : goal.returns-in_err-tag
returns-in_err-tag c = rw (passed c.from_residual.ensures) (front-head-bad _ _ _ (head-bad c.read_stmt_head.ensures c.in_err-tag.was))

pub returns : goal.returns
returns c = let g = head_ok c.read_stmt_head.ensures c.in_ok-tag.was in
    c.read_values.ensures g.0 g.2 ∙ sym (ap front_of (front-values _ _ _ g.1))
