use lib.ListN.{get_or}
use mathlib.Core.Path.{sym, ap, ◌∙◌}
use Rattle.image_fields.proofs.Answers.{number-err, number_at, passed}
use Rattle.image_body.specs.Expr.{fixed_count, last_width}
use Rattle.image_reading.proofs.Reading.{name-stop, generic-stop, call_ends, node-ends}
use Rattle.image_body.proofs.Walking.{callee}
use Rattle.image_reading.proofs.Reader.read_end.Goals.{else-tag-eq6-via-then-tag-eq6+else-generic_receiver, else-tag-eq6-via-else-tag-eq6}
use Rattle.image_reading.proofs.Reader.read_end.Goals as goal

pub returns-in_err-next : goal.returns-in_err-next
returns-in_err-next c = λ h ks xs q e ck sk. rw (passed c.from_residual.ensures)
    (name-stop _ _ h ks xs _ (c.last_width-width.ensures.0 ∙ ap (λ x. get_or last_width x 0) (sym e)) (number-err c.in_err-next.ensures))

pub returns-then-generic_receiver : goal.returns-then-generic_receiver
unfolding fixed_count
returns-then-generic_receiver c = λ h ks xs q e ck sk.
    generic-stop _ _ h ks xs _ (c.last_width-width.ensures.0 ∙ ap (λ x. get_or last_width x 0) (sym e)) (number_at c.in_ok-next.ensures) (e ∙ c.if-tag-eq6.true)
    (sym (callee _ c.args.self.now.s.now ks c.args.first q (rw c.if-tag-eq6.true at ck) sk c.generic_receiver.ensures) ∙ c.if-generic_receiver.true)

pub returns : goal.returns
unfolding fixed_count
returns c = λ h ks xs q e ck sk. elim c.else-tag-eq6.branch [
  | else-tag-eq6-via-then-tag-eq6+else-generic_receiver w ↦
      call_ends _ _ h ks xs _ (c.last_width-width.ensures.0 ∙ ap (λ x. get_or last_width x 0) (sym e)) (number_at c.in_ok-next.ensures) (e ∙ w.if-tag-eq6.true)
      (sym (callee _ c.args.self.now.s.now ks c.args.first q (rw w.if-tag-eq6.true at ck) sk w.generic_receiver.ensures) ∙ w.if-generic_receiver.false)
  | else-tag-eq6-via-else-tag-eq6 w ↦
      node-ends _ _ h ks xs _ (c.last_width-width.ensures.0 ∙ ap (λ x. get_or last_width x 0) (sym e)) (number_at c.in_ok-next.ensures) (λ z. w.if-tag-eq6.false (sym e ∙ z))
]
