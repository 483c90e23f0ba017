use mathlib.Core.Path.{sym, ap, ◌∙◌}
use native.Mathlib.Omega.{arith}
use lib.ListN.{get_or}
use Rattle.std.specs.Prelude.{Ok}
use Rattle.image_fields.proofs.Answers.{number-err, number_at, passed, read-err, read_at}
use Rattle.image_body.specs.Stmt.{value_flag, value_count, type_width}
use Rattle.image_reading.proofs.BodyReading.{flag_small, flag-stop, values-stop, last-stop, front-done}
use Rattle.image_reading.proofs.Reader.read_values.Goals as goal

pub overflow_add-count : goal.overflow_add-count
overflow_add-count c = let l = flag_small _ _ _ c.read_field.ensures c.in_ok-n.was in omega arith

pub returns-in_err-n : goal.returns-in_err-n
returns-in_err-n c = λ h e. rw (passed c.from_residual.ensures) (flag-stop _ _ h _ (c.value_flag-flag.ensures.0 ∙ ap (λ x. get_or value_flag x 0) (sym e)) (number-err c.in_err-n.ensures))

pub returns-in_err-r : goal.returns-in_err-r
returns-in_err-r c = λ h e. rw (passed c.from_residual-in_err-r.ensures)
    (values-stop _ _ h _ (c.value_flag-flag.ensures.0 ∙ ap (λ x. get_or value_flag x 0) (sym e)) (number_at c.in_ok-n.ensures) (c.value_count-count.ensures.0 ∙ ap (λ x. get_or value_count x 0) (sym e)) (read-err c.in_err-r.ensures))

pub returns-in_err-end : goal.returns-in_err-end
returns-in_err-end c = λ h e. rw (passed c.from_residual-in_err-end.ensures)
    (last-stop _ _ h _ (c.value_flag-flag.ensures.0 ∙ ap (λ x. get_or value_flag x 0) (sym e)) (number_at c.in_ok-n.ensures) (c.value_count-count.ensures.0 ∙ ap (λ x. get_or value_count x 0) (sym e))
    (read_at c.in_ok-r.ensures).1 (c.type_width-width.ensures.0 ∙ ap (λ x. get_or type_width x 0) (sym e)) (number-err c.in_err-end.ensures))

pub returns : goal.returns
returns c = λ h e. ap (λ x. Ok (x, c.in_ok-end.end)) (sym e) ∙ front-done _ _ h _ (c.value_flag-flag.ensures.0 ∙ ap (λ x. get_or value_flag x 0) (sym e)) (number_at c.in_ok-n.ensures) (c.value_count-count.ensures.0 ∙ ap (λ x. get_or value_count x 0) (sym e))
    (read_at c.in_ok-r.ensures).1 (c.type_width-width.ensures.0 ∙ ap (λ x. get_or type_width x 0) (sym e)) (number_at c.in_ok-end.ensures)
