use mathlib.Core.Path.{sym, ap, ◌∙◌}
use native.Mathlib.Omega.{arith}
use lib.ListN.{get_or}
use Rattle.image_fields.proofs.Answers.{number-err, number_at, passed, read-err, read_at}
use Rattle.image_fields.specs.Answer.{read_of}
use Rattle.image_body.specs.Expr.{fixed_count, count_width, leaf, none, more, expr_at}
use Rattle.image_body.specs.Answer.{scope_of}
use Rattle.image_reading.proofs.Many.{many-ends}
use Rattle.image_reading.proofs.Reading.{start-ok, start-bad, deep, bad-head, good-head, tag_small, children-stop, count-stop, items-stop, to_end, leaf-ends}
use Rattle.image_body.proofs.Standing.{stand-all}
use Rattle.image_reading.proofs.+expressions.Goals as goal

pub Reader::read_children-returns-in_err-p : goal.Reader::read_children-returns-in_err-p
Reader::read_children-returns-in_err-p t c = λ h e. rw (passed c.from_residual.ensures)
    (children-stop _ _ _ h _ (c.fixed_count-fixed.ensures.0 ∙ ap (λ x. get_or fixed_count x 0) (sym e)) (read-err c.in_err-p.ensures))

pub Reader::read_children-returns-in_err-n : goal.Reader::read_children-returns-in_err-n
Reader::read_children-returns-in_err-n t c = λ h e. rw (passed c.from_residual-in_err-n.ensures)
    (count-stop _ _ _ h _ (c.fixed_count-fixed.ensures.0 ∙ ap (λ x. get_or fixed_count x 0) (sym e)) (read_at c.in_ok-p.ensures).1 (c.count_width-width.ensures.0 ∙ ap (λ x. get_or count_width x 0) (sym e)) (number-err c.in_err-n.ensures))

pub Reader::read_children-returns-in-Ok : goal.Reader::read_children-returns-in-Ok
Reader::read_children-returns-in-Ok t c = λ h e.
    let ks = read_at c.in_ok-p.ensures in
    let xs = read_at c.in-Ok.ensures in
    let st = stand-all _ _ _ _ _ _ _ ks.1 in
    c.read_end.ensures h ks.0 xs.0 _ e (st.1 ∙ c.fixed_count-fixed.ensures.0) st.0
    ∙ sym (ap read_of (to_end _ _ _ h _ (c.fixed_count-fixed.ensures.0 ∙ ap (λ x. get_or fixed_count x 0) (sym e)) ks.1 (c.count_width-width.ensures.0 ∙ ap (λ x. get_or count_width x 0) (sym e)) (number_at c.in_ok-n.ensures) xs.1))

pub Reader::read_children-returns-in-Err : goal.Reader::read_children-returns-in-Err
Reader::read_children-returns-in-Err t c = λ h e.
    items-stop _ _ _ h _ (c.fixed_count-fixed.ensures.0 ∙ ap (λ x. get_or fixed_count x 0) (sym e)) (read_at c.in_ok-p.ensures).1 (c.count_width-width.ensures.0 ∙ ap (λ x. get_or count_width x 0) (sym e)) (number_at c.in_ok-n.ensures) (read-err c.in-Err.ensures)

pub Reader::read_expr-returns-then-left-eq0 : goal.Reader::read_expr-returns-then-left-eq0
Reader::read_expr-returns-then-left-eq0 t c = deep _ _ _ _ (omega arith)

pub Reader::read_expr-returns-in_err-tag : goal.Reader::read_expr-returns-in_err-tag
Reader::read_expr-returns-in_err-tag t c = rw (passed c.from_residual.ensures) (bad-head _ _ _ _ (omega arith) (start-bad c.read_head.ensures c.in_err-tag.was))

pub Reader::read_expr-returns-then-is_leaf : goal.Reader::read_expr-returns-then-is_leaf
Reader::read_expr-returns-then-is_leaf t c = let g = start-ok c.read_head.ensures c.in_ok-tag.was in
    leaf-ends _ _ _ g.1 (ap leaf g.2 ∙ sym c.is_leaf.ensures ∙ c.if-is_leaf.true) _ ∙ sym (ap read_of (good-head _ _ _ _ (omega arith) g.1))

pub Reader::read_expr-read_children-requires : goal.Reader::read_expr-read_children-requires
Reader::read_expr-read_children-requires t c = (omega arith, tag_small _ _ _ _ c.read_head.ensures c.in_ok-tag.was)

pub Reader::read_expr-returns : goal.Reader::read_expr-returns
Reader::read_expr-returns t c = let g = start-ok c.read_head.ensures c.in_ok-tag.was in
    c.read_children.ensures g.0 g.2 ∙ sym (ap read_of (good-head _ _ _ _ (omega arith) g.1))

pub Reader::read_exprs-returns : goal.Reader::read_exprs-returns
Reader::read_exprs-returns t c = let f = expr_at (scope_of c.args.self.now.env c.args.self.now.flags.now) c.args.self.now.s.now c.args.left in
    c.read_many.ensures (λ p. read_of (f p)) (λ p r h. h) ∙ many-ends none more f _ _
