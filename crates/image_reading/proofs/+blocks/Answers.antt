use mathlib.Core.Path.{sym, ap, ◌∙◌}
use mathlib.Core.List.{[], ◌∷◌}
use native.Mathlib.Omega.{arith}
use lib.ListN.{get_or}
use Rattle.image_fields.proofs.Answers.{number-err, number_at, passed, read-err, read_at}
use Rattle.image_fields.specs.Answer.{read_of}
use Rattle.image_body.specs.Stmt.{done, before, block_count, else_flag, block_at, stmt_in}
use Rattle.image_body.specs.Answer.{scope_of}
use Rattle.image_reading.proofs.Many.{many-ends}
use Rattle.image_reading.proofs.BodyReading.{front-ok, front-bad, front-small, blocks-stop, else-stop, back_done, no_blocks, stmt-stop, stmt-back, block-deep, block-short, block-stmts}
use Rattle.image_reading.proofs.+blocks.Goals as goal

pub Reader::read_back-returns-in_err-q : goal.Reader::read_back-returns-in_err-q
Reader::read_back-returns-in_err-q t c = λ h e. rw (passed c.from_residual.ensures)
    (blocks-stop _ _ h _ (c.block_count-count.ensures.0 ∙ ap (λ x. get_or block_count x 0) (sym e)) (read-err c.in_err-q.ensures))

pub Reader::read_back-returns-in_err-n : goal.Reader::read_back-returns-in_err-n
Reader::read_back-returns-in_err-n t c = λ h e. rw (passed c.from_residual-in_err-n.ensures)
    (else-stop _ _ h _ (c.block_count-count.ensures.0 ∙ ap (λ x. get_or block_count x 0) (sym e)) (read_at c.in_ok-q.ensures).1 (c.else_flag-flag.ensures.0 ∙ ap (λ x. get_or else_flag x 0) (sym e)) (number-err c.in_err-n.ensures))

pub Reader::read_back-returns : goal.Reader::read_back-returns
Reader::read_back-returns t c = λ h e. c.read_blocks-2.ensures ∙ sym (back_done _ _ h _ (c.block_count-count.ensures.0 ∙ ap (λ x. get_or block_count x 0) (sym e)) (read_at c.in_ok-q.ensures).1 (c.else_flag-flag.ensures.0 ∙ ap (λ x. get_or else_flag x 0) (sym e)) (number_at c.in_ok-n.ensures))

pub Reader::read_block-returns-then-left-eq0 : goal.Reader::read_block-returns-then-left-eq0
Reader::read_block-returns-then-left-eq0 t c = block-deep _ _ _ _ c.if-left-eq0.true

pub Reader::read_block-returns-then-bytes-lt6 : goal.Reader::read_block-returns-then-bytes-lt6
Reader::read_block-returns-then-bytes-lt6 t c = block-short _ _ _ _ c.if-left-eq0.false c.room-bytes.ensures c.if-bytes-lt6.true

pub Reader::read_block-returns : goal.Reader::read_block-returns
Reader::read_block-returns t c = c.read_stmts.ensures ∙ sym (block-stmts _ _ _ _ c.if-left-eq0.false c.room-bytes.ensures c.if-bytes-lt6.false c.two_at-n.ensures.0)

pub Reader::read_stmt-returns-in_err-tag : goal.Reader::read_stmt-returns-in_err-tag
Reader::read_stmt-returns-in_err-tag t c = rw (passed c.from_residual.ensures) (stmt-stop _ _ _ _ (front-bad c.read_front.ensures c.in_err-tag.was))

pub Reader::read_stmt-returns-then-block_count-eq0 : goal.Reader::read_stmt-returns-then-block_count-eq0
Reader::read_stmt-returns-then-block_count-eq0 t c = let g = front-ok c.read_front.ensures c.in_ok-tag.was in
    let small = front-small _ _ _ c.read_front.ensures c.in_ok-tag.was in
    no_blocks _ _ g.0 _ (omega (arith, small, g.2)) (sym c.if-block_count-eq0.true ∙ c.block_count.ensures.0 ∙ ap (λ x. get_or block_count x 0) (sym g.2)) ∙ sym (ap read_of (stmt-back _ _ _ _ g.1))

pub Reader::read_stmt-read_back-requires : goal.Reader::read_stmt-read_back-requires
Reader::read_stmt-read_back-requires t c = (omega arith, front-small _ _ _ c.read_front.ensures c.in_ok-tag.was)

pub Reader::read_stmt-returns : goal.Reader::read_stmt-returns
Reader::read_stmt-returns t c = let g = front-ok c.read_front.ensures c.in_ok-tag.was in
    c.read_back.ensures g.0 g.2 ∙ sym (ap read_of (stmt-back _ _ _ _ g.1))

pub Reader::read_blocks-returns : goal.Reader::read_blocks-returns
Reader::read_blocks-returns t c = let f = block_at (scope_of c.args.self.now.env c.args.self.now.flags.now) c.args.self.now.s.now c.args.left in
    c.read_many.ensures (λ p. read_of (f p)) (λ p r h. h) ∙ many-ends [] ◌∷◌ f _ _

pub Reader::read_stmts-returns : goal.Reader::read_stmts-returns
Reader::read_stmts-returns t c = let f = stmt_in (scope_of c.args.self.now.env c.args.self.now.flags.now) c.args.self.now.s.now c.args.left in
    c.read_many.ensures (λ p. read_of (f p)) (λ p r h. h) ∙ many-ends (done tt) before f _ _
