use borrow.Author.Tests.{ne_eqb}
use lib.Dec.{eqb}
use lib.ListN.{get_or}
use mathlib.Core.Path.{sym, ap, ◌∙◌}
use Rattle.image_body.proofs.Walking.{no_field, no-ident, ident}
use Rattle.image_body.proofs.generic_receiver.Goals as goal

pub returns-then-peek-ne11 : goal.returns-then-peek-ne11
returns-then-peek-ne11 c = λ e next st. no_field _ _ _ _ c.strip_noop_unary-p.ensures e next st (λ z. c.if-peek-ne11.true (c.peek.ensures.0 ∙ z))

pub returns-else-peek-eq1 : goal.returns-else-peek-eq1
returns-else-peek-eq1 c = λ e next st. ne_eqb _ _ c.if-peek-eq1.false ∙ no-ident _ _ _ _ c.strip_noop_unary-p.ensures e next st (sym c.peek.ensures.0 ∙ c.if-peek-ne11.false) _ c.strip_noop_unary-q.ensures (λ z. c.if-peek-eq1.false (c.peek-2.ensures.0 ∙ z))

pub returns-then-peek-eq1 : goal.returns-then-peek-eq1
returns-then-peek-eq1 c = λ e next st.
    ap (λ x. eqb x 1) (c.peek-then-peek-eq1.ensures.0 ∙ ap (λ x. get_or c.args.flags.now x 0) c.peek_two.ensures.0)
    ∙ ident _ _ _ _ c.strip_noop_unary-p.ensures e next st (sym c.peek.ensures.0 ∙ c.if-peek-ne11.false) _ c.strip_noop_unary-q.ensures (sym c.peek-2.ensures.0 ∙ c.if-peek-eq1.true)
