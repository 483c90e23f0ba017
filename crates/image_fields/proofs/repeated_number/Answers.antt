use Rattle.std.proofs.Common.{◌≡◌, ◌+◌, ◌-◌, refl, sym, ◌∙◌, arith}
use Rattle.image_fields.proofs.Tables.{among_none, among-here, among_next, stride-less}
use Rattle.image_fields.proofs.repeated_number.Goals as goal

pub loop-init : goal.loop-init
loop-init c = let e : c.args.n - 0 ≡ c.args.n = omega arith in rw e (c.requires, refl)

pub returns-then-peek_two-x : goal.returns-then-peek_two-x
returns-then-peek_two-x c = sym (c.loop.invariant.1 ∙ among-here c.args.s.now _ _ _ _ (omega arith) (sym c.peek_two.ensures.0 ∙ c.if-peek_two-x.true))

pub overflow_add-p : goal.overflow_add-p
overflow_add-p c = let e : c.args.n - c.loop.counter ≡ c.args.n - (c.loop.counter + 1) + 1 = omega arith in
    omega (arith, stride-less c.args.stride _ _ e)

pub loop-preserved : goal.loop-preserved
loop-preserved c = let e : c.args.n - c.loop.counter ≡ c.args.n - (c.loop.counter + 1) + 1 = omega arith in
    (omega (arith, stride-less c.args.stride _ _ e), c.loop.invariant.1 ∙ among_next c.args.s.now _ _ _ _ _ e (λ z. c.if-peek_two-x.false (c.peek_two.ensures.0 ∙ z)))

pub returns : goal.returns
returns c = among_none c.args.s.now _ _ _ _ (omega arith) ∙ sym c.loop.invariant.1
