use Rattle.std.proofs.Common.{◌≡◌, ◌+◌, ◌-◌, ◌*◌, sym, ap, ◌∙◌, arith}
use Rattle.tables_lookup.specs.First.{first_from, is_number, positions}
use Rattle.tables_lookup.proofs.First.{found, missing, first-none, first-here, first_next, rest-entries, no-entries, step}
use Rattle.tables_lookup.proofs.first_spaced.Goals as goal

pub loop-i-init : goal.loop-i-init
loop-i-init c = let e : c.args.n ≡ c.args.n - 0 = omega arith in
    (ap (λ k. c.args.first + c.args.stride * k) (sym e), ap (λ k. first_from (is_number c.args.s.now c.args.x) 0 (positions c.args.stride k c.args.first)) e)

pub is_number-requires : goal.is_number-requires
is_number-requires c = let h = c.loop-i.invariant.0 in omega arith

pub returns-then-is_number-clause-first : goal.returns-then-is_number-clause-first
returns-then-is_number-clause-first c = found (c.loop-i.invariant.1 ∙ first-here _ _ (rest-entries _ _ _ _ _ c.loop-i-test.true) (sym c.is_number.ensures ∙ c.if-is_number.true))

pub overflow_add-p : goal.overflow_add-p
overflow_add-p c = let h = c.loop-i.invariant.0 in let g = step c.args.stride c.args.n c.loop-i.i c.loop-i-test.true in omega arith

pub loop-i-preserved : goal.loop-i-preserved
loop-i-preserved c = let h = c.loop-i.invariant.0 in let g = step c.args.stride c.args.n c.loop-i.i c.loop-i-test.true in
    (omega arith, c.loop-i.invariant.1 ∙ first_next _ _ (rest-entries _ _ _ _ _ c.loop-i-test.true) (sym c.is_number.ensures ∙ c.if-is_number.false))

pub returns-clause-first : goal.returns-clause-first
returns-clause-first c = missing (c.loop-i.invariant.1 ∙ first-none _ _ (no-entries _ _ _ _ _ c.loop-i-test.false))
