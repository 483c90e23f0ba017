use mathlib.Core.Path.{refl, sym, ◌∙◌}
use native.Mathlib.Omega.{arith}
use Rattle.statements_returns.proofs.Surely.{rest-start, rest-there, rest-next, rest-done, block-there, stmt-there, values-there, in_bytes, block-after, turn-after, branches-after, is_block, is-turn, is-branches, is-end, then-only, then-other, some_byte}
use Rattle.statements_returns.proofs.+branches_guaranteed_return_statement_guaranteed_return_statements_guaranteed_return.Goals as goal

pub branches_guaranteed_return-returns-then-peek-eq0 : goal.branches_guaranteed_return-returns-then-peek-eq0
branches_guaranteed_return-returns-then-peek-eq0 t c = then-only _ _ _ _ c.statements_guaranteed_return-then.ensures (sym c.peek.ensures.0 ∙ c.if-peek-eq0.true)

pub branches_guaranteed_return-returns-then-then : goal.branches_guaranteed_return-returns-then-then
branches_guaranteed_return-returns-then-then t c = then-other _ _ _ _ c.statements_guaranteed_return-then.ensures (some_byte c.peek.ensures.0 c.if-peek-eq0.false) _ c.statements_guaranteed_return-other.ensures _ (rw c.if-then.true refl)

pub branches_guaranteed_return-returns-else-then : goal.branches_guaranteed_return-returns-else-then
branches_guaranteed_return-returns-else-then t c = then-other _ _ _ _ c.statements_guaranteed_return-then.ensures (some_byte c.peek.ensures.0 c.if-peek-eq0.false) _ c.statements_guaranteed_return-other.ensures _ (rw c.if-then.false refl)

pub statement_guaranteed_return-front_at-f-requires : goal.statement_guaranteed_return-front_at-f-requires
statement_guaranteed_return-front_at-f-requires t c = stmt-there _ _ _ c.requires.0

pub statement_guaranteed_return-skip_many-requires : goal.statement_guaranteed_return-skip_many-requires
statement_guaranteed_return-skip_many-requires t c = values-there _ _ _ c.requires.0 _ _ c.front_at-f.ensures c.wide16.ensures

pub statement_guaranteed_return-overflow_add-p : goal.statement_guaranteed_return-overflow_add-p
statement_guaranteed_return-overflow_add-p t c = let l = in_bytes _ _ _ _ _ _ c.front_at-f.ensures c.wide16.ensures c.skip_many.ensures c.requires.0 in omega (arith, l, c.requires.1)

pub statement_guaranteed_return-statements_guaranteed_return-requires : goal.statement_guaranteed_return-statements_guaranteed_return-requires
statement_guaranteed_return-statements_guaranteed_return-requires t c = (omega arith, (block-after _ _ _ _ _ _ c.front_at-f.ensures c.wide16.ensures c.skip_many.ensures c.requires.0 c.in-1.is, c.requires.1))

pub statement_guaranteed_return-returns-in-1 : goal.statement_guaranteed_return-returns-in-1
statement_guaranteed_return-returns-in-1 t c = is_block _ _ _ _ _ _ c.front_at-f.ensures c.wide16.ensures c.skip_many.ensures c.in-1.is _ c.statements_guaranteed_return.ensures

pub statement_guaranteed_return-branches_guaranteed_return-requires : goal.statement_guaranteed_return-branches_guaranteed_return-requires
statement_guaranteed_return-branches_guaranteed_return-requires t c = (omega arith, (branches-after _ _ _ _ _ _ c.front_at-f.ensures c.wide16.ensures c.skip_many.ensures c.requires.0 c.in-7.is, c.requires.1))

pub statement_guaranteed_return-returns-in-7 : goal.statement_guaranteed_return-returns-in-7
statement_guaranteed_return-returns-in-7 t c = is-branches _ _ _ _ _ _ c.front_at-f.ensures c.wide16.ensures c.skip_many.ensures c.in-7.is _ c.branches_guaranteed_return.ensures

pub statement_guaranteed_return-statements_guaranteed_return-requires-in-8 : goal.statement_guaranteed_return-statements_guaranteed_return-requires-in-8
statement_guaranteed_return-statements_guaranteed_return-requires-in-8 t c = (omega arith, (turn-after _ _ _ _ _ _ c.front_at-f.ensures c.wide16.ensures c.skip_many.ensures c.requires.0 c.in-8.is, c.requires.1))

pub statement_guaranteed_return-returns-in-8 : goal.statement_guaranteed_return-returns-in-8
statement_guaranteed_return-returns-in-8 t c = is-turn _ _ _ _ _ _ c.front_at-f.ensures c.wide16.ensures c.skip_many.ensures c.in-8.is _ c.statements_guaranteed_return-in-8.ensures

pub statement_guaranteed_return-returns-in_default : goal.statement_guaranteed_return-returns-in_default
statement_guaranteed_return-returns-in_default t c = is-end _ _ _ _ _ _ c.front_at-f.ensures c.wide16.ensures c.skip_many.ensures (λ e. omega arith) (λ e. omega arith) (λ e. omega arith) _ refl

pub statements_guaranteed_return-overflow_add-at : goal.statements_guaranteed_return-overflow_add-at
statements_guaranteed_return-overflow_add-at t c = let l = block-there _ _ _ c.requires.0 in omega (arith, l.1, c.requires.1)

pub statements_guaranteed_return-two_at-n-requires : goal.statements_guaranteed_return-two_at-n-requires
statements_guaranteed_return-two_at-n-requires t c = let l = block-there _ _ _ c.requires.0 in omega (arith, l.1)

pub statements_guaranteed_return-overflow_add-last : goal.statements_guaranteed_return-overflow_add-last
statements_guaranteed_return-overflow_add-last t c = let l = block-there _ _ _ c.requires.0 in omega (arith, l.1, c.requires.1)

pub statements_guaranteed_return-loop-init : goal.statements_guaranteed_return-loop-init
statements_guaranteed_return-loop-init t c = rest-start _ _ _ c.two_at-n.ensures.0

pub statements_guaranteed_return-overflow_sub-left : goal.statements_guaranteed_return-overflow_sub-left
statements_guaranteed_return-overflow_sub-left t c = let l = block-there _ _ _ c.requires.0 in l.0

pub statements_guaranteed_return-statement_guaranteed_return-last-requires : goal.statements_guaranteed_return-statement_guaranteed_return-last-requires
statements_guaranteed_return-statement_guaranteed_return-last-requires t c = let l = block-there _ _ _ c.requires.0 in (omega (arith, l.0), (rest-there _ _ _ _ _ _ c.loop.invariant (omega (arith, c.loop-test.true)) c.requires.0, c.requires.1))

pub statements_guaranteed_return-loop-preserved : goal.statements_guaranteed_return-loop-preserved
statements_guaranteed_return-loop-preserved t c = rest-next _ _ _ _ _ _ c.loop.invariant (omega (arith, c.loop-test.true)) (omega arith) _ c.statement_guaranteed_return-last.ensures

pub statements_guaranteed_return-returns : goal.statements_guaranteed_return-returns
statements_guaranteed_return-returns t c = rest-done _ _ _ _ _ _ c.loop.invariant (omega (arith, c.loop-test.false)) _ refl refl
