use Rattle.std.proofs.Common.{sym, refl, ◌∙◌, arith}
use Rattle.tables_lookup.proofs.First.{rest-starts, no-starts}
use Rattle.tables_named.proofs.Name.{rest-bytes, starts-differ, starts-next, starts_none, name-short, name-start}
use Rattle.tables_named.proofs.begins_with.Goals as goal

pub returns-then-peek-word : goal.returns-then-peek-word
returns-then-peek-word c = name-short _ _ _ c.peek.ensures.0 c.if-peek-word.true

pub loop-i-init : goal.loop-i-init
loop-i-init c = let a = c.args in name-start a.s.now a.word.now a.at refl

pub returns-then-peek-from : goal.returns-then-peek-from
returns-then-peek-from c = sym (c.loop-i.invariant ∙ starts-differ (rest-starts _ c.loop-i.i c.loop-i-test.true) (rest-bytes _ _ _ c.loop-i.i (let h = c.peek.ensures.0 in omega arith)) (λ e. c.if-peek-from.true (c.peek-in-loop-i.ensures.0 ∙ sym e ∙ sym c.from.ensures)))

pub loop-i-preserved : goal.loop-i-preserved
loop-i-preserved c = c.loop-i.invariant ∙ starts-next (rest-starts _ c.loop-i.i c.loop-i-test.true) (rest-bytes _ _ _ c.loop-i.i (let h = c.peek.ensures.0 in omega arith)) (sym c.from.ensures ∙ sym c.if-peek-from.false ∙ c.peek-in-loop-i.ensures.0)

pub returns : goal.returns
returns c = sym (c.loop-i.invariant ∙ starts_none _ (no-starts _ c.loop-i.i (omega arith) (omega arith)))
