use Rattle.tables_lookup.proofs.Lent.{names-said}
use native.Mathlib.Omega.{arith}
use mathlib.Core.Path.{ap, ◌∙◌}
use lib.ListN.{get_or}
use Rattle.image_body.specs.Expr.{last_width}
use Rattle.expressions_steps.proofs.Stages.{seen, seen_start, goes_end}
use Rattle.expressions_steps.proofs.advance.Goals as goal

pub returns-then-top-gt0 : goal.returns-then-top-gt0
returns-then-top-gt0 c = λ T sy. c.next_child.ensures T (names-said sy)

pub returns-then-top-gt0-2 : goal.returns-then-top-gt0-2
returns-then-top-gt0-2 c = λ T sy. c.count_items.ensures T

pub finish-effect-requires : goal.finish-effect-requires
finish-effect-requires c = let z = seen_start c.args.s.now c.requires.1.os c.requires.1.n c.args.at c.requires.1.ready c.requires.1.some c.args.top c.requires.1.is in (c.requires.0, omega (arith, c.wide32.ensures, z))

pub overflow_add-result : goal.overflow_add-result
overflow_add-result c = let z = (seen c.args.s.now c.requires.1.os c.requires.1.n c.args.at c.requires.1.ready c.requires.1.some c.args.top c.requires.1.is).inside in let y = c.requires.1.ready.small in let w = c.last_width.ensures.1 in omega arith

pub returns : goal.returns
returns c = λ T sy os n rd lt eo. goes_end c.args.s.now os n c.args.at rd lt c.args.top eo T c.finish-effect.result c.last_width.result c.wide32.result c.if-top-gt0.false c.if-top-gt0-2.false (c.last_width.ensures.0 ∙ ap (λ x. get_or last_width x 0) c.wide.ensures.0) c.wide32.ensures (c.finish-effect.ensures T sy)
