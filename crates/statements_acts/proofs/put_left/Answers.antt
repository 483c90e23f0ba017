use native.Mathlib.Omega.{arith}
use Rattle.image_lines.proofs.Told.{listed-lines, listed-numbers}
use Rattle.statements_acts.proofs.put_left.Goals as goal

pub returns-then-paged : goal.returns-then-paged
returns-then-paged c = (listed-lines c.if-paged.true (c.put_left_line.ensures.0 c.args.span (c.requires.1 c.if-paged.true)), omega (arith, c.put_left_line.ensures.1))

pub returns : goal.returns
returns c = (listed-numbers c.if-paged.false c.put_triple.ensures, omega (arith, c.put_triple.ensures.place))
