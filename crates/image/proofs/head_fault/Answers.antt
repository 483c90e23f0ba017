use borrow.Author.Tests.{eq-eqb, ne_eqb, le-leb, lt-leb}
use Rattle.image.specs.Layout.{head_fault}
use Rattle.image.proofs.head_fault.Goals.{then-s-lt5-via-then-s-lt5, then-s-lt5-via-else-s-lt5+then-s-gt-MOST_BYTES, then-s-lt5-via-else-s-lt5+else-s-gt-MOST_BYTES+then-four_at-s}
use Rattle.image.proofs.head_fault.Goals as goal

pub returns-then-s-lt5 : goal.returns-then-s-lt5
unfolding head_fault
returns-then-s-lt5 c = elim c.then-s-lt5.branch [
  | then-s-lt5-via-then-s-lt5 w ↦ simp (lt-leb _ _ w.if-s-lt5.true)
  | then-s-lt5-via-else-s-lt5+then-s-gt-MOST_BYTES w ↦ simp (le-leb _ _ w.if-s-lt5.false, lt-leb _ _ w.if-s-gt-MOST_BYTES.true)
  | then-s-lt5-via-else-s-lt5+else-s-gt-MOST_BYTES+then-four_at-s w ↦
      simp (le-leb _ _ w.if-s-lt5.false, le-leb _ _ w.if-s-gt-MOST_BYTES.false, ← w.four_at.ensures.0, ne_eqb _ _ w.if-four_at-s.true)
]

pub returns-then-peek-ne1 : goal.returns-then-peek-ne1
unfolding head_fault
returns-then-peek-ne1 c = simp (le-leb _ _ c.if-s-lt5.false, le-leb _ _ c.if-s-gt-MOST_BYTES.false, ← c.four_at.ensures.0, eq-eqb _ _ c.if-four_at-s.false, ← c.peek.ensures.0, ne_eqb _ _ c.if-peek-ne1.true)

pub returns : goal.returns
unfolding head_fault
returns c = simp (le-leb _ _ c.if-s-lt5.false, le-leb _ _ c.if-s-gt-MOST_BYTES.false, ← c.four_at.ensures.0, eq-eqb _ _ c.if-four_at-s.false, ← c.peek.ensures.0, eq-eqb _ _ c.if-peek-ne1.false)
