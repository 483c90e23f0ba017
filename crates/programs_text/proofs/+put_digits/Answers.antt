use Rattle.programs_text.proofs.Spells.{last-put, short-put, more-put}
use Rattle.programs_text.proofs.+put_digits.Goals as goal

pub returns-then-more-eq0 : goal.returns-then-more-eq0
returns-then-more-eq0 t c = last-put _ _ c.if-more-eq0.true c.put.ensures

pub returns-then-n-lt10 : goal.returns-then-n-lt10
returns-then-n-lt10 t c = short-put _ _ c.if-more-eq0.false c.if-n-lt10.true c.put-then-n-lt10.ensures

pub returns : goal.returns
returns t c = more-put _ _ c.if-more-eq0.false c.if-n-lt10.false c.put_digits-next.ensures c.put-2.ensures
