use Rattle.statements_acts.proofs.Acts.{warns-none, warns-some}
use Rattle.statements_acts.proofs.put_unused.Goals as goal

pub returns-in_default : goal.returns-in_default
returns-in_default c = warns-none _ c.in_default.is _ _ _ _ _

pub returns : goal.returns
returns c = warns-some _ c.in-Some.is c.span_at-span.ensures c.put_delete_head-next.ensures c.put_warning-more.ensures.0 c.put_warning-more.ensures.1
