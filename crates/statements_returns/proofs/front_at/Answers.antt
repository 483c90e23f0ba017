use Rattle.statements_returns.proofs.Fronts.{front-made}
use Rattle.statements_returns.proofs.front_at.Goals as goal

pub returns : goal.returns
returns c = front-made c.args.s.now c.args.at c.wide-k.ensures.0 c.value_count.ensures.0 c.head_bytes.ensures.0 c.value_flag-flag.ensures.0 c.flag_at-more.ensures.0 c.type_width.ensures.0
