use Rattle.scope_entered.proofs.Entering.{adds_one}
use Rattle.scope_entered.proofs.register.Goals as goal

pub returns : goal.returns
returns c =
    adds_one c.args.tb.now c.args.l c.register_local.result c.args.name c.args.ty _ c.requires.1 c.auto_deleted-dtor.ensures c.register_local.ensures
