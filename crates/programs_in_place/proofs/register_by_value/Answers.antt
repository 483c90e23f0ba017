use Rattle.lent.proofs.Stacks.{revived}
use Rattle.programs_in_place.proofs.register_by_value.Goals as goal

pub returns : goal.returns
returns c =
    let all = c.mark.ensures in
    revived c.args.old _ _ _ _ _ c.register_local-locals.result c.if-old-ge64.false c.register_local-locals.ensures 0 _ all.0 all.1
