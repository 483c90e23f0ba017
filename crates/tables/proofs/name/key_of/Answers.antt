use Rattle.std.proofs.Common.{◌≡◌, ◌+◌, ◌*◌, ◌%◌, fold, ◌∙◌, rules}
use Rattle.tables.proofs.Keys.{key_fold}
use Rattle.tables.proofs.name.key_of.Goals as goal

pub returns : goal.returns
returns c =
    let e : c.fold.result ≡ fold (λ key x. (key * 31 % 4294967296 + x) % 4294967296) 0 c.args.name.now = search rules in
    e ∙ key_fold 0 c.args.name.now
