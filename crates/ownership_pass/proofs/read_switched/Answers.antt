use Rattle.std.proofs.lemmas.Result.{err_from_is_err_and}
use Rattle.ownership_pass.proofs.Readings.{begun-err, begun-ok}
use Rattle.ownership_pass.proofs.read_switched.Goals as goal

pub returns-in_err-read : goal.returns-in_err-read
returns-in_err-read c =
    let r = err_from_is_err_and c.from_residual.result c.from_residual.ensures.1 in
    rw (r.1, r.2) (begun-err c.args.switches c.requires c.args.s.now c.read_image.new.tb c.read_image.ensures c.in_err-read.field-0.0 c.in_err-read.was)

pub returns : goal.returns
returns c = begun-ok c.args.switches c.requires c.args.s.now c.read_image.new.tb c.read_image.ensures c.in_ok-read.read c.in_ok-read.was c.first_env.result c.first_env.ensures
