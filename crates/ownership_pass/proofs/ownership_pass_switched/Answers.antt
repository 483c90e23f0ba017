use Rattle.ownership_pass.proofs.Readings.{leaves-refused, leaves-accepted}
use Rattle.ownership_pass.proofs.ownership_pass_switched.Goals as goal

pub returns-in-Err : goal.returns-in-Err
returns-in-Err c = leaves-refused c.args.switches c.args.image.now _ _ c.pass_switched.ensures c.args.totals.now c.in-Err.fault c.in-Err.is c.from.ensures

pub returns-in-Ok : goal.returns-in-Ok
returns-in-Ok c = leaves-accepted c.args.switches c.args.image.now _ _ c.pass_switched.ensures c.args.totals.now c.in-Ok.t c.in-Ok.is
