use Rattle.ownership_pass.proofs.Readings.{page-leaves-refused, page-leaves-written}
use Rattle.ownership_pass.proofs.ownership_page_switched.Goals as goal

pub returns-in-Err : goal.returns-in-Err
returns-in-Err c = page-leaves-refused c.args.switches c.args.image.now _ _ c.page_switched.ensures c.args.written.now c.in-Err.fault c.in-Err.is c.from.ensures

pub returns-in-Ok : goal.returns-in-Ok
returns-in-Ok c = page-leaves-written c.args.switches c.args.image.now _ _ c.page_switched.ensures c.args.written.now c.in-Ok.bytes c.in-Ok.is
