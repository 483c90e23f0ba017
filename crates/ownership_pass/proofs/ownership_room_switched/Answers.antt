use Rattle.ownership_pass.proofs.Readings.{room-leaves-denied, room-leaves-needed}
use Rattle.ownership_pass.proofs.ownership_room_switched.Goals as goal

pub returns-in-Err : goal.returns-in-Err
returns-in-Err c = room-leaves-denied c.args.switches c.args.image.now c.room_switched.ensures c.args.needed.now c.in-Err.fault c.in-Err.is c.from.ensures

pub returns-in-Ok : goal.returns-in-Ok
returns-in-Ok c = room-leaves-needed c.args.switches c.args.image.now c.room_switched.ensures c.args.needed.now c.in-Ok.bytes c.in-Ok.is
