-- A sealed door stays one.
use Rattle.commands.proofs.Doors.{sealed_alike}
use Rattle.commands.proofs.host_door.HostDoorDoor.send.Goals as goal

pub returns-in-Sealed-clause-alike : goal.returns-in-Sealed-clause-alike
returns-in-Sealed-clause-alike g c = sealed_alike c.args.self.now c.in-Sealed.door c.send-in-Sealed.new.self c.in-Sealed.is c.send-in-Sealed.ensures.alike
