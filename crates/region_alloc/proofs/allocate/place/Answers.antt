use Rattle.region_alloc.proofs.HasRoom.{has_room}
use Rattle.region_alloc.proofs.allocate.place.Goals as goal

pub returns-clause-room : goal.returns-clause-room
returns-clause-room c = has_room _ _ c.in_ok-addresses.ensures.ok
