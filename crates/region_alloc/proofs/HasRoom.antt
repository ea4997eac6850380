-- Policies with room for their regions.
use Rattle.std.proofs.Common.{◌≡◌, ℕ, List, None, Ok, ap}
use Rattle.policy_lawful.specs.source.Source.{Source}
use Rattle.region_alloc.specs.Placement.{no_room, no_room_for, placement_of}

-- a policy whose regions are placed has room for them
pub has_room : (p : Source) (addresses : List ℕ) → placement_of p ≡ Ok addresses → no_room p ≡ None
unfolding no_room
has_room p addresses is = ap no_room_for is
