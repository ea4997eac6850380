-- Ranges that lie in others.
use Rattle.std.specs.Prelude.{◌+◌, ◌&&◌, Bool, List, nat_le}
use Rattle.std.specs.List.{list_any}
use Rattle.policy_lawful.specs.declared.offence.Extent.{Extent}
use Rattle.rules_extents.specs.AddressRange.{address_range_of}
use Rattle.rules_extents.specs.declared.overlap.AddressRange.{AddressRange}

-- the range lies wholly in this one
abbrev pub holds : Extent → AddressRange → Bool
holds e s = nat_le s.address e.address && nat_le (e.address + e.size) (s.address + s.size)

-- it lies wholly in one of the blocks
abbrev pub is_inside : List Extent → Extent → Bool
is_inside blocks e = list_any (λ b. holds e (address_range_of b)) blocks
