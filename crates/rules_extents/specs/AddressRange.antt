-- Ranges of addresses without their names.
use Rattle.std.specs.Prelude.{ℕ, ◌+◌, ◌*◌, ◌≤◌, ◌⊎◌}
use Rattle.policy_lawful.specs.declared.offence.Extent.{Extent}
use Rattle.rules_extents.specs.declared.overlap.AddressRange.{AddressRange}

-- a range without its name
abbrev pub address_range_of : Extent → AddressRange
address_range_of e = record { address = e.address; size = e.size }

-- the sum of the addresses where it begins and where it ends
abbrev pub sum_of_ends : AddressRange → ℕ
sum_of_ends s = 2 * s.address + s.size

-- the first ends at or before the address of the second
abbrev pub IsBelow : AddressRange → AddressRange → Type 0
IsBelow a b = a.address + a.size ≤ b.address

-- two ranges share no address
abbrev pub IsApart : AddressRange → AddressRange → Type 0
IsApart a b = IsBelow a b ⊎ IsBelow b a
