-- Ranges that are kept in the order of their addresses, so that others can be held against them.
use Rattle.std.specs.Prelude.{◌≡◌, ℕ, ◌-◌, ◌<◌, List, ◌++◌, length, map, slice_index_or, None}
use Rattle.std.specs.List.Sorted.{IsPermutation}
use Rattle.policy_lawful.specs.Rules.{first_overlap}
use Rattle.policy_lawful.specs.declared.offence.Extent.{Extent}
use Rattle.rules_extents.specs.AddressRange.{IsBelow, address_range_of}
use Rattle.rules_extents.specs.declared.overlap.AddressRange.{AddressRange}

-- these ranges are kept, in another order
abbrev pub AreKept : List AddressRange → List Extent → Type 0
AreKept ranges extents = IsPermutation (map address_range_of extents) ranges

-- whatever extents are kept, those in front of them and those behind share no address with them nor with each other
abbrev pub StayApart : List AddressRange → List Extent → List Extent → Type 0
StayApart ranges front behind = (kept : List Extent) → AreKept ranges kept → first_overlap (front ++ kept ++ behind) ≡ None

-- a range begins where the last of so many of the first ones ends, or behind
abbrev pub IsBehind : List AddressRange → ℕ → AddressRange → Type 0
IsBehind ranges count range = (d : AddressRange) → 0 < count → IsBelow (slice_index_or ranges (count - 1) d) range

-- it ends where the next one begins, or in front
abbrev pub IsInFront : List AddressRange → ℕ → AddressRange → Type 0
IsInFront ranges count range = (d : AddressRange) → count < length ranges → IsBelow range (slice_index_or ranges count d)
