-- So many are clear.
use Rattle.std.proofs.Common.{take}
use Rattle.std.specs.List.{All}
use Rattle.rules_extents.specs.AddressRange.{IsApart, address_range_of}
use Rattle.rules_extents.proofs.shared.are_clear.Given as goal

abbrev pub invariant-loop-extent : goal.invariant-loop-extent
invariant-loop-extent l = All (λ e. All (λ s. IsApart s (address_range_of e)) l.ranges) (take l.extent-index l.extents)
