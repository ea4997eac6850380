use Rattle.std.proofs.Common.{◌≡◌}
use Rattle.std.specs.List.{filter_map}
use Rattle.dma_check.specs.Numbered.{address_of_number}
use Rattle.muen_num.specs.Range.{numbers_below}
use Rattle.dma_check.proofs.windows.thing_addresses.Given as goal

-- those of the numbers so far
abbrev pub invariant-loop-number : goal.invariant-loop-number
invariant-loop-number l = l.addresses.items ≡ filter_map (address_of_number l.spans) (numbers_below l.number)
