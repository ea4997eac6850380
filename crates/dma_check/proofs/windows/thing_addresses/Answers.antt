use Rattle.dma_check.proofs.NumberedLaws.{one_more}
use Rattle.dma_check.specs.Numbered.{address_of_number}
use Rattle.dma_check.proofs.windows.thing_addresses.Goals as goal

pub loop-number-preserved : goal.loop-number-preserved
loop-number-preserved c = one_more (address_of_number _) c.loop-number.number c.loop-number.addresses.items _ c.address_of_number.result c.loop-number.invariant c.in_ok-push_some.ensures c.address_of_number.ensures
