use Rattle.std.proofs.Common.{take}
use Rattle.rules_channels.specs.ByIndex.{AreItems}
use Rattle.rules_channels.proofs.by_index.by_index.Given as goal

abbrev pub invariant-loop-item : goal.invariant-loop-item
invariant-loop-item g l = AreItems l.lists.items l.indexes (take l.item-index l.items)
