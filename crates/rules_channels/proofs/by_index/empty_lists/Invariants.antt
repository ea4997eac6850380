use Rattle.rules_channels.specs.ByIndex.{AreEmpty}
use Rattle.rules_channels.proofs.by_index.empty_lists.Given as goal

abbrev pub invariant-loop : goal.invariant-loop
invariant-loop g l = AreEmpty l.lists.items l.counter
