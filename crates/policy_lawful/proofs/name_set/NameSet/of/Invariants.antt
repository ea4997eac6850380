-- The names so far, and none of the rest stands twice.
use Rattle.std.proofs.Common.{◌≡◌, None, map, take, drop}
use Rattle.policy_lawful.proofs.NameSets.{repeated_after}
use Rattle.policy_lawful.proofs.name_set.NameSet.of.Given as goal

abbrev pub invariant-loop-item : goal.invariant-loop-item
invariant-loop-item g l = record {
  same : l.names ≡ map g.T.Named.name (take l.item-index l.items);
  rest : repeated_after l.names (map g.T.Named.name (drop l.item-index l.items)) ≡ None;
}
