-- The names so far.
use Rattle.std.proofs.Common.{take}
use Rattle.policy_rules.specs.Names.{HasAll}
use Rattle.policy_rules.proofs.writers.set_of.Given as goal

abbrev pub invariant-loop-name : goal.invariant-loop-name
invariant-loop-name l = HasAll l.all (take l.name-index l.names)
