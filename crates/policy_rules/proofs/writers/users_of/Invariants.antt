-- The users among the subjects so far.
use Rattle.std.proofs.Common.{take}
use Rattle.policy_rules.specs.Writers.{HasUsers}
use Rattle.policy_rules.proofs.writers.users_of.Given as goal

abbrev pub invariant-loop-index : goal.invariant-loop-index
invariant-loop-index l = HasUsers l.policy l.users.items (take l.index l.policy.subjects)
