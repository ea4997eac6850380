-- So many lists so far.
use Rattle.std.proofs.Common.{◌≡◌, [], replicate}
use Rattle.policy_rules.proofs.writers.no_users.Given as goal

abbrev pub invariant-loop : goal.invariant-loop
invariant-loop l = l.users.items ≡ replicate l.counter []
