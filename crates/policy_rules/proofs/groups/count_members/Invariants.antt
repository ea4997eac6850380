use Rattle.std.proofs.Common.{◌≡◌, length, take}
use Rattle.policy_lawful.specs.Counts.{Adds}
use Rattle.policy_rules.specs.Groups.{times_in}
use Rattle.policy_rules.proofs.groups.count_members.Given as goal

abbrev pub invariant-loop-group : goal.invariant-loop-group
invariant-loop-group l = record {
  room : length l.counts ≡ length l.initial.counts;
  adds : Adds l.initial.counts l.counts (times_in (take l.group-index l.groups));
}
