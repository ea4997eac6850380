-- The regions that the subjects so far add.
use Rattle.std.proofs.Common.{◌≡◌, ◌≤◌, ◌*◌, ◌^◌, sum_by, take}
use Rattle.policy_rules.specs.Limits.{regions_of_subject}
use Rattle.policy_rules.proofs.limits.regions_of_subjects.Given as goal

abbrev pub invariant-loop-subject : goal.invariant-loop-subject
invariant-loop-subject l = record {
  sum : l.total ≡ sum_by (regions_of_subject l.policy) (take l.subject-index l.subjects);
  room : l.total ≤ l.subject-index * 2 ^ 65;
}
