-- The MSRs of the ranges so far.
use Rattle.std.proofs.Common.{◌≡◌, ◌≤◌, ◌*◌, ◌^◌, sum_by, take}
use Rattle.policy_rules.specs.Limits.{msr_count_in}
use Rattle.policy_rules.proofs.limits.msrs.Given as goal

abbrev pub invariant-loop-range : goal.invariant-loop-range
invariant-loop-range l = record {
  sum : l.total ≡ sum_by msr_count_in (take l.range-index l.ranges);
  room : l.total ≤ l.range-index * 2 ^ 64;
}
