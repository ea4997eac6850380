-- None of the subjects so far is the one that chooses.
use Rattle.std.proofs.Common.{◌≡◌, drop}
use Rattle.std.specs.List.{list_any}
use Rattle.policy_rules.specs.Tau0.{is_chooser}
use Rattle.policy_rules.proofs.tau0.some_chooser.Given as goal

abbrev pub invariant-loop-index : goal.invariant-loop-index
invariant-loop-index l = list_any (is_chooser l.policy l.chooser) (drop l.index l.policy.subjects) ≡ list_any (is_chooser l.policy l.chooser) l.policy.subjects
