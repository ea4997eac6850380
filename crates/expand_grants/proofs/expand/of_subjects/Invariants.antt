use Rattle.std.proofs.Common.{take}
use Rattle.std.specs.List.{AllZip}
use Rattle.expand_grants.specs.Grants.{AreGrantsOf}
use Rattle.expand_grants.proofs.expand.of_subjects.Given as goal

abbrev pub invariant-loop-index : goal.invariant-loop-index
invariant-loop-index l = AllZip (AreGrantsOf l.policy) (take l.index l.policy.subjects) l.grants
