use Rattle.std.proofs.Common.{◌≡◌, map, take}
use Rattle.policy_views.specs.Parts.{sight_of}
use Rattle.policy_views.proofs.linked.sights.Given as goal

abbrev pub invariant-loop-subject : goal.invariant-loop-subject
invariant-loop-subject l = l.sights ≡ map (sight_of l.policy) (take l.subject-index l.policy.subjects)
