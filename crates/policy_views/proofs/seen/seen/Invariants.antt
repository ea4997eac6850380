use Rattle.std.proofs.Common.{◌≡◌, map, take}
use Rattle.policy_lawful.specs.Views.{seen_by}
use Rattle.policy_views.proofs.seen.seen.Given as goal

abbrev pub invariant-loop-subject : goal.invariant-loop-subject
invariant-loop-subject l = l.seen ≡ map (seen_by l.policy) (take l.subject-index l.policy.subjects)
