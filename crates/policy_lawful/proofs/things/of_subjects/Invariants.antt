-- What is known while the subjects are gone through.
use Rattle.std.proofs.Common.{◌≡◌, take}
use Rattle.std.specs.List.{flat_map}
use Rattle.policy_lawful.specs.Things.{brought_things}
use Rattle.policy_lawful.proofs.things.of_subjects.Given as goal

abbrev pub invariant-loop-subject : goal.invariant-loop-subject
invariant-loop-subject l = l.things.items ≡ flat_map (brought_things l.components) (take l.subject-index l.subjects)
