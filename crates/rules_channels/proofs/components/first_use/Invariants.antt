use Rattle.std.proofs.Common.{◌≡◌, drop}
use Rattle.muen_num.specs.Search.{first_in}
use Rattle.rules_channels.specs.Components.{subject_offence}
use Rattle.rules_channels.proofs.components.first_use.Given as goal

abbrev pub invariant-loop-subject : goal.invariant-loop-subject
invariant-loop-subject l = first_in (subject_offence l.policy) (drop l.subject-index l.subjects) ≡ first_in (subject_offence l.policy) l.subjects
