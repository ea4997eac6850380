-- No subject so far offends.
use Rattle.std.proofs.Common.{◌≡◌, drop}
use Rattle.muen_num.specs.Search.{first_in}
use Rattle.rules_devices.specs.Ranges.{msrs_offence}
use Rattle.rules_devices.proofs.msrs.of_subjects.Given as goal

abbrev pub invariant-loop-subject : goal.invariant-loop-subject
invariant-loop-subject l = first_in msrs_offence (drop l.subject-index l.subjects) ≡ first_in msrs_offence l.subjects
