use Rattle.std.proofs.Common.{take}
use Rattle.std.specs.List.{sum_by}
use Rattle.rules_devices.specs.Grants.{times_by_subject, TableAdds}
use Rattle.rules_devices.proofs.grants.count_subjects.Given as goal

abbrev pub invariant-loop-subject : goal.invariant-loop-subject
invariant-loop-subject l = TableAdds l.initial.table l.table (λ k j. sum_by (times_by_subject l.resource k j) (take l.subject-index l.subjects))
