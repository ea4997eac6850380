use Rattle.std.proofs.Common.{take}
use Rattle.std.specs.List.{sum_by}
use Rattle.rules_devices.specs.Grants.{times_by_use, TableAdds}
use Rattle.rules_devices.proofs.grants.count_uses.Given as goal

abbrev pub invariant-loop-granted : goal.invariant-loop-granted
invariant-loop-granted l = TableAdds l.initial.table l.table (λ k j. sum_by (times_by_use l.resource k j) (take l.granted-index l.uses))
