use Rattle.std.proofs.Common.{◌≡◌, map, take}
use Rattle.device_flows.specs.ByIndex.{subject_row}
use Rattle.device_flows.proofs.rows.subject_rows.Given as goal

abbrev pub invariant-loop-index : goal.invariant-loop-index
invariant-loop-index l = l.rows.items ≡ map (subject_row l.policy) (take l.index l.policy.subjects)
