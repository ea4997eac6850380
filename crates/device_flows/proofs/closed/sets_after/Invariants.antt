use Rattle.std.proofs.Common.{◌≡◌, map, take}
use Rattle.policy_lawful.specs.Resolution.{source_of}
use Rattle.flow_report.specs.Marks.{after_rounds}
use Rattle.device_flows.specs.DeviceFlows.{is_subject}
use Rattle.device_flows.specs.Ends.{ends_of}
use Rattle.device_flows.proofs.closed.sets_after.Given as goal

abbrev pub invariant-loop-subject : goal.invariant-loop-subject
invariant-loop-subject l = l.sets ≡ map (λ s. after_rounds l.rows (map (is_subject s.name) (ends_of (source_of l.policy))) l.rounds) (take l.subject-index l.subjects)
