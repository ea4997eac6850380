use Rattle.std.proofs.Common.{◌≡◌, map, take}
use Rattle.policy_lawful.specs.Resolution.{source_of, subject_named}
use Rattle.device_flows.specs.Ends.{hears}
use Rattle.device_flows.proofs.rows.hearers.Given as goal

abbrev pub invariant-loop-index : goal.invariant-loop-index
invariant-loop-index l = l.hear.items ≡ map (λ s. hears (source_of l.policy) (subject_named l.policy s) l.device) (take l.index l.policy.subjects)
