use Rattle.std.proofs.Common.{◌≡◌, drop}
use Rattle.muen_num.specs.Search.{first_in}
use Rattle.rules_events.specs.Calls.{call_offence}
use Rattle.rules_events.proofs.hypercalls.first_call.Given as goal

abbrev pub invariant-loop-index : goal.invariant-loop-index
invariant-loop-index l = first_in (call_offence l.policy) (drop l.index l.policy.subjects) ≡ first_in (call_offence l.policy) l.policy.subjects
