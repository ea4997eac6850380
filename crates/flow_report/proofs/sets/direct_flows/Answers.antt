use Rattle.std.proofs.Common.{ap, ◌∙◌}
use Rattle.policy_lawful.specs.Resolution.{source_of}
use Rattle.flow_report.specs.ByIndex.{rows_of}
use Rattle.flow_report.specs.Sets.{direct_flows_of}
use Rattle.flow_report.proofs.FlowsByIndex.{rows_same}
use Rattle.flow_report.proofs.sets.direct_flows.Goals as goal

pub returns : goal.returns
returns c =
    c.in_ok-rows.ensures
    ∙ ap rows_of (c.deref.ensures.value ∙ c.in_ok-all_contacts.ensures.all_contacts)
    ∙ rows_same c.resolved.result.now c.in_ok-all_contacts.ensures.resolved
    ∙ ap (λ r. direct_flows_of (source_of r)) c.resolved.ensures.value
