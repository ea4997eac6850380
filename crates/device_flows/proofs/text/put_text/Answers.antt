use Rattle.std.proofs.Common.{◌≡◌, ap, ◌∙◌, subst}
use Rattle.muen_outside.specs.Prints.{Prints}
use Rattle.policy_lawful.specs.Resolution.{source_of}
use Rattle.flow_report.specs.TextByIndex.{lines_text}
use Rattle.flow_report.proofs.TextOfFlows.{lines_same}
use Rattle.device_flows.specs.DeviceFlows.{device_closure_of, device_flow_text_of}
use Rattle.device_flows.proofs.text.put_text.Goals as goal

pub returns : goal.returns
unfolding device_flow_text_of
returns g c =
    let r = c.args.policy.now in
    let subjects = c.subjects.ensures.value ∙ ap (λ r. r.subjects) c.resolved.ensures.value in
    let same : lines_text c.subjects.result.now c.sets.result.now ≡ device_flow_text_of (source_of r) =
    (λ i. lines_text (subjects i) (c.sets.ensures i)) ∙ lines_same r c.args.flows.now (device_closure_of (source_of r)) c.requires in
    subst (λ text. Prints g.S.Sink.state text c.args.out.now c.put_lines.new.out c.put_lines.result) same c.put_lines.ensures
