use Rattle.std.proofs.Common.{length, ap, sym, subst, ◌∙◌}
use Rattle.std.proofs.lemmas.List.{length-map}
use Rattle.policy_lawful.specs.Resolution.{source_of}
use Rattle.device_flows.specs.ByIndex.{row_of, sets_after}
use Rattle.device_flows.specs.DeviceFlows.{AreDeviceFlows}
use Rattle.device_flows.specs.Ends.{ends_of}
use Rattle.device_flows.proofs.JoinedRows.{sets_are}
use Rattle.device_flows.proofs.closed.device_flows.Goals as goal

pub returns : goal.returns
returns c =
    let r = c.args.policy.now in
    let rows = c.in_ok-rows.ensures in
    let many = c.len.ensures ∙ c.in_ok-rows.rows.ok.0 ∙ ap length rows ∙ length-map (ends_of (source_of r)) (row_of r) in
    let subjects = c.subjects.ensures.value ∙ ap (λ r. r.subjects) c.resolved-resolved.ensures.value in
    let computed = c.of.ensures ∙ c.in_ok-sets.ensures ∙ (λ i. sets_after (c.resolved-resolved.ensures.value i) (subjects i) (c.deref.ensures.value i) c.len.result) in
    subst (AreDeviceFlows (source_of r)) (sym computed) (sets_are r c.in_ok-rows.rows.items rows c.len.result many)
