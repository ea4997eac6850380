use Rattle.std.proofs.Common.{sym, ◌∙◌}
use Rattle.policy_lawful.proofs.SeenAtIndex.{views_there}
use Rattle.device_flows.specs.ByIndex.{tells_at}
use Rattle.flow_report.proofs.IndexesOfSubjects.{is_in_range}
use Rattle.device_flows.proofs.Touches.{tells_same}
use Rattle.device_flows.proofs.touch.tells.Goals as goal

pub returns : goal.returns
returns c =
    let r = c.args.policy.now in
    let s = c.args.subject.now in
    let d = c.args.device.now in
    let views = c.views-views.ensures ∙ views_there r c.args.index s c.requires.subject in
    c.tells_at.ensures
    ∙ (λ i. tells_at (c.device_domains-domains.ensures i) (views i) s c.args.number d)
    ∙ sym (tells_same r c.requires.resolved s (is_in_range r c.requires.resolved c.args.index s (record { at = c.requires.subject })) c.args.number d c.requires.device)
