use Rattle.std.proofs.Common.{◌≡◌, sym, ap, subst, length, ◌∙◌}
use Rattle.policy_lawful.specs.Resolution.{source_of}
use Rattle.flow_report.specs.ByIndex.{all_contacts_of}
use Rattle.flow_report.specs.Marks.{sets_after}
use Rattle.flow_report.specs.Sets.{AreFlows, HaveMarksOf}
use Rattle.flow_report.proofs.FlowsByIndex.{flows_are, marks_are}
use Rattle.flow_report.proofs.MarkedSets.{least_from}
use Rattle.flow_report.proofs.SetsApart.{apart_from}
use Rattle.flow_report.proofs.sets.flows.Goals as goal

pub returns : goal.returns
returns c =
    let p = source_of c.args.policy.now in
    let contacts = c.deref.ensures.value ∙ c.in_ok-all_contacts.ensures.all_contacts in
    let many : c.len.result ≡ length (all_contacts_of c.resolved.result.now) = c.len.ensures ∙ c.in_ok-all_contacts.all_contacts.ok.0 ∙ ap length c.in_ok-all_contacts.ensures.all_contacts in
    let computed = c.in_ok-sets.ensures ∙ (λ i. sets_after (contacts i) (many i)) in
    let are : AreFlows p c.in_ok-sets.sets =
    subst (λ r. AreFlows (source_of r) c.in_ok-sets.sets) c.resolved.ensures.value
    (subst (AreFlows (source_of c.resolved.result.now)) (sym computed) (flows_are c.resolved.result.now c.in_ok-all_contacts.ensures.resolved)) in
    let marks : HaveMarksOf p c.in_ok-sets.sets =
    subst (λ r. HaveMarksOf (source_of r) c.in_ok-sets.sets) c.resolved.ensures.value
    (subst (HaveMarksOf (source_of c.resolved.result.now)) (sym computed) (marks_are c.resolved.result.now c.in_ok-all_contacts.ensures.resolved)) in
    record {
      sets = are;
      marks = marks;
      least = least_from p c.in_ok-sets.sets are;
      apart = apart_from p c.resolved.ensures.lawful c.in_ok-sets.sets are;
    }
