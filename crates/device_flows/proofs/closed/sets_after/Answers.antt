use Rattle.std.proofs.Common.{[], ◌∷◌, ◌++◌, map, refl, sym, ap, ◌∙◌}
use Rattle.policy_lawful.specs.Resolution.{source_of}
use Rattle.policy_lawful.specs.declared.resolved.Subject.{Subject}
use Rattle.flow_report.specs.Marks.{after_rounds}
use Rattle.device_flows.specs.DeviceFlows.{is_subject}
use Rattle.device_flows.specs.Ends.{ends_of}
use Rattle.device_flows.proofs.Enumerated.{mapped_read}
use Rattle.device_flows.proofs.closed.sets_after.Goals as goal

pub loop-subject-preserved : goal.loop-subject-preserved
loop-subject-preserved c =
    let rows = c.args.rows.now in
    c.in_ok-push.ensures.ok
    ∙ (λ i. c.loop-subject.invariant i ++ (c.of.ensures ∙ c.in_ok-marks_after.ensures ∙ ap (λ marks. after_rounds rows marks c.args.rounds) c.in_ok-alone.ensures) i ∷ [])
    ∙ sym (mapped_read (λ (s : Subject). after_rounds rows (map (is_subject s.name) (ends_of (source_of c.args.policy.now))) c.args.rounds) c.args.subjects.now _ c.loop-subject.subject-index c.subject-item.result refl c.loop-subject-test.true c.subject-item.is)
