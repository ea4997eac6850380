use Rattle.std.proofs.Common.{◌∷◌, [], ◌++◌, sym, ◌∙◌}
use Rattle.policy_lawful.specs.Resolution.{source_of, subject_named}
use Rattle.device_flows.specs.Ends.{tells}
use Rattle.device_flows.proofs.Enumerated.{mapped_read}
use Rattle.device_flows.proofs.rows.told_devices.Goals as goal

pub loop-number-preserved : goal.loop-number-preserved
loop-number-preserved c =
    let r = c.args.policy.now in
    c.in_ok-push.ensures.items
    ∙ (λ i. c.loop-number.invariant i ++ c.tells.ensures i ∷ [])
    ∙ sym (mapped_read (tells (source_of r) (subject_named r c.args.subject.now)) r.devices _ c.loop-number.number c.device-item.result c.devices-device-items.ensures.value c.loop-number-test.true c.device-item.is)
