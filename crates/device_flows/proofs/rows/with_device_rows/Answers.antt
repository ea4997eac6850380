use Rattle.std.proofs.Common.{◌∷◌, [], ◌++◌, map, take, sym, ap, ◌∙◌, append_assoc}
use Rattle.device_flows.specs.ByIndex.{device_row}
use Rattle.device_flows.proofs.Enumerated.{mapped_read}
use Rattle.device_flows.proofs.rows.with_device_rows.Goals as goal

pub loop-number-preserved : goal.loop-number-preserved
loop-number-preserved c =
    let r = c.args.policy.now in
    let rows = c.args.rows.items in
    let d = c.device-item.result in
    c.in_ok-push.ensures.items
    ∙ (λ i. c.loop-number.invariant i ++ (c.of.ensures ∙ c.in_ok-device_row.ensures) i ∷ [])
    ∙ append_assoc rows (map (device_row r) (take c.loop-number.number r.devices)) (device_row r d ∷ [])
    ∙ ap (λ xs. rows ++ xs) (sym (mapped_read (device_row r) r.devices _ c.loop-number.number d c.devices-device-items.ensures.value c.loop-number-test.true c.device-item.is))
