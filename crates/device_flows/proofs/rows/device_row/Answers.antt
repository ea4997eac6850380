use Rattle.std.proofs.Common.{◌++◌, ◌∙◌}
use Rattle.device_flows.proofs.JoinedRows.{device_row_is}
use Rattle.device_flows.proofs.rows.device_row.Goals as goal

pub returns : goal.returns
returns c =
    c.in_ok-row.ensures
    ∙ (λ i. (c.deref.ensures.value ∙ c.in_ok-hear.ensures) i ++ (c.deref-2.ensures.value ∙ c.in_ok-together.ensures) i)
    ∙ device_row_is c.args.policy.now c.args.device.now
