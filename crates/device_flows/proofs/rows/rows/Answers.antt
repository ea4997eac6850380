use Rattle.std.proofs.Common.{◌++◌, map, sym, ap, ◌∙◌}
use Rattle.policy_lawful.specs.Resolution.{source_of}
use Rattle.flow_report.specs.Sets.{direct_flows_of}
use Rattle.device_flows.specs.ByIndex.{device_row, subject_row}
use Rattle.device_flows.proofs.JoinedRows.{rows_are}
use Rattle.device_flows.proofs.rows.rows.Goals as goal

pub returns : goal.returns
returns c =
    c.in_ok-rows-2.ensures
    ∙ (λ i. (c.in_ok-rows.ensures ∙ (λ j. map (subject_row (c.resolved.ensures.value j)) (c.resolved.ensures.value j).subjects)) i
    ++ map (device_row (c.resolved-2.ensures.value i)) (c.resolved-2.ensures.value i).devices)
    ∙ rows_are c.args.policy.now

pub subject_rows-requires : goal.subject_rows-requires
subject_rows-requires c = c.deref.ensures.value ∙ c.in_ok-direct.ensures ∙ ap (λ r. direct_flows_of (source_of r)) (sym c.resolved.ensures.value)
