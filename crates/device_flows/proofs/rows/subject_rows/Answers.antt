use Rattle.std.proofs.Common.{◌∷◌, [], ◌++◌, sym, ◌∙◌}
use Rattle.device_flows.specs.ByIndex.{subject_row}
use Rattle.device_flows.proofs.Enumerated.{mapped_read}
use Rattle.device_flows.proofs.rows.subject_rows.Goals as goal

pub loop-index-preserved : goal.loop-index-preserved
loop-index-preserved c =
    let r = c.args.policy.now in
    c.in_ok-push.ensures.items
    ∙ (λ i. c.loop-index.invariant i ++ (c.of.ensures ∙ c.in_ok-subject_row.ensures) i ∷ [])
    ∙ sym (mapped_read (subject_row r) r.subjects _ c.loop-index.index c.subject-item.result c.subjects-subject-items.ensures.value c.loop-index-test.true c.subject-item.is)
