use Rattle.std.proofs.Common.{[], ◌++◌, ◌∙◌}
use Rattle.std.specs.Prelude.{slice_index_or}
use Rattle.device_flows.proofs.JoinedRows.{subject_row_is}
use Rattle.device_flows.proofs.rows.subject_row.Goals as goal

pub returns : goal.returns
returns c =
    c.in_ok-row.ensures
    ∙ (λ i. (c.marks_at.ensures ∙ (λ j. slice_index_or (c.requires.direct j) c.args.index [])) i ++ (c.deref.ensures.value ∙ c.in_ok-told.ensures) i)
    ∙ subject_row_is c.args.policy.now c.args.index c.args.subject.now c.requires.subject
