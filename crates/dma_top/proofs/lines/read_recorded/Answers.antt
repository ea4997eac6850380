use Rattle.std.proofs.lemmas.Result.{err_from_is_err_and}
use Rattle.std.proofs.Common.{◌∙◌}
use Rattle.dma_top.proofs.LinesRead.{all_there, no_image, no_record, no_tables}
use Rattle.dma_top.proofs.lines.read_recorded.Goals as goal

pub returns-in_err-image-clause-err : goal.returns-in_err-image-clause-err
returns-in_err-image-clause-err g c =
    let left = err_from_is_err_and c.from_residual.result c.from_residual.ensures.1 in
    rw (left.1, left.2) (no_image c.args.image.now c.args.inputs.now c.args.tables.now _ _ _ c.in_err-image.field-0.0 c.in_err-image.ensures.err)

pub returns-in_err-tables-clause-err : goal.returns-in_err-tables-clause-err
returns-in_err-tables-clause-err g c =
    let left = err_from_is_err_and c.from_residual-in_err-tables.result c.from_residual-in_err-tables.ensures.1 in
    rw (left.1, left.2)
    (no_tables c.args.image.now c.args.inputs.now c.args.tables.now _ _ _ c.in_ok-image.image c.in_ok-image.ensures.ok _ c.in_ok-image.ensures.held _ c.in_err-tables.field-0.0 c.in_err-tables.ensures.err)

pub returns-in_err-inputs-clause-err : goal.returns-in_err-inputs-clause-err
returns-in_err-inputs-clause-err g c =
    let left = err_from_is_err_and c.from_residual-in_err-inputs.result c.from_residual-in_err-inputs.ensures.1 in
    rw (left.1, left.2)
    (no_record c.args.image.now c.args.inputs.now c.args.tables.now _ _ _ c.in_ok-image.image c.in_ok-image.ensures.ok _ c.in_ok-image.ensures.held _ c.in_ok-tables.tables c.in_ok-tables.ensures.ok _ c.in_ok-tables.ensures.held _
    c.in_err-inputs.field-0.0 c.in_err-inputs.ensures.err)

pub returns-clause-ok : goal.returns-clause-ok
returns-clause-ok g c =
    all_there c.args.image.now c.args.inputs.now c.args.tables.now _ _ _ c.in_ok-image.image c.in_ok-image.ensures.ok _ c.in_ok-image.ensures.held _ c.in_ok-tables.tables c.in_ok-tables.ensures.ok _ c.in_ok-tables.ensures.held _
    c.in_ok-inputs.inputs c.in_ok-inputs.ensures.ok

pub returns-clause-held : goal.returns-clause-held
returns-clause-held g c = c.in_ok-inputs.ensures.held ∙ c.in_ok-tables.ensures.held ∙ c.in_ok-image.ensures.held
