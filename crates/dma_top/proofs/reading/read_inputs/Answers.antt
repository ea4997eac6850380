use Rattle.std.proofs.lemmas.Result.{err_from_is_err_and}
use Rattle.image_load.specs.Resolving.{image_bench, image_record}
use Rattle.muen_num.specs.declared.limits.TheConstants.{RECORD_MOST}
use Rattle.record_text.specs.Reading.{record_of}
use Rattle.record_text.specs.Steps.{mapped}
use Rattle.record_text.specs.declared.fault.RecordFault.TheVariants.{NoMemory}
use Rattle.dma_top.specs.declared.refusal.Refusal.TheVariants.{Record as RecordOf}
use Rattle.dma_top.proofs.FilesRead.{file_means, file_refused, file_unread}
use Rattle.dma_top.proofs.reading.read_inputs.Goals as goal

-- the file isn't read
pub returns-in_err-bytes-clause-err : goal.returns-in_err-bytes-clause-err
returns-in_err-bytes-clause-err g c =
    let left = err_from_is_err_and c.from_residual.result c.from_residual.ensures.1 in
    rw (left.1, left.2)
    (file_unread c.args.name.now RECORD_MOST (λ bytes. mapped (image_record c.args.image.now) (record_of bytes (image_bench c.args.image.now))) RecordOf _ _ _ c.in_err-bytes.field-0.0 c.in_err-bytes.ensures.err)

pub returns-in-Ok-clause-ok : goal.returns-in-Ok-clause-ok
returns-in-Ok-clause-ok g c =
    file_means c.args.name.now RECORD_MOST (λ bytes. mapped (image_record c.args.image.now) (record_of bytes (image_bench c.args.image.now))) RecordOf _ _ _ c.in_ok-bytes.bytes c.in_ok-bytes.ensures.ok c.in-Ok.inputs
    (rw c.items.ensures at c.in-Ok.ensures.exact)

pub returns-clause-err : goal.returns-clause-err
returns-clause-err g c =
    file_refused c.args.name.now RECORD_MOST (λ bytes. mapped (image_record c.args.image.now) (record_of bytes (image_bench c.args.image.now))) RecordOf _ _ _ c.in_ok-bytes.bytes c.in_ok-bytes.ensures.ok NoMemory c.in-Err.fault
    (rw c.items.ensures at c.in-Err.ensures.exact) _ c.record_error.ensures
