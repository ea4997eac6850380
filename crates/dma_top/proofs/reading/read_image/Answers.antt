use Rattle.std.proofs.lemmas.Result.{err_from_is_err_and}
use Rattle.image_pack.specs.Faults.{unpacked}
use Rattle.image_pack.specs.fault.ImageFault.TheVariants.{NoMemory}
use Rattle.image_pack.specs.Image.{image as image_form}
use Rattle.muen_num.specs.declared.limits.TheConstants.{IMAGE_MOST}
use Rattle.dma_top.specs.declared.refusal.Refusal.TheVariants.{Image as ImageOf}
use Rattle.dma_top.proofs.FilesRead.{file_means, file_refused, file_unread, wanted_answers}
use Rattle.dma_top.proofs.reading.read_image.Goals as goal

-- the file isn't read
pub returns-in_err-bytes-clause-err : goal.returns-in_err-bytes-clause-err
returns-in_err-bytes-clause-err g c =
    let left = err_from_is_err_and c.from_residual.result c.from_residual.ensures.1 in
    rw (left.1, left.2) (file_unread c.args.name.now IMAGE_MOST (unpacked image_form) ImageOf _ _ _ c.in_err-bytes.field-0.0 c.in_err-bytes.ensures.err)

pub returns-in-Ok-clause-ok : goal.returns-in-Ok-clause-ok
returns-in-Ok-clause-ok g c = file_means c.args.name.now IMAGE_MOST (unpacked image_form) ImageOf _ _ _ c.in_ok-bytes.bytes c.in_ok-bytes.ensures.ok c.in-Ok.parts (rw c.items.ensures at c.in-Ok.ensures.exact)

pub returns-clause-err : goal.returns-clause-err
returns-clause-err g c =
    file_refused c.args.name.now IMAGE_MOST (unpacked image_form) ImageOf _ _ _ c.in_ok-bytes.bytes c.in_ok-bytes.ensures.ok NoMemory c.in-Err.fault (wanted_answers _ c.in-Err.fault (rw c.items.ensures at c.in-Err.ensures.exact)) _ c.image_error.ensures
