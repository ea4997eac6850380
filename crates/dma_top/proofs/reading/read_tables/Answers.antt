use Rattle.std.proofs.lemmas.Result.{err_from_is_err_and}
use Rattle.image_pack.specs.Faults.{unpacked}
use Rattle.image_pack.specs.fault.ImageFault.TheVariants.{NoMemory}
use Rattle.dma_tables.specs.DmaFile.{dma_file}
use Rattle.muen_top.specs.declared.limits.TheConstants.{DMA_MOST}
use Rattle.dma_top.specs.declared.refusal.Refusal.TheVariants.{Tables as TablesOf}
use Rattle.dma_top.proofs.FilesRead.{file_means, file_refused, file_unread, wanted_answers}
use Rattle.dma_top.proofs.reading.read_tables.Goals as goal

-- the file isn't read
pub returns-in_err-bytes-clause-err : goal.returns-in_err-bytes-clause-err
returns-in_err-bytes-clause-err g c =
    let left = err_from_is_err_and c.from_residual.result c.from_residual.ensures.1 in
    rw (left.1, left.2) (file_unread c.args.name.now DMA_MOST (unpacked dma_file) TablesOf _ _ _ c.in_err-bytes.field-0.0 c.in_err-bytes.ensures.err)

pub returns-in-Ok-clause-ok : goal.returns-in-Ok-clause-ok
returns-in-Ok-clause-ok g c = file_means c.args.name.now DMA_MOST (unpacked dma_file) TablesOf _ _ _ c.in_ok-bytes.bytes c.in_ok-bytes.ensures.ok c.in-Ok.tables (rw c.items.ensures at c.in-Ok.ensures.exact)

pub returns-clause-err : goal.returns-clause-err
returns-clause-err g c =
    file_refused c.args.name.now DMA_MOST (unpacked dma_file) TablesOf _ _ _ c.in_ok-bytes.bytes c.in_ok-bytes.ensures.ok NoMemory c.in-Err.fault (wanted_answers _ c.in-Err.fault (rw c.items.ensures at c.in-Err.ensures.exact)) _ c.tables_error.ensures
