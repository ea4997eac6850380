use Rattle.dma_tables.proofs.FileSizes.{file_bounded, file_bytes, file_sized}
use Rattle.dma_tables.proofs.tables.tables_are_bytes.Goals as goal

pub returns : goal.returns
returns c = record { spelled = file_sized.bytes; bytes = file_bytes; bounded = file_bounded }
