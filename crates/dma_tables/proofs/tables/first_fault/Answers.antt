use Rattle.binary_form.proofs.Theorem.{stays, before, only_short}
use Rattle.dma_tables.specs.DmaFile.{dma_file}
use Rattle.dma_tables.proofs.FileLaws.{file_laws}
use Rattle.dma_tables.proofs.tables.first_fault.Goals as goal

pub returns : goal.returns
returns c = record { stays = stays dma_file file_laws; before = before dma_file file_laws; short = only_short dma_file file_laws }
