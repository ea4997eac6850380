use Rattle.binary_form.proofs.Theorem.{back, spelled, apart}
use Rattle.dma_tables.specs.DmaFile.{dma_file}
use Rattle.dma_tables.proofs.FileLaws.{file_laws}
use Rattle.dma_tables.proofs.tables.one_to_one.Goals as goal

pub returns : goal.returns
returns c = record {
  back = back dma_file file_laws;
  spelled = λ bytes i fits e. let h = spelled dma_file file_laws bytes i fits e in record { tables = h.0; bytes_are = h.1 };
  apart = apart dma_file file_laws;
}
