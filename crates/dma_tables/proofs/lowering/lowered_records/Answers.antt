use Rattle.dma_tables.proofs.LoweredLaws.{can_run, still_record}
use Rattle.dma_tables.proofs.LoweredWrites.{each_byte, each_page}
use Rattle.dma_tables.proofs.lowering.lowered_records.Goals as goal

pub returns : goal.returns
returns c = record { records = still_record; can_run = can_run; each_byte = each_byte; each_page = each_page }
