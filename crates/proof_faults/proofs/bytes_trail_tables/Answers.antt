use Rattle.dma_tables.specs.DmaFile.{dma_file}
use Rattle.proof_faults.specs.Room.{room_of}
use Rattle.proof_faults.proofs.TrailingBytes.{trailing_begins, trailing_inside, trails}
use Rattle.proof_faults.proofs.TableFields.{tables_local}
use Rattle.proof_faults.proofs.bytes_trail_tables.Goals as goal

pub returns : goal.returns
returns c = record { before = trailing_begins room_of dma_file tables_local; inside = trailing_inside room_of dma_file tables_local; trails = trails room_of dma_file tables_local }
