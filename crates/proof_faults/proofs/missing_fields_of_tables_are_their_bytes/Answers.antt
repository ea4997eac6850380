use Rattle.dma_tables.specs.DmaFile.{dma_file}
use Rattle.proof_faults.specs.Room.{room_of}
use Rattle.proof_faults.proofs.Fronts.{short_begins, short_inside}
use Rattle.proof_faults.proofs.TableFields.{tables_local}
use Rattle.proof_faults.proofs.missing_fields_of_tables_are_their_bytes.Goals as goal

pub returns : goal.returns
returns c = record { same = short_begins room_of dma_file tables_local; inside = short_inside room_of dma_file tables_local }
