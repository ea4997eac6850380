use Rattle.dma_tables.specs.DmaFile.{dma_file}
use Rattle.proof_faults.specs.Room.{room_of}
use Rattle.proof_faults.proofs.Fronts.{bad_alike, bad_begins, bad_behind}
use Rattle.proof_faults.proofs.TableFields.{tables_local}
use Rattle.proof_faults.proofs.WrongFields.{wrong_field}
use Rattle.proof_faults.proofs.wrong_fields_of_tables_are_their_bytes.Goals as goal

pub returns : goal.returns
returns c = record {
  decided = bad_behind room_of dma_file tables_local;
  alike = λ bytes other at f e same. bad_alike room_of dma_file tables_local bytes other at f same e;
  begins = bad_begins room_of dma_file tables_local;
  exact = wrong_field room_of dma_file tables_local;
}
