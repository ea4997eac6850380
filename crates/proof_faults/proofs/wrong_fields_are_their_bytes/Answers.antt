use Rattle.image_pack.specs.Image.{image}
use Rattle.proof_faults.specs.Room.{room_of}
use Rattle.proof_faults.proofs.Fronts.{bad_alike, bad_begins, bad_behind}
use Rattle.proof_faults.proofs.ImageFields.{image_local}
use Rattle.proof_faults.proofs.WrongFields.{wrong_field}
use Rattle.proof_faults.proofs.wrong_fields_are_their_bytes.Goals as goal

pub returns : goal.returns
returns c = record {
  decided = bad_behind room_of image image_local;
  alike = λ bytes other at f e same. bad_alike room_of image image_local bytes other at f same e;
  begins = bad_begins room_of image image_local;
  exact = wrong_field room_of image image_local;
}
