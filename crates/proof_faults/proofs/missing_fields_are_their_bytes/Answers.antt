use Rattle.image_pack.specs.Image.{image}
use Rattle.proof_faults.specs.Room.{room_of}
use Rattle.proof_faults.proofs.Fronts.{short_begins, short_inside}
use Rattle.proof_faults.proofs.ImageFields.{image_local}
use Rattle.proof_faults.proofs.missing_fields_are_their_bytes.Goals as goal

pub returns : goal.returns
returns c = record { same = short_begins room_of image image_local; inside = short_inside room_of image image_local }
