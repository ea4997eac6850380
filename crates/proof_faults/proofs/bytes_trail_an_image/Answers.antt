use Rattle.image_pack.specs.Image.{image}
use Rattle.proof_faults.specs.Room.{room_of}
use Rattle.proof_faults.proofs.TrailingBytes.{trailing_begins, trailing_inside, trails}
use Rattle.proof_faults.proofs.ImageFields.{image_local}
use Rattle.proof_faults.proofs.bytes_trail_an_image.Goals as goal

pub returns : goal.returns
returns c = record { before = trailing_begins room_of image image_local; inside = trailing_inside room_of image image_local; trails = trails room_of image image_local }
