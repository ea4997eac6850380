use Rattle.binary_form.proofs.Theorem.{stays, before, only_short}
use Rattle.image_pack.specs.Image.{image}
use Rattle.image_pack.proofs.ImageLaws.{image_laws}
use Rattle.image_pack.proofs.image.first_fault.Goals as goal

pub returns : goal.returns
returns c = record { stays = stays image image_laws; before = before image image_laws; short = only_short image image_laws }
