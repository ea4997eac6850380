use Rattle.std.proofs.Common.{sym, ap, ◌∙◌}
use Rattle.image_pack.specs.Image.{image}
use Rattle.proof_build.proofs.OneImage.{images_are_one as parts_are_one}
use Rattle.muen_build.proofs.image_bytes.images_are_one.Goals as goal

pub returns : goal.returns
returns c = λ policy files a b x y. x.image.bytes_are ∙ ap (λ i. image.spell i) (parts_are_one policy files x.parts y.parts x.made y.made) ∙ sym y.image.bytes_are
