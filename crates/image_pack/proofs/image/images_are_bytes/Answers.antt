use Rattle.image_pack.proofs.ImageSizes.{image_bounded, image_bytes, image_sized, longest_fits}
use Rattle.image_pack.proofs.image.images_are_bytes.Goals as goal

pub returns : goal.returns
returns c = record { spelled = image_sized.bytes; bytes = image_bytes; bounded = image_bounded; within = longest_fits }
