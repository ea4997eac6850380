use Rattle.image_pack.proofs.PartsKeep.{parts_keep}
use Rattle.proof_start.proofs.Fixes.{fixed_of}
use Rattle.proof_start.proofs.sound_images_hold_together.Goals as goal

pub returns : goal.returns
returns c = λ p files i sound. fixed_of p files i (parts_keep i sound.parts) sound
